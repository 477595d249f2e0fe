-- A line end behind a text of JSON changes nothing of what is read.
use Rattle.std.proofs.Common.{◌≡◌, ◌+◌, ℕ, Bool, true, false, List, [], ◌∷◌, ◌++◌, Option, Some, None, option_map, option_and_then, length, take, drop, refl, ap, ap₂, ◌∙◌, arith}
use Rattle.std.specs.Prelude.{◌-◌, ◌==◌, ◌&&◌, ◌||◌, cond, nat_eq, nat_lt}
use Rattle.std.specs.Char.{is_ascii_digit, is_digit, encode_utf8}
use Rattle.std.specs.List.{AllByRecursion, prefix_len, starts_with}
use Rattle.std.specs.Str.{IsUtf8}
use Rattle.std.proofs.lemmas.List.{drop-append-le, take-append-le, length-append}
use Rattle.std.proofs.lemmas.List.Sums.{prefix_len-le-length}
use Rattle.std.proofs.lemmas.Str.{IsUtf8-append}
use Rattle.json.proofs.Printed.Utf8.{IsUtf8-are_ascii}
use Rattle.json.specs.Ascii as ascii
use Rattle.json.specs.Json as json
use Rattle.json.specs.Lex.{token, operator_lexeme, string_token, Class, quote, backslash, operator, space, other, class, Mode, between, in_word, in_string, in_escape, lex_byte, lex, punctuate, fresh}
use Rattle.json.specs.Text.{Within, plain, after_backslash, after_u, after_high, prepend, code_unit, short_escape, is_high_surrogate, is_low_surrogate, surrogate_pair, content}
use Rattle.json.specs.Token.{Token, number, boolean, null, bad}
use Rattle.json.specs.Word.{ends_word, after_digits, after_minus, after_sign, after_whole, after_fraction, after_exponent, after_number, number_before, literal, word}
use Rattle.serde_json.specs.Read.{read, of_json, max_depth}

abbrev line_end : List ℕ
line_end = 10 ∷ []

-- ---- the content of a string

three_and_none : (a b c : Bool) (some : Option ℕ) → cond (a && b && c && false) some None ≡ None
three_and_none true true true some = refl
three_and_none true true false some = refl
three_and_none true false c some = refl
three_and_none false b c some = refl

no_unit : (a b c : ℕ) → code_unit a b c 10 ≡ None
unfolding code_unit
no_unit a b c = three_and_none (is_digit a 16) (is_digit b 16) (is_digit c 16) _

none_either_way : (b : Bool) → ◌≡◌ {A = Option (List ℕ)} (cond b None None) None
none_either_way true = refl
none_either_way false = refl

content_line : (m : Within) (xs : List ℕ) → content m (xs ++ line_end) ≡ content m xs
unfolding content short_escape
content_line plain [] = refl
content_line plain (x ∷ xs) =
    ap₂ (λ a b. cond (x == ascii.quote) (Some []) (cond (x == ascii.backslash) a (cond (nat_lt x ascii.space) None (prepend (x ∷ []) b)))) (content_line after_backslash xs)
    (content_line plain xs)
content_line after_backslash [] = refl
content_line after_backslash (x ∷ xs) =
    ap₂ (λ a b. cond (x == ascii.lower_u) a (option_and_then (λ c. prepend (c ∷ []) b) (short_escape x))) (content_line after_u xs) (content_line plain xs)
content_line after_u [] = refl
content_line after_u (a ∷ []) = refl
content_line after_u (a ∷ b ∷ []) = refl
content_line after_u (a ∷ b ∷ c ∷ []) = rw (no_unit a b c) refl
content_line after_u (a ∷ b ∷ c ∷ d ∷ xs) = go (code_unit a b c d) (λ u. content_line (after_high u) xs) (content_line plain xs)
  where
    go : (o : Option ℕ) → ((u : ℕ) → content (after_high u) (xs ++ line_end) ≡ content (after_high u) xs) → content plain (xs ++ line_end) ≡ content plain xs
        → option_and_then (λ u. cond (is_high_surrogate u) (content (after_high u) (xs ++ line_end)) (cond (is_low_surrogate u) None (prepend (encode_utf8 u) (content plain (xs ++ line_end))))) o
        ≡ option_and_then (λ u. cond (is_high_surrogate u) (content (after_high u) xs) (cond (is_low_surrogate u) None (prepend (encode_utf8 u) (content plain xs)))) o
    go None high low = refl
    go (Some u) high low = ap₂ (λ a b. cond (is_high_surrogate u) a (cond (is_low_surrogate u) None (prepend (encode_utf8 u) b))) (high u) low
content_line (after_high h) [] = refl
content_line (after_high h) (s ∷ []) = refl
content_line (after_high h) (s ∷ u ∷ []) = refl
content_line (after_high h) (s ∷ u ∷ a ∷ []) = refl
content_line (after_high h) (s ∷ u ∷ a ∷ b ∷ []) = refl
content_line (after_high h) (s ∷ u ∷ a ∷ b ∷ c ∷ []) = rw (no_unit a b c) (none_either_way ((s == ascii.backslash) && (u == ascii.lower_u)))
content_line (after_high h) (s ∷ u ∷ a ∷ b ∷ c ∷ d ∷ xs) =
    ap (λ rest. cond ((s == ascii.backslash) && (u == ascii.lower_u))
    (option_and_then (λ l. cond (is_low_surrogate l) (prepend (encode_utf8 (surrogate_pair h l)) rest) None) (code_unit a b c d)) None) (content_line plain xs)

-- ---- words

-- what is left, with the line end behind it
abbrev with_line : Option (List ℕ) → Option (List ℕ)
with_line rest = option_map (λ t. t ++ line_end) rest

ends_line : (t : List ℕ) → ends_word (t ++ line_end) ≡ ends_word t
ends_line [] = refl
ends_line (x ∷ xs) = refl

-- a name without a line feed
abbrev HasNoLine : List ℕ → Type 0
HasNoLine name = AllByRecursion (λ c. nat_eq c 10 ≡ false) name

name_line : (name t : List ℕ) → HasNoLine name
    → (starts_with nat_eq (t ++ line_end) name && ends_word (drop (length name) (t ++ line_end))) ≡ (starts_with nat_eq t name && ends_word (drop (length name) t))
name_line [] t none = ends_line t
name_line (n ∷ ns) [] none = go (nat_eq n 10) none.0
  where
    go : (b : Bool) → b ≡ false → ((b && starts_with nat_eq [] ns) && ends_word (drop (length ns) [])) ≡ false
    go true e = absurd cc
    go false e = refl
name_line (n ∷ ns) (x ∷ xs) none = go (nat_eq n x) (name_line ns xs none.1)
  where
    go : (b : Bool) → (starts_with nat_eq (xs ++ line_end) ns && ends_word (drop (length ns) (xs ++ line_end))) ≡ (starts_with nat_eq xs ns && ends_word (drop (length ns) xs))
        → ((b && starts_with nat_eq (xs ++ line_end) ns) && ends_word (drop (length ns) (xs ++ line_end))) ≡ ((b && starts_with nat_eq xs ns) && ends_word (drop (length ns) xs))
    go true e = e
    go false e = refl

literal_line : (name : List ℕ) (this : Token) (t : List ℕ) → HasNoLine name → literal name this (t ++ line_end) ≡ literal name this t
literal_line name this t none = ap (λ b. cond b this bad) (name_line name t none)

digits_as_many : (t : List ℕ) → prefix_len is_ascii_digit (t ++ line_end) ≡ prefix_len is_ascii_digit t
digits_as_many [] = refl
digits_as_many (x ∷ xs) = ap (λ n. cond (is_ascii_digit x) (1 + n) 0) (digits_as_many xs)

digits_line : (t : List ℕ) → after_digits (t ++ line_end) ≡ with_line (after_digits t)
digits_line t =
    ap (λ n. cond (n == 0) None (Some (drop n (t ++ line_end)))) (digits_as_many t)
    ∙ go (prefix_len is_ascii_digit t == 0) (drop-append-le (prefix_len is_ascii_digit t) t line_end (prefix_len-le-length is_ascii_digit t))
  where
    go : (b : Bool) → drop (prefix_len is_ascii_digit t) (t ++ line_end) ≡ drop (prefix_len is_ascii_digit t) t ++ line_end
        → cond b None (Some (drop (prefix_len is_ascii_digit t) (t ++ line_end))) ≡ with_line (cond b None (Some (drop (prefix_len is_ascii_digit t) t)))
    go true e = refl
    go false e = ap Some e

one_or_other : (b : Bool) (xs ys : List ℕ) → cond b (xs ++ line_end) (ys ++ line_end) ≡ cond b xs ys ++ line_end
one_or_other true xs ys = refl
one_or_other false xs ys = refl

minus_line : (t : List ℕ) → after_minus (t ++ line_end) ≡ after_minus t ++ line_end
minus_line [] = refl
minus_line (x ∷ xs) = one_or_other (x == ascii.minus) xs (x ∷ xs)

sign_line : (t : List ℕ) → after_sign (t ++ line_end) ≡ after_sign t ++ line_end
sign_line [] = refl
sign_line (x ∷ xs) = one_or_other ((x == ascii.minus) || (x == ascii.plus)) xs (x ∷ xs)

-- one of two answers, each with the line end behind it
either_line : (b : Bool) (one two with_one with_two : Option (List ℕ)) → with_one ≡ with_line one → with_two ≡ with_line two
    → cond b with_one with_two ≡ with_line (cond b one two)
either_line true one two with_one with_two e f = e
either_line false one two with_one with_two e f = f

whole_line : (t : List ℕ) → after_whole (t ++ line_end) ≡ with_line (after_whole t)
whole_line [] = refl
whole_line (x ∷ xs) = either_line (x == ascii.zero) (Some xs) (after_digits (x ∷ xs)) (Some (xs ++ line_end)) (after_digits ((x ∷ xs) ++ line_end)) refl (digits_line (x ∷ xs))

fraction_line : (t : List ℕ) → after_fraction (t ++ line_end) ≡ with_line (after_fraction t)
fraction_line [] = refl
fraction_line (x ∷ xs) = either_line (x == ascii.dot) (after_digits xs) (Some (x ∷ xs)) (after_digits (xs ++ line_end)) (Some ((x ∷ xs) ++ line_end)) (digits_line xs) refl

exponent_line : (t : List ℕ) → after_exponent (t ++ line_end) ≡ with_line (after_exponent t)
exponent_line [] = refl
exponent_line (x ∷ xs) =
    either_line ((x == ascii.lower_e) || (x == ascii.upper_e)) (after_digits (after_sign xs)) (Some (x ∷ xs)) (after_digits (after_sign (xs ++ line_end))) (Some ((x ∷ xs) ++ line_end))
    (ap after_digits (sign_line xs) ∙ digits_line (after_sign xs)) refl

-- one step after another
then_line : (f : List ℕ → Option (List ℕ)) → ((t : List ℕ) → f (t ++ line_end) ≡ with_line (f t)) → (o : Option (List ℕ)) → option_and_then f (with_line o) ≡ with_line (option_and_then f o)
then_line f line None = refl
then_line f line (Some t) = line t

number_line : (t : List ℕ) → after_number (t ++ line_end) ≡ with_line (after_number t)
unfolding after_number
number_line t =
    ap (λ s. option_and_then after_exponent (option_and_then after_fraction (after_whole s))) (minus_line t)
    ∙ (ap (λ o. option_and_then after_exponent (option_and_then after_fraction o)) (whole_line (after_minus t))
    ∙ (ap (option_and_then after_exponent) (then_line after_fraction fraction_line (after_whole (after_minus t)))
    ∙ then_line after_exponent exponent_line (option_and_then after_fraction (after_whole (after_minus t)))))

before_line : (t : List ℕ) (o : Option (List ℕ)) → number_before (t ++ line_end) (with_line o) ≡ number_before t o
before_line t None = refl
before_line t (Some rest) =
    let whole = length-append t line_end in
    let left = length-append rest line_end in
    let same : length (t ++ line_end) - length (rest ++ line_end) ≡ length t - length rest = omega (arith, whole, left) in
    ap₂ (λ b n. cond b (number (take n (t ++ line_end))) bad) (ends_line rest) same
    ∙ ap (λ s. cond (ends_word rest) (number s) bad) (take-append-le (length t - length rest) t line_end (omega arith))

word_line : (x : ℕ) (xs : List ℕ) → word ((x ∷ xs) ++ line_end) ≡ word (x ∷ xs)
unfolding word
word_line x xs =
    let t = x ∷ xs in
    ap (λ w. cond (x == ascii.lower_t) w (cond (x == ascii.lower_f) (literal ascii.false_text (boolean false) (t ++ line_end))
    (cond (x == ascii.lower_n) (literal ascii.null_text null (t ++ line_end)) (number_before (t ++ line_end) (after_number (t ++ line_end)))))) (literal_line ascii.true_text (boolean true) t (refl, (refl, (refl, (refl, tt)))))
    ∙ (ap (λ w. cond (x == ascii.lower_t) (literal ascii.true_text (boolean true) t) (cond (x == ascii.lower_f) w
    (cond (x == ascii.lower_n) (literal ascii.null_text null (t ++ line_end)) (number_before (t ++ line_end) (after_number (t ++ line_end)))))) (literal_line ascii.false_text (boolean false) t (refl, (refl, (refl, (refl, (refl, tt))))))
    ∙ ap₂ (λ v w. cond (x == ascii.lower_t) (literal ascii.true_text (boolean true) t) (cond (x == ascii.lower_f) (literal ascii.false_text (boolean false) t) (cond (x == ascii.lower_n) v w)))
    (literal_line ascii.null_text null t (refl, (refl, (refl, (refl, tt))))) (ap (number_before (t ++ line_end)) (number_line t) ∙ before_line t (after_number t)))

-- ---- lexemes

-- what is read at a byte, where the rest is read alike
byte_line : (m : Mode) (c : Class) (x : ℕ) (xs : List ℕ) → ((next : Mode) → lex next (xs ++ line_end) ≡ lex next xs)
    → lex_byte m c x (xs ++ line_end) (λ next. lex next (xs ++ line_end)) ≡ lex_byte m c x xs (λ next. lex next xs)
byte_line between quote x xs same = ap₂ (λ o ls. token (string_token o) ∷ ls) (content_line plain xs) (same in_string)
byte_line between backslash x xs same = ap (λ ls. token bad ∷ ls) (same in_word)
byte_line between operator x xs same = ap (λ ls. operator_lexeme x ∷ ls) (same between)
byte_line between space x xs same = same between
byte_line between other x xs same = ap₂ (λ w ls. token w ∷ ls) (word_line x xs) (same in_word)
byte_line in_word quote x xs same = same in_word
byte_line in_word backslash x xs same = same in_word
byte_line in_word operator x xs same = ap (λ ls. operator_lexeme x ∷ ls) (same between)
byte_line in_word space x xs same = same between
byte_line in_word other x xs same = same in_word
byte_line in_string quote x xs same = same between
byte_line in_string backslash x xs same = same in_escape
byte_line in_string operator x xs same = same in_string
byte_line in_string space x xs same = same in_string
byte_line in_string other x xs same = same in_string
byte_line in_escape c x xs same = same in_string

lex_line : (m : Mode) (xs : List ℕ) → lex m (xs ++ line_end) ≡ lex m xs
unfolding lex
lex_line between [] = refl
lex_line in_word [] = refl
lex_line in_string [] = refl
lex_line in_escape [] = refl
lex_line m (x ∷ xs) = byte_line m (class x) x xs (λ next. lex_line next xs)

-- ---- values

pub read_line : (text : List ℕ) → read (text ++ line_end) ≡ read text
read_line text = ap (λ ls. option_and_then of_json (option_and_then (λ p. json.if_last p.0 p.1) (json.value max_depth (punctuate fresh ls)))) (lex_line between text)

pub utf8_line : (text : List ℕ) → IsUtf8 text → IsUtf8 (text ++ line_end)
utf8_line text is = IsUtf8-append text line_end is (IsUtf8-are_ascii line_end refl)
