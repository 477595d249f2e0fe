-- What is lexed is spelled so.
use Rattle.std.proofs.Common.{◌≡◌, ℕ, zero, suc, ◌<◌, ◌≤◌, Bool, true, false, cond, eqb, eqb-true, List, [], ◌∷◌, ◌++◌, take, drop, length, Option, Some, None, refl, sym, ap, subst, ◌∙◌, arith, take-append-drop}
use Rattle.std.specs.List.{prefix_len}
use Rattle.std.specs.Char.{is_ascii_alphabetic, is_ascii_digit}
use Rattle.std.specs.Str.Parse.{digits_value}
use Rattle.pg_file_tokens.specs.declared.token.Mark.{Mark}
use Rattle.pg_file_tokens.specs.Tokens.{Token, name, number, mark, IsGood, AreGood}
use Rattle.pg_file_tokens.specs.Lexical.{is_blank, isnt_line_feed, goes_in_name, is_hex, is_code, is_plain, is_name, is_number, short_escape, mark_text, Escape, short, unicode, Literal, closed, plain, escaped, Spelled, ends, comment, a_mark, a_name, a_number, a_literal}
use Rattle.pg_file_tokens.specs.Lexical as lexical
use Rattle.pg_file_tokens.specs.Lexing.{with_rest, code_point, brace_at, unicode_at, escape_at, Quoted, text, spoilt, unclosed, with_char, without_text, after_escape, literal_turn, literal_within, literal_at, Prefix, nothing, blank, token, broken, literal_prefix, after_line, name_at, number_at, dots_at, mark_at, mark_prefix, prefix_at, after, lex_within, lex_of}
use Rattle.pg_file_tokens.proofs.LexerLemmas.Turns.{After-shorter, cond_when}
use Rattle.pg_file_tokens.proofs.LexerLemmas.Prefixes.{PrefixAfter, prefix_at_after, alphabetic_goes_on}
use Rattle.pg_file_tokens.proofs.LexerLemmas.Runs.{run_passes, run_stops, run_starts}

-- ---- escapes

-- what is read after a backslash is an escape
abbrev IsEscape : List ℕ → Option (ℕ × List ℕ) → Type 0
IsEscape cs (Some x) = Escape cs x.0 x.1
IsEscape cs None = Unit {0}

short_sound : (c : ℕ) (cs : List ℕ) (o : Option ℕ) → short_escape c ≡ o → IsEscape (c ∷ cs) (with_rest cs o)
short_sound c cs (Some d) e = short e
short_sound c cs None e = tt

code_sound : (ds cs : List ℕ) (b : Bool) → is_code ds ≡ b → IsEscape (117 ∷ 123 ∷ (ds ++ 125 ∷ cs)) (with_rest cs (cond b (Some (digits_value 16 ds)) None))
code_sound ds cs true e = unicode ds cs e
code_sound ds cs false e = tt

brace_sound : (ds cs : List ℕ) → IsEscape (117 ∷ 123 ∷ (ds ++ cs)) (brace_at (code_point ds) cs)
brace_sound ds [] = tt
brace_sound ds (c ∷ cs) =
    cond_when (IsEscape (117 ∷ 123 ∷ (ds ++ c ∷ cs))) (eqb c 125) _ _
    (λ h. subst (λ (d : ℕ). IsEscape (117 ∷ 123 ∷ (ds ++ d ∷ cs)) (with_rest cs (code_point ds))) (sym (eqb-true c 125 h)) (code_sound ds cs (is_code ds) refl))
    (λ h. tt)

unicode_sound : (cs : List ℕ) → IsEscape (117 ∷ cs) (unicode_at cs)
unicode_sound [] = tt
unicode_sound (c ∷ cs) =
    let n = prefix_len is_hex cs in
    cond_when (IsEscape (117 ∷ c ∷ cs)) (eqb c 123) _ _
    (λ h. subst (λ (d : ℕ). IsEscape (117 ∷ d ∷ cs) (brace_at (code_point (take n cs)) (drop n cs))) (sym (eqb-true c 123 h))
    (subst (λ (xs : List ℕ). IsEscape (117 ∷ 123 ∷ xs) (brace_at (code_point (take n cs)) (drop n cs))) (take-append-drop n cs) (brace_sound (take n cs) (drop n cs))))
    (λ h. tt)

escape_sound : (cs : List ℕ) → IsEscape cs (escape_at cs)
escape_sound [] = tt
escape_sound (c ∷ cs) =
    cond_when (IsEscape (c ∷ cs)) (eqb c 117) _ _
    (λ h. subst (λ (d : ℕ). IsEscape (d ∷ cs) (unicode_at cs)) (sym (eqb-true c 117 h)) (unicode_sound cs))
    (λ h. short_sound c cs (short_escape c) refl)

-- ---- literals

-- a text that is read is the literal's
abbrev IsQuoted : List ℕ → Quoted → Type 0
IsQuoted cs (text s rest) = Literal cs s rest
IsQuoted cs (spoilt rest) = Unit {0}
IsQuoted cs unclosed = Unit {0}

with_char_sound : (cs mid : List ℕ) (c : ℕ) (q : Quoted) → ((s rest : List ℕ) → Literal mid s rest → Literal cs (c ∷ s) rest) → IsQuoted mid q → IsQuoted cs (with_char c q)
with_char_sound cs mid c (text s rest) more h = more s rest h
with_char_sound cs mid c (spoilt rest) more h = tt
with_char_sound cs mid c unclosed more h = tt

without_text_sound : (cs : List ℕ) (q : Quoted) → IsQuoted cs (without_text q)
without_text_sound cs (text s rest) = tt
without_text_sound cs (spoilt rest) = tt
without_text_sound cs unclosed = tt

after_escape_sound : (f : List ℕ → Quoted) (cs : List ℕ) → ((rest : List ℕ) → IsQuoted rest (f rest)) → (o : Option (ℕ × List ℕ)) → IsEscape cs o → IsQuoted (92 ∷ cs) (after_escape f cs o)
after_escape_sound f cs others (Some x) h = with_char_sound (92 ∷ cs) x.1 x.0 (f x.1) (λ s rest d. escaped h d) (others x.1)
after_escape_sound f cs others None h = without_text_sound (92 ∷ cs) (f cs)

literal_turn_sound : (f : List ℕ → Quoted) (c : ℕ) (cs : List ℕ) → ((rest : List ℕ) → IsQuoted rest (f rest)) → IsQuoted (c ∷ cs) (literal_turn f c cs)
literal_turn_sound f c cs others =
    let P : Quoted → Type 0 = IsQuoted (c ∷ cs) in
    cond_when P (eqb c 34) _ _ (λ h. subst (λ (d : ℕ). Literal (d ∷ cs) [] cs) (sym (eqb-true c 34 h)) closed)
    (λ h. cond_when P (eqb c 10) _ _ (λ k. tt)
    (λ k. cond_when P (eqb c 92) _ _ (λ m. subst (λ (d : ℕ). IsQuoted (d ∷ cs) (after_escape f cs (escape_at cs))) (sym (eqb-true c 92 m)) (after_escape_sound f cs others (escape_at cs) (escape_sound cs)))
    (λ m.
    let p : is_plain c ≡ true = rw (h, m, k) refl in
    with_char_sound (c ∷ cs) cs c (f cs) (λ s rest d. plain p d) (others cs))))

literal_within_sound : (n : ℕ) (cs : List ℕ) → IsQuoted cs (literal_within n cs)
unfolding literal_within
literal_within_sound n [] = tt
literal_within_sound zero (c ∷ cs) = tt
literal_within_sound (suc n) (c ∷ cs) = literal_turn_sound (literal_within n) c cs (literal_within_sound n)

pub literal_sound : (cs : List ℕ) → IsQuoted cs (literal_at cs)
unfolding literal_at
literal_sound cs = literal_within_sound (length cs) cs

-- ---- the front

-- what is read at the front is spelled there
abbrev IsPrefix : List ℕ → Prefix → Type 0
IsPrefix cs nothing = cs ≡ []
IsPrefix cs (blank rest) = (ts : List Token) → Spelled rest ts → Spelled cs ts
IsPrefix cs (token t rest) = IsGood t → (ts : List Token) → Spelled rest ts → Spelled cs (t ∷ ts)
IsPrefix cs broken = Unit {0}

comment_sound : (cs : List ℕ) → IsPrefix (35 ∷ cs) (blank (after_line cs))
comment_sound cs ts d =
    let n = prefix_len isnt_line_feed cs in
    subst (λ (xs : List ℕ). Spelled (35 ∷ xs) ts) (take-append-drop n cs) (comment (take n cs) (drop n cs) (run_passes isnt_line_feed cs) (run_stops isnt_line_feed cs) d)

quote_sound : (cs : List ℕ) (q : Quoted) → IsQuoted cs q → IsPrefix (34 ∷ cs) (literal_prefix q)
quote_sound cs (text s rest) h = λ good ts d. a_literal h d
quote_sound cs (spoilt rest) h = λ good. absurd good
quote_sound cs unclosed h = tt

name_sound : (c : ℕ) (cs : List ℕ) → is_ascii_alphabetic c ≡ true → IsPrefix (c ∷ cs) (name_at (c ∷ cs))
name_sound c cs h good ts d =
    let n = prefix_len goes_in_name (c ∷ cs) in
    let s = run_starts goes_in_name is_ascii_alphabetic c cs (alphabetic_goes_on c h) h in
    let p : is_name (take n (c ∷ cs)) ≡ true = rw (s, run_passes goes_in_name (c ∷ cs)) refl in
    subst (λ (xs : List ℕ). Spelled xs (name (take n (c ∷ cs)) ∷ ts)) (take-append-drop n (c ∷ cs)) (a_name (take n (c ∷ cs)) (drop n (c ∷ cs)) p (run_stops goes_in_name (c ∷ cs)) d)

number_sound : (c : ℕ) (cs : List ℕ) → is_ascii_digit c ≡ true → IsPrefix (c ∷ cs) (number_at (c ∷ cs))
number_sound c cs h good ts d =
    let n = prefix_len is_ascii_digit (c ∷ cs) in
    let s = run_starts is_ascii_digit is_ascii_digit c cs h h in
    let p : is_number (take n (c ∷ cs)) ≡ true = rw (s, run_passes is_ascii_digit (c ∷ cs)) refl in
    subst (λ (xs : List ℕ). Spelled xs (number (take n (c ∷ cs)) ∷ ts)) (take-append-drop n (c ∷ cs)) (a_number (take n (c ∷ cs)) (drop n (c ∷ cs)) p (run_stops is_ascii_digit (c ∷ cs)) d)

-- a mark that is read is written there
abbrev IsMark : List ℕ → Option (Mark × List ℕ) → Type 0
IsMark cs (Some x) = mark_text x.0 ++ x.1 ≡ cs
IsMark cs None = Unit {0}

one_is : (b c : ℕ) (cs : List ℕ) → eqb c b ≡ true → b ∷ cs ≡ c ∷ cs
one_is b c cs h = ap (λ (d : ℕ). d ∷ cs) (sym (eqb-true c b h))

dots_sound : (c : ℕ) (cs : List ℕ) → eqb c 46 ≡ true → IsMark (c ∷ cs) (dots_at cs)
dots_sound c [] h = tt
dots_sound c (d ∷ cs) h = cond_when (IsMark (c ∷ d ∷ cs)) (eqb d 46) _ _ (λ k. ap (λ (xs : List ℕ). 46 ∷ xs) (one_is 46 d cs k) ∙ one_is 46 c (d ∷ cs) h) (λ k. tt)

mark_sound : (c : ℕ) (cs : List ℕ) → IsMark (c ∷ cs) (mark_at (c ∷ cs))
unfolding mark_at
mark_sound c cs =
    let P : Option (Mark × List ℕ) → Type 0 = IsMark (c ∷ cs) in
    cond_when P (eqb c 40) _ _ (one_is 40 c cs)
    (λ _. cond_when P (eqb c 41) _ _ (one_is 41 c cs)
    (λ _. cond_when P (eqb c 44) _ _ (one_is 44 c cs)
    (λ _. cond_when P (eqb c 59) _ _ (one_is 59 c cs)
    (λ _. cond_when P (eqb c 61) _ _ (one_is 61 c cs)
    (λ _. cond_when P (eqb c 124) _ _ (one_is 124 c cs)
    (λ _. cond_when P (eqb c 46) _ _ (dots_sound c cs) (λ _. tt)))))))

mark_prefix_sound : (cs : List ℕ) (o : Option (Mark × List ℕ)) → IsMark cs o → IsPrefix cs (mark_prefix o)
mark_prefix_sound cs (Some x) h = λ good ts d. subst (λ (xs : List ℕ). Spelled xs (mark x.0 ∷ ts)) h (a_mark x.0 x.1 d)
mark_prefix_sound cs None h = tt

prefix_sound : (cs : List ℕ) → IsPrefix cs (prefix_at cs)
prefix_sound [] = refl
prefix_sound (c ∷ cs) =
    let P : Prefix → Type 0 = IsPrefix (c ∷ cs) in
    cond_when P (eqb c 35) _ _ (λ h. subst (λ (d : ℕ). IsPrefix (d ∷ cs) (blank (after_line cs))) (sym (eqb-true c 35 h)) (comment_sound cs))
    (λ _. cond_when P (eqb c 34) _ _ (λ h. subst (λ (d : ℕ). IsPrefix (d ∷ cs) (literal_prefix (literal_at cs))) (sym (eqb-true c 34 h)) (quote_sound cs (literal_at cs) (literal_sound cs)))
    (λ _. cond_when P (is_blank c) _ _ (λ h ts d. lexical.blank h d)
    (λ _. cond_when P (is_ascii_alphabetic c) _ _ (name_sound c cs)
    (λ _. cond_when P (is_ascii_digit c) _ _ (number_sound c cs)
    (λ _. mark_prefix_sound (c ∷ cs) (mark_at (c ∷ cs)) (mark_sound c cs))))))

-- ---- the whole file

after_sound : (others : List ℕ → List Token) (cs : List ℕ) (x : Prefix) → ((rest : List ℕ) → length rest < length cs → AreGood (others rest) → Spelled rest (others rest)) → PrefixAfter cs x → IsPrefix cs x → AreGood (after others x) → Spelled cs (after others x)
after_sound others cs nothing sound b is h = subst (λ (xs : List ℕ). Spelled xs []) (sym is) ends
after_sound others cs (blank rest) sound b is h = is (others rest) (sound rest (After-shorter b) h)
after_sound others cs (token t rest) sound b is h = is h.0 (others rest) (sound rest (After-shorter b) h.1)
after_sound others cs broken sound b is h = absurd h.0

lex_within_sound : (n : ℕ) (cs : List ℕ) → length cs ≤ n → AreGood (lex_within n cs) → Spelled cs (lex_within n cs)
unfolding lex_within
lex_within_sound zero [] k h = ends
lex_within_sound zero (c ∷ cs) k h = absurd (omega arith)
lex_within_sound (suc n) cs k h =
    after_sound (lex_within n) cs (prefix_at cs) (λ rest lt. lex_within_sound n rest (omega arith)) (prefix_at_after cs) (prefix_sound cs) h

-- tokens none of which is wrong or bad are spelled by the characters
pub lex_sound : (cs : List ℕ) → AreGood (lex_of cs) → Spelled cs (lex_of cs)
unfolding lex_of
lex_sound cs h = lex_within_sound (length cs) cs (omega arith) h
