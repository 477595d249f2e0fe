-- Printed tokens are spelled by their characters.
use Rattle.std.proofs.Common.{◌≡◌, ◌<◌, ◌≤◌, ◌+◌, ◌*◌, ◌/◌, ◌%◌, ◌^◌, ℕ, zero, suc, Bool, true, false, ◌&&◌, ◌==◌, nat_le, nat_lt, if◌then◌else◌, List, [], ◌∷◌, ◌++◌, length, Some, refl, sym, ap, subst, ◌∙◌, append_assoc, arith}
use Rattle.std.proofs.lemmas.Bool.{and_parts}
use Rattle.std.proofs.lemmas.Bool.Decides.{nat_tests}
use Rattle.std.proofs.Math.Nat.{pow-suc}
use Rattle.std.proofs.lemmas.Fmt.{digits_is_IsNumeral}
use Rattle.std.specs.Char.{is_ascii_digit, digit_value}
use Rattle.std.specs.Str.Parse.{digits_value, AllDigits}
use Rattle.std.specs.Fmt.{digits, digits_onto, digit_glyph}
use Rattle.pg_file_tokens.specs.declared.token.Mark.{Mark}
use Rattle.pg_file_tokens.specs.declared.token.Mark.TheVariants.{Open, Close, Comma, Semicolon, Equals, Bar, Dots}
use Rattle.pg_file_print.specs.declared.layout.Edge.{Edge}
use Rattle.pg_file_print.specs.declared.layout.Edge.TheVariants.{Tight, Word, Loose}
use Rattle.pg_file_tokens.specs.Tokens.{Token, name, number, literal, mark, wrong, bad}
use Rattle.pg_file_tokens.specs.Lexical.{passes, stops, goes_in_name, is_hex, is_scalar, is_code, is_plain, short_escape, short, unicode, Literal, closed, plain, escaped, Spelled, ends, blank, a_mark, a_name, a_number, a_literal}
use Rattle.pg_file_print.specs.Printed as printed
use Rattle.pg_file_print.specs.Printed.{all_escaped, quoted}
use Rattle.pg_file_print.specs.Layout.{comes_before_class, printed_mark, edge_after, space, mark_space, laid_out}
use Rattle.pg_file.proofs.AgainLemmas.Printable.{ArePrintable}

-- ---- hexadecimal digits

fewer : (m n : ℕ) → n < 16 ^ suc (suc m) → n / 16 < 16 ^ suc m
fewer m n h = let e : 16 ^ suc (suc m) ≡ 16 ^ suc m * 16 = rw (pow-suc 16 (suc m)) (omega arith) in omega (arith, e, h)

-- a digit more, and those before it
more_digits : (k n : ℕ) (d : ℕ) (acc : List ℕ) → ((m : ℕ) (after : List ℕ) → n / 16 < 16 ^ suc m → length (digits_onto k 16 false (n / 16) after) ≤ suc m + length after)
    → (m : ℕ) → n < 16 ^ suc m → (n / 16 == 0) ≡ false → length (digits_onto k 16 false (n / 16) (d ∷ acc)) ≤ suc m + length acc
more_digits k n d acc others zero h e = let small : n < 16 = omega (arith, h) in absurd (grind (arith, nat_tests))
more_digits k n d acc others (suc m) h e = let rest = others m (d ∷ acc) (fewer m n h) in omega (arith, rest)

-- no more digits than the number needs
few_onto : (k m n : ℕ) (acc : List ℕ) → n < 16 ^ suc m → length (digits_onto k 16 false n acc) ≤ suc m + length acc
few_onto zero m n acc h = omega arith
few_onto (suc k) m n acc h = go (n / 16 == 0) refl (λ m after e. few_onto k m (n / 16) after e)
  where
    go : (b : Bool) → (n / 16 == 0) ≡ b → ((m : ℕ) (after : List ℕ) → n / 16 < 16 ^ suc m → length (digits_onto k 16 false (n / 16) after) ≤ suc m + length after)
        → length (digits_onto (suc k) 16 false n acc) ≤ suc m + length acc
    go true e others = rw e (omega arith)
    go false e others = rw e (more_digits k n (digit_glyph false (n % 16)) acc others m h e)

scalar_small : (c : ℕ) → is_scalar c ≡ true → c < 16777216
scalar_small c h = grind (arith, nat_tests)

few_digits : (c : ℕ) → c < 16777216 → length (digits 16 false c) ≤ 6
unfolding digits
few_digits c h = few_onto 64 5 c [] h

all_hex : (ds : List ℕ) → AllDigits 16 ds → passes is_hex ds ≡ true
all_hex [] h = refl
all_hex (c ∷ ds) h = let one : nat_lt (digit_value c) 16 ≡ true = grind (arith, nat_tests, h.0) in rw (one, all_hex ds h.1) refl

below_all : (c : ℕ) → c < 16777216 → c < 16 ^ 64
below_all c h = omega (arith, h)

hex_value : (c : ℕ) → is_scalar c ≡ true → digits_value 16 (digits 16 false c) ≡ c
hex_value c h = (digits_is_IsNumeral 16 false (omega arith) (omega arith) c (below_all c (scalar_small c h))).1

hex_code : (c : ℕ) → is_scalar c ≡ true → is_code (digits 16 false c) ≡ true
hex_code c h =
    let small = scalar_small c h in
    let numeral = digits_is_IsNumeral 16 false (omega arith) (omega arith) c (below_all c small) in
    let few = few_digits c small in
    let least : nat_le 1 (length (digits 16 false c)) ≡ true = grind (arith, nat_tests, numeral.0.0) in
    let most : nat_le (length (digits 16 false c)) 6 ≡ true = grind (arith, nat_tests, few) in
    rw (least, most, all_hex (digits 16 false c) numeral.0.1, numeral.1) h

-- ---- literals

escape_then : (c : ℕ) (tail s rest : List ℕ) → is_scalar c ≡ true → Literal tail s rest → Literal (printed.escaped c ++ tail) (c ∷ s) rest
escape_then c tail s rest ok h = go (c == 34) (c == 92) (c == 10) (c == 9) (c == 13) (nat_le 32 c && nat_le c 126) refl refl refl refl refl refl
  where
    shortly : (e d : ℕ) → short_escape e ≡ Some d → c ≡ d → printed.escaped c ≡ 92 ∷ e ∷ [] → Literal (printed.escaped c ++ tail) (c ∷ s) rest
    shortly e d k same is = subst (λ (l : List ℕ). Literal (l ++ tail) (c ∷ s) rest) (sym is) (escaped (short (k ∙ ap Some (sym same))) h)

    go : (b1 b2 b3 b4 b5 b6 : Bool) → (c == 34) ≡ b1 → (c == 92) ≡ b2 → (c == 10) ≡ b3 → (c == 9) ≡ b4 → (c == 13) ≡ b5 → (nat_le 32 c && nat_le c 126) ≡ b6
        → Literal (printed.escaped c ++ tail) (c ∷ s) rest
    go true b2 b3 b4 b5 b6 e1 e2 e3 e4 e5 e6 = shortly 34 34 refl (grind (arith, nat_tests)) (rw e1 refl)
    go false true b3 b4 b5 b6 e1 e2 e3 e4 e5 e6 = shortly 92 92 refl (grind (arith, nat_tests)) (rw (e1, e2) refl)
    go false false true b4 b5 b6 e1 e2 e3 e4 e5 e6 = shortly 110 10 refl (grind (arith, nat_tests)) (rw (e1, e2, e3) refl)
    go false false false true b5 b6 e1 e2 e3 e4 e5 e6 = shortly 116 9 refl (grind (arith, nat_tests)) (rw (e1, e2, e3, e4) refl)
    go false false false false true b6 e1 e2 e3 e4 e5 e6 = shortly 114 13 refl (grind (arith, nat_tests)) (rw (e1, e2, e3, e4, e5) refl)
    go false false false false false true e1 e2 e3 e4 e5 e6 =
        let is : printed.escaped c ≡ c ∷ [] = rw (e1, e2, e3, e4, e5, e6) refl in
        let itself : is_plain c ≡ true = rw (e1, e2, e3) refl in
        subst (λ (l : List ℕ). Literal (l ++ tail) (c ∷ s) rest) (sym is) (plain itself h)
    go false false false false false false e1 e2 e3 e4 e5 e6 =
        let is : printed.escaped c ≡ 92 ∷ 117 ∷ 123 ∷ (digits 16 false c ++ 125 ∷ []) = rw (e1, e2, e3, e4, e5, e6) refl in
        let value : digits_value 16 (digits 16 false c) ≡ c = hex_value c ok in
        let here : Literal (92 ∷ 117 ∷ 123 ∷ (digits 16 false c ++ (125 ∷ tail))) (digits_value 16 (digits 16 false c) ∷ s) rest = escaped (unicode (digits 16 false c) tail (hex_code c ok)) h in
        let named : Literal (92 ∷ 117 ∷ 123 ∷ (digits 16 false c ++ (125 ∷ tail))) (c ∷ s) rest = subst (λ (d : ℕ). Literal (92 ∷ 117 ∷ 123 ∷ (digits 16 false c ++ (125 ∷ tail))) (d ∷ s) rest) value here in
        subst (λ (l : List ℕ). Literal l (c ∷ s) rest)
        (ap (λ (l : List ℕ). 92 ∷ 117 ∷ 123 ∷ l) (sym (append_assoc (digits 16 false c) (125 ∷ []) tail)) ∙ ap (λ (l : List ℕ). l ++ tail) (sym is)) named

literal_spelled : (s rest : List ℕ) → passes is_scalar s ≡ true → Literal (all_escaped s ++ (34 ∷ rest)) s rest
literal_spelled [] rest h = closed
literal_spelled (c ∷ s) rest h =
    let q = and_parts (is_scalar c) (passes is_scalar s) h in
    subst (λ (l : List ℕ). Literal l (c ∷ s) rest) (sym (append_assoc (printed.escaped c) (all_escaped s) (34 ∷ rest)))
    (escape_then c (all_escaped s ++ (34 ∷ rest)) s rest q.0 (literal_spelled s rest q.1))

-- ---- what follows a name or a number

-- a space may follow
abbrev IsOpen : Edge → Type 0
IsOpen Tight = ⊥
IsOpen Word = Unit {0}
IsOpen Loose = Unit {0}

name_stops : (edge : Edge) (ts : List Token) → IsOpen edge → ArePrintable ts → stops goes_in_name (laid_out edge ts) ≡ true
name_stops Tight ts o h = absurd o
name_stops edge [] o h = refl
name_stops Word (name s ∷ ts) o h = refl
name_stops Word (number s ∷ ts) o h = refl
name_stops Word (literal s ∷ ts) o h = refl
name_stops Word (mark Open ∷ ts) o h = refl
name_stops Word (mark Close ∷ ts) o h = refl
name_stops Word (mark Comma ∷ ts) o h = refl
name_stops Word (mark Semicolon ∷ ts) o h = refl
name_stops Word (mark Equals ∷ ts) o h = refl
name_stops Word (mark Bar ∷ ts) o h = refl
name_stops Word (mark Dots ∷ ts) o h = refl
name_stops Word (wrong ∷ ts) o h = absurd h.0
name_stops Word (bad ∷ ts) o h = absurd h.0
name_stops Loose (name s ∷ ts) o h = refl
name_stops Loose (number s ∷ ts) o h = refl
name_stops Loose (literal s ∷ ts) o h = refl
name_stops Loose (mark Open ∷ ts) o h = refl
name_stops Loose (mark Close ∷ ts) o h = refl
name_stops Loose (mark Comma ∷ ts) o h = refl
name_stops Loose (mark Semicolon ∷ ts) o h = refl
name_stops Loose (mark Equals ∷ ts) o h = refl
name_stops Loose (mark Bar ∷ ts) o h = refl
name_stops Loose (mark Dots ∷ ts) o h = refl
name_stops Loose (wrong ∷ ts) o h = absurd h.0
name_stops Loose (bad ∷ ts) o h = absurd h.0

number_stops : (ts : List Token) → ArePrintable ts → stops is_ascii_digit (laid_out Loose ts) ≡ true
number_stops [] h = refl
number_stops (name s ∷ ts) h = refl
number_stops (number s ∷ ts) h = refl
number_stops (literal s ∷ ts) h = refl
number_stops (mark Open ∷ ts) h = refl
number_stops (mark Close ∷ ts) h = refl
number_stops (mark Comma ∷ ts) h = refl
number_stops (mark Semicolon ∷ ts) h = refl
number_stops (mark Equals ∷ ts) h = refl
number_stops (mark Bar ∷ ts) h = refl
number_stops (mark Dots ∷ ts) h = refl
number_stops (wrong ∷ ts) h = absurd h.0
number_stops (bad ∷ ts) h = absurd h.0

after_name : (b : Bool) → IsOpen (if b then Loose else Word)
after_name true = tt
after_name false = tt

-- ---- tokens

spaced : (edge : Edge) (cs : List ℕ) (ts : List Token) → Spelled cs ts → Spelled (space edge ++ cs) ts
spaced Tight cs ts h = h
spaced Word cs ts h = blank refl h
spaced Loose cs ts h = blank refl h

mark_spaced : (edge : Edge) (m : Mark) (cs : List ℕ) (ts : List Token) → Spelled cs ts → Spelled (mark_space edge m ++ cs) ts
mark_spaced Tight Open cs ts h = h
mark_spaced Word Open cs ts h = h
mark_spaced Loose Open cs ts h = blank refl h
mark_spaced edge Close cs ts h = h
mark_spaced edge Comma cs ts h = h
mark_spaced edge Semicolon cs ts h = h
mark_spaced edge Equals cs ts h = spaced edge cs ts h
mark_spaced edge Bar cs ts h = spaced edge cs ts h
mark_spaced edge Dots cs ts h = h

mark_spelled : (m : Mark) (cs : List ℕ) (ts : List Token) → Spelled cs ts → Spelled (printed_mark m ++ cs) (mark m ∷ ts)
mark_spelled Open cs ts h = a_mark Open cs h
mark_spelled Close cs ts h = a_mark Close cs h
mark_spelled Comma cs ts h = a_mark Comma cs h
mark_spelled Semicolon cs ts h = a_mark Semicolon (10 ∷ cs) (blank refl h)
mark_spelled Equals cs ts h = a_mark Equals cs h
mark_spelled Bar cs ts h = a_mark Bar cs h
mark_spelled Dots cs ts h = a_mark Dots cs h

pub laid_spells : (edge : Edge) (ts : List Token) → ArePrintable ts → Spelled (laid_out edge ts) ts
laid_spells edge [] h = ends
laid_spells edge (name s ∷ ts) h =
    let rest = laid_out (edge_after (name s)) ts in
    spaced edge (s ++ rest) (name s ∷ ts) (a_name s rest h.0 (name_stops (edge_after (name s)) ts (after_name (comes_before_class s)) h.1) (laid_spells (edge_after (name s)) ts h.1))
laid_spells edge (number s ∷ ts) h =
    let rest = laid_out Loose ts in
    spaced edge (s ++ rest) (number s ∷ ts) (a_number s rest h.0 (number_stops ts h.1) (laid_spells Loose ts h.1))
laid_spells edge (literal s ∷ ts) h =
    let rest = laid_out Loose ts in
    spaced edge (quoted s ++ rest) (literal s ∷ ts)
    (subst (λ (l : List ℕ). Spelled (34 ∷ l) (literal s ∷ ts)) (sym (append_assoc (all_escaped s) (34 ∷ []) rest)) (a_literal (literal_spelled s rest h.0) (laid_spells Loose ts h.1)))
laid_spells edge (mark m ∷ ts) h =
    let rest = laid_out (edge_after (mark m)) ts in
    mark_spaced edge m (printed_mark m ++ rest) (mark m ∷ ts) (mark_spelled m rest ts (laid_spells (edge_after (mark m)) ts h.1))
laid_spells edge (wrong ∷ ts) h = absurd h.0
laid_spells edge (bad ∷ ts) h = absurd h.0

-- the digits of an escape
pub hex_digits : (c : ℕ) → is_scalar c ≡ true → passes is_hex (digits 16 false c) ≡ true
hex_digits c h = all_hex (digits 16 false c) (digits_is_IsNumeral 16 false (omega arith) (omega arith) c (below_all c (scalar_small c h))).0.1
