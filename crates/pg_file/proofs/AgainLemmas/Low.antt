-- Printed characters are those of ASCII, or at least below the surrogates, so their bytes are UTF-8.
use Rattle.std.proofs.Common.{◌≡◌, ℕ, Bool, true, false, ◌&&◌, ◌==◌, nat_le, nat_lt, List, [], ◌∷◌, ◌++◌, refl, sym, subst, ◌∙◌, arith}
use Rattle.std.proofs.lemmas.Bool.{and_parts}
use Rattle.std.proofs.lemmas.Bool.Decides.{nat_tests}
use Rattle.std.specs.Char.{is_ascii_digit, is_ascii_alphabetic}
use Rattle.std.specs.Fmt.{digits}
use Rattle.std.specs.Str.{all_scalars, IsUtf8}
use Rattle.pg_grammar_value.specs.Grammar.{Grammar}
use Rattle.pg_file_tokens.specs.declared.token.Mark.{Mark}
use Rattle.pg_file_tokens.specs.declared.token.Mark.TheVariants.{Open, Close, Comma, Semicolon, Equals, Bar, Dots}
use Rattle.pg_file_print.specs.declared.layout.Edge.{Edge}
use Rattle.pg_file_print.specs.declared.layout.Edge.TheVariants.{Tight, Word, Loose}
use Rattle.pg_file_tokens.specs.Tokens.{Token, name, number, literal, mark, wrong, bad}
use Rattle.pg_file_tokens.specs.Lexical.{passes, starts, goes_in_name, is_hex, is_scalar}
use Rattle.pg_file_items.specs.Syntax.{file_written}
use Rattle.pg_file_print.specs.Canonical.{items_of}
use Rattle.pg_file_print.specs.Printed.{escaped, all_escaped, characters_printed, printed}
use Rattle.pg_file_print.proofs.PrinterLemmas.Texts.{printed_laid}
use Rattle.pg_file_print.specs.Layout.{printed_mark, token_text, edge_after, space, mark_space, space_before, laid_out}
use Rattle.pg_file.proofs.AgainLemmas.Printable.{IsPrintable, ArePrintable}
use Rattle.pg_file.proofs.AgainLemmas.Spelled.{hex_digits}

abbrev is_low : ℕ → Bool
is_low c = nat_lt c 128

low_both : (xs ys : List ℕ) → passes is_low xs ≡ true → passes is_low ys ≡ true → passes is_low (xs ++ ys) ≡ true
low_both [] ys h k = k
low_both (c ∷ xs) ys h k = let q = and_parts (is_low c) (passes is_low xs) h in rw (q.0, low_both xs ys q.1 k) refl

low_all : (p : ℕ → Bool) → ((c : ℕ) → p c ≡ true → is_low c ≡ true) → (s : List ℕ) → passes p s ≡ true → passes is_low s ≡ true
low_all p f [] h = refl
low_all p f (c ∷ s) h = let q = and_parts (p c) (passes p s) h in rw (f c q.0, low_all p f s q.1) refl

low_name : (c : ℕ) → goes_in_name c ≡ true → is_low c ≡ true
low_name c h = grind (arith, nat_tests)

low_digit : (c : ℕ) → is_ascii_digit c ≡ true → is_low c ≡ true
low_digit c h = grind (arith, nat_tests)

low_hex : (c : ℕ) → is_hex c ≡ true → is_low c ≡ true
low_hex c h = go (is_low c) refl
  where
    go : (b : Bool) → is_low c ≡ b → is_low c ≡ true
    go true e = e
    go false e =
        let a1 : nat_lt c 48 ≡ false = grind (arith, nat_tests) in
        let a2 : nat_lt c 58 ≡ false = grind (arith, nat_tests) in
        let a3 : nat_lt c 65 ≡ false = grind (arith, nat_tests) in
        let a4 : nat_lt c 91 ≡ false = grind (arith, nat_tests) in
        let a5 : nat_lt c 97 ≡ false = grind (arith, nat_tests) in
        let a6 : nat_lt c 123 ≡ false = grind (arith, nat_tests) in
        let is : is_hex c ≡ false = rw (a1, a2, a3, a4, a5, a6) refl in
        let q : true ≡ false = sym h ∙ is in absurd cc

low_escape : (c : ℕ) → is_scalar c ≡ true → passes is_low (escaped c) ≡ true
low_escape c ok = go (c == 34) (c == 92) (c == 10) (c == 9) (c == 13) (nat_le 32 c && nat_le c 126) refl refl refl refl refl refl
  where
    go : (b1 b2 b3 b4 b5 b6 : Bool) → (c == 34) ≡ b1 → (c == 92) ≡ b2 → (c == 10) ≡ b3 → (c == 9) ≡ b4 → (c == 13) ≡ b5 → (nat_le 32 c && nat_le c 126) ≡ b6 → passes is_low (escaped c) ≡ true
    go true b2 b3 b4 b5 b6 e1 e2 e3 e4 e5 e6 = rw e1 refl
    go false true b3 b4 b5 b6 e1 e2 e3 e4 e5 e6 = rw (e1, e2) refl
    go false false true b4 b5 b6 e1 e2 e3 e4 e5 e6 = rw (e1, e2, e3) refl
    go false false false true b5 b6 e1 e2 e3 e4 e5 e6 = rw (e1, e2, e3, e4) refl
    go false false false false true b6 e1 e2 e3 e4 e5 e6 = rw (e1, e2, e3, e4, e5) refl
    go false false false false false true e1 e2 e3 e4 e5 e6 = let low : is_low c ≡ true = grind (arith, nat_tests) in rw (e1, e2, e3, e4, e5, e6, low) refl
    go false false false false false false e1 e2 e3 e4 e5 e6 =
        let low = low_both (digits 16 false c) (125 ∷ []) (low_all is_hex low_hex (digits 16 false c) (hex_digits c ok)) refl in rw (e1, e2, e3, e4, e5, e6, low) refl

low_literal : (s : List ℕ) → passes is_scalar s ≡ true → passes is_low (all_escaped s) ≡ true
low_literal [] h = refl
low_literal (c ∷ s) h = let q = and_parts (is_scalar c) (passes is_scalar s) h in low_both (escaped c) (all_escaped s) (low_escape c q.0) (low_literal s q.1)

low_mark : (m : Mark) → passes is_low (printed_mark m) ≡ true
low_mark Open = refl
low_mark Close = refl
low_mark Comma = refl
low_mark Semicolon = refl
low_mark Equals = refl
low_mark Bar = refl
low_mark Dots = refl

low_token : (t : Token) → IsPrintable t → passes is_low (token_text t) ≡ true
low_token (name s) h = low_all goes_in_name low_name s (and_parts (starts is_ascii_alphabetic s) (passes goes_in_name s) h).1
low_token (number s) h = low_all is_ascii_digit low_digit s (and_parts (starts is_ascii_digit s) (passes is_ascii_digit s) h).1
low_token (literal s) h = low_both (all_escaped s) (34 ∷ []) (low_literal s h) refl
low_token (mark m) h = low_mark m
low_token wrong h = refl
low_token bad h = refl

low_space : (edge : Edge) → passes is_low (space edge) ≡ true
low_space Tight = refl
low_space Word = refl
low_space Loose = refl

low_mark_space : (edge : Edge) (m : Mark) → passes is_low (mark_space edge m) ≡ true
low_mark_space Tight Open = refl
low_mark_space Word Open = refl
low_mark_space Loose Open = refl
low_mark_space edge Close = refl
low_mark_space edge Comma = refl
low_mark_space edge Semicolon = refl
low_mark_space edge Equals = low_space edge
low_mark_space edge Bar = low_space edge
low_mark_space edge Dots = refl

low_before : (edge : Edge) (t : Token) → passes is_low (space_before edge t) ≡ true
low_before edge (name s) = low_space edge
low_before edge (number s) = low_space edge
low_before edge (literal s) = low_space edge
low_before edge (mark m) = low_mark_space edge m
low_before edge wrong = refl
low_before edge bad = refl

low_laid : (edge : Edge) (ts : List Token) → ArePrintable ts → passes is_low (laid_out edge ts) ≡ true
low_laid edge [] h = refl
low_laid edge (t ∷ ts) h =
    low_both (space_before edge t) (token_text t ++ laid_out (edge_after t) ts) (low_before edge t) (low_both (token_text t) (laid_out (edge_after t) ts) (low_token t h.0) (low_laid (edge_after t) ts h.1))

low_scalars : (s : List ℕ) → passes is_low s ≡ true → all_scalars s ≡ true
low_scalars [] h = refl
low_scalars (c ∷ s) h =
    let q = and_parts (is_low c) (passes is_low s) h in
    let below : nat_lt c 55296 ≡ true = grind (arith, nat_tests) in
    rw (below, low_scalars s q.1) refl

-- the bytes that are printed are UTF-8
pub printed_utf8 : (g : Grammar) → ArePrintable (file_written (items_of g)) → IsUtf8 (printed g)
printed_utf8 g h =
    let low : passes is_low (characters_printed g) ≡ true = subst (λ (cs : List ℕ). passes is_low cs ≡ true) (printed_laid g) (low_laid Tight (file_written (items_of g)) h) in
    (characters_printed g, (low_scalars (characters_printed g) low, refl))
