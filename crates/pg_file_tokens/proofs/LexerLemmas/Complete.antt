-- What is spelled is lexed so.
use Rattle.std.proofs.Common.{◌≡◌, ℕ, Bool, true, false, eqb, eqb-true, List, [], ◌∷◌, ◌++◌, take, drop, length, Option, Some, None, refl, ap, subst, ◌∙◌, arith}
use Rattle.std.proofs.lemmas.Bool.Decides.{nat_tests}
use Rattle.std.proofs.lemmas.Bool.{and_parts}
use Rattle.std.proofs.lemmas.List.{take_at, drop_at}
use Rattle.std.specs.List.{prefix_len}
use Rattle.std.specs.Char.{is_ascii_alphabetic, is_ascii_digit}
use Rattle.std.specs.Str.Parse.{digits_value}
use Rattle.std.specs.Prelude.{nat_le}
use Rattle.pg_file_tokens.specs.declared.token.Mark.TheVariants.{Open, Close, Comma, Semicolon, Equals, Bar, Dots}
use Rattle.pg_file_tokens.specs.Tokens.{Token, name, number, literal, mark}
use Rattle.pg_file_tokens.specs.Lexical.{is_blank, isnt_line_feed, goes_in_name, is_hex, is_scalar, is_code, is_name, is_number, short_escape, passes, stops, Escape, short, unicode, Literal, closed, plain, escaped, Spelled, ends, blank, comment, a_mark, a_name, a_number, a_literal}
use Rattle.pg_file_tokens.specs.Lexing.{escape_at, text, with_char, after_escape, literal_at, token, literal_prefix, name_at, number_at, mark_at, prefix_at, after, lex_of}
use Rattle.pg_file_tokens.specs.Lexing as lexing
use Rattle.pg_file_tokens.proofs.LexerLemmas.Turns.{literal_at_cons}
use Rattle.pg_file_tokens.proofs.LexerLemmas.Prefixes.{lex_turn}
use Rattle.pg_file_tokens.proofs.LexerLemmas.Runs.{run_len}

-- ---- escapes

-- `u` is no escape by itself
short_not_u : (e c : ℕ) → short_escape e ≡ Some c → eqb e 117 ≡ false
short_not_u e c h = go (eqb e 117) refl
  where
    go : (b : Bool) → eqb e 117 ≡ b → b ≡ false
    go true k = let q : short_escape 117 ≡ Some c = subst (λ (d : ℕ). short_escape d ≡ Some c) (eqb-true e 117 k) h in absurd (let z : ◌≡◌ {A = Option ℕ} None (Some c) = q in cc)
    go false k = refl

code_passes : (ds : List ℕ) → is_code ds ≡ true → passes is_hex ds ≡ true
code_passes ds h =
    let few = (and_parts (nat_le 1 (length ds)) _ h).1 in
    let named = (and_parts (nat_le (length ds) 6) _ few).1 in
    (and_parts (passes is_hex ds) (is_scalar (digits_value 16 ds)) named).0

escape_complete : {cs : List ℕ} {c : ℕ} {rest : List ℕ} → Escape cs c rest → escape_at cs ≡ Some (c, rest)
escape_complete (short {e = e} {c = c} h) = let u = short_not_u e c h in rw (u, h) refl
escape_complete (unicode ds rest h) =
    rw (run_len is_hex ds (125 ∷ rest) (code_passes ds h) refl, take_at ds (125 ∷ rest) (length ds) refl, drop_at ds (125 ∷ rest) (length ds) refl, h) refl

-- ---- literals

pub literal_complete : {cs s rest : List ℕ} → Literal cs s rest → literal_at cs ≡ text s rest
literal_complete (closed {rest = rest}) = literal_at_cons 34 rest
literal_complete (plain {c = c} {cs = cs} h d) =
    let a : eqb c 34 ≡ false = grind (arith, nat_tests) in
    let b : eqb c 92 ≡ false = grind (arith, nat_tests) in
    let e : eqb c 10 ≡ false = grind (arith, nat_tests) in
    literal_at_cons c cs ∙ rw (a, e, b) (ap (with_char c) (literal_complete d))
literal_complete (escaped {c = c} {cs = cs} h d) =
    literal_at_cons 92 cs ∙ ap (after_escape literal_at cs) (escape_complete h) ∙ ap (with_char c) (literal_complete d)

-- ---- the front

blank_prefix : (c : ℕ) (cs : List ℕ) → is_blank c ≡ true → prefix_at (c ∷ cs) ≡ lexing.blank cs
blank_prefix c cs h =
    let a : eqb c 35 ≡ false = grind (arith, nat_tests) in
    let b : eqb c 34 ≡ false = grind (arith, nat_tests) in
    rw (a, b, h) refl

comment_prefix : (xs cs : List ℕ) → passes isnt_line_feed xs ≡ true → stops isnt_line_feed cs ≡ true → prefix_at (35 ∷ (xs ++ cs)) ≡ lexing.blank cs
comment_prefix xs cs h s = rw (run_len isnt_line_feed xs cs h s, drop_at xs cs (length xs) refl) refl

run_prefix : (make : List ℕ → Token) (p : ℕ → Bool) (s cs : List ℕ) → passes p s ≡ true → stops p cs ≡ true → token (make (take (prefix_len p (s ++ cs)) (s ++ cs))) (drop (prefix_len p (s ++ cs)) (s ++ cs)) ≡ token (make s) cs
run_prefix make p s cs h k = rw (run_len p s cs h k, take_at s cs (length s) refl, drop_at s cs (length s) refl) refl

name_prefix : (s cs : List ℕ) → is_name s ≡ true → stops goes_in_name cs ≡ true → prefix_at (s ++ cs) ≡ token (name s) cs
name_prefix [] cs h k = absurd cc
name_prefix (c ∷ xs) cs h k =
    let q = and_parts (is_ascii_alphabetic c) (passes goes_in_name (c ∷ xs)) h in
    let l : is_ascii_alphabetic c ≡ true = q.0 in
    let a : eqb c 35 ≡ false = grind (arith, nat_tests) in
    let b : eqb c 34 ≡ false = grind (arith, nat_tests) in
    let e : is_blank c ≡ false = grind (arith, nat_tests) in
    let go : prefix_at (c ∷ (xs ++ cs)) ≡ name_at (c ∷ (xs ++ cs)) = rw (a, b, e, l) refl in
    go ∙ run_prefix name goes_in_name (c ∷ xs) cs q.1 k

number_prefix : (s cs : List ℕ) → is_number s ≡ true → stops is_ascii_digit cs ≡ true → prefix_at (s ++ cs) ≡ token (number s) cs
number_prefix [] cs h k = absurd cc
number_prefix (c ∷ xs) cs h k =
    let q = and_parts (is_ascii_digit c) (passes is_ascii_digit (c ∷ xs)) h in
    let l : is_ascii_digit c ≡ true = q.0 in
    let a : eqb c 35 ≡ false = grind (arith, nat_tests) in
    let b : eqb c 34 ≡ false = grind (arith, nat_tests) in
    let e : is_blank c ≡ false = grind (arith, nat_tests) in
    let n : is_ascii_alphabetic c ≡ false = grind (arith, nat_tests) in
    let go : prefix_at (c ∷ (xs ++ cs)) ≡ number_at (c ∷ (xs ++ cs)) = rw (a, b, e, n, l) refl in
    go ∙ run_prefix number is_ascii_digit (c ∷ xs) cs q.1 k

-- ---- the whole file

-- one token, and what is spelled after it
then : (cs rest : List ℕ) (t : Token) (ts : List Token) → prefix_at cs ≡ token t rest → lex_of rest ≡ ts → lex_of cs ≡ t ∷ ts
then cs rest t ts e h = lex_turn cs ∙ ap (after lex_of) e ∙ ap (λ (us : List Token). t ∷ us) h

-- white space or a comment, and what is spelled after it
past : (cs rest : List ℕ) (ts : List Token) → prefix_at cs ≡ lexing.blank rest → lex_of rest ≡ ts → lex_of cs ≡ ts
past cs rest ts e h = lex_turn cs ∙ ap (after lex_of) e ∙ h

-- the tokens that the characters spell are those that are lexed
pub lex_complete : {cs : List ℕ} {ts : List Token} → Spelled cs ts → lex_of cs ≡ ts
unfolding mark_at
lex_complete ends = lex_turn []
lex_complete (blank {c = c} {cs = cs} {ts = ts} h d) = past (c ∷ cs) cs ts (blank_prefix c cs h) (lex_complete d)
lex_complete (comment xs cs {ts = ts} h s d) = past (35 ∷ (xs ++ cs)) cs ts (comment_prefix xs cs h s) (lex_complete d)
lex_complete (a_mark Open cs {ts = ts} d) = then (40 ∷ cs) cs (mark Open) ts refl (lex_complete d)
lex_complete (a_mark Close cs {ts = ts} d) = then (41 ∷ cs) cs (mark Close) ts refl (lex_complete d)
lex_complete (a_mark Comma cs {ts = ts} d) = then (44 ∷ cs) cs (mark Comma) ts refl (lex_complete d)
lex_complete (a_mark Semicolon cs {ts = ts} d) = then (59 ∷ cs) cs (mark Semicolon) ts refl (lex_complete d)
lex_complete (a_mark Equals cs {ts = ts} d) = then (61 ∷ cs) cs (mark Equals) ts refl (lex_complete d)
lex_complete (a_mark Bar cs {ts = ts} d) = then (124 ∷ cs) cs (mark Bar) ts refl (lex_complete d)
lex_complete (a_mark Dots cs {ts = ts} d) = then (46 ∷ 46 ∷ cs) cs (mark Dots) ts refl (lex_complete d)
lex_complete (a_name s cs {ts = ts} h k d) = then (s ++ cs) cs (name s) ts (name_prefix s cs h k) (lex_complete d)
lex_complete (a_number s cs {ts = ts} h k d) = then (s ++ cs) cs (number s) ts (number_prefix s cs h k) (lex_complete d)
lex_complete (a_literal {cs = cs} {s = s} {rest = rest} {ts = ts} l d) = then (34 ∷ cs) rest (literal s) ts (ap literal_prefix (literal_complete l)) (lex_complete d)
