-- Reading literals next to one another, as a loop does.
use Rattle.std.proofs.Common.{◌≡◌, ℕ, true, false, List, [], ◌∷◌, ◌++◌, Option, Some, None, refl, sym, ap, ◌∙◌}
use Rattle.std.proofs.lemmas.List.{append-nil}
use Rattle.pg_file_parser.specs.declared.error.SyntaxError.{SyntaxError}
use Rattle.pg_file_parser.specs.declared.error.SyntaxError.TheVariants.{Memory, Fault}
use Rattle.pg_file_tokens.specs.Tokens.{Token, name, number, literal, mark, wrong, bad}
use Rattle.pg_file_parser.specs.Given.{Fails}
use Rattle.pg_file_parser.specs.Reading.{has_literal, ◌>>=◌, filled_text, with_first}
use Rattle.pg_file_parser.specs.ItemReading.{filled_at, literals_at}
use Rattle.pg_file_parser.proofs.ParserLemmas.Steps.{bind_some, some_is}
use Rattle.pg_file_parser.proofs.ParserLemmas.Loop.{with_front, regroup}

literal_first : (ts : List Token) (text : List ℕ) (rest : List Token) → filled_at ts ≡ Some (text, rest) → literals_at ts ≡ with_first text (literals_at rest)
unfolding literals_at
literal_first [] text rest e = absurd cc
literal_first (name s ∷ ts) text rest e = absurd cc
literal_first (number s ∷ ts) text rest e = absurd cc
literal_first (mark m ∷ ts) text rest e = absurd cc
literal_first (wrong ∷ ts) text rest e = absurd cc
literal_first (bad ∷ ts) text rest e = absurd cc
literal_first (literal s ∷ ts) text rest e =
    let a = bind_some (filled_text s) (λ t. Some (t, ts)) (text, rest) e in
    let q : (a.0, ts) ≡ (text, rest) = some_is (a.0, ts) (text, rest) a.2 in
    rw a.1 (ap (λ (y : List ℕ × List Token). with_first y.0 (literals_at y.1)) q)

-- one literal more is read
pub literal_read : (front : List (List ℕ)) (ts : List Token) (text : List ℕ) (rest : List Token) (total : Option (List (List ℕ) × List Token)) → filled_at ts ≡ Some (text, rest)
    → with_front front (literals_at ts) ≡ total → with_front (front ++ text ∷ []) (literals_at rest) ≡ total
literal_read front ts text rest total e h =
    sym (ap (with_front front) (literal_first ts text rest e) ∙ regroup front text (literals_at rest)) ∙ h

no_text : (o : Option (List ℕ)) (ts : List Token) → ◌>>=◌ {B = List ℕ × List Token} o (λ t. Some (t, ts)) ≡ None → o ≡ None
no_text None ts e = refl
no_text (Some t) ts e = absurd cc

-- a literal that stands there can't be read
pub literal_fails : (e : SyntaxError) (front : List (List ℕ)) (ts : List Token) (total : Option (List (List ℕ) × List Token)) → has_literal ts ≡ true → Fails e (filled_at ts) → with_front front (literals_at ts) ≡ total → Fails e total
unfolding literals_at
literal_fails Memory front ts total l f h = tt
literal_fails (Fault kind place) front [] total l f h = absurd cc
literal_fails (Fault kind place) front (name s ∷ ts) total l f h = absurd cc
literal_fails (Fault kind place) front (number s ∷ ts) total l f h = absurd cc
literal_fails (Fault kind place) front (mark m ∷ ts) total l f h = absurd cc
literal_fails (Fault kind place) front (wrong ∷ ts) total l f h = sym h
literal_fails (Fault kind place) front (bad ∷ ts) total l f h = absurd cc
literal_fails (Fault kind place) front (literal s ∷ ts) total l f h =
    let lost : literals_at (literal s ∷ ts) ≡ None = rw (no_text (filled_text s) ts f) refl in
    sym h ∙ ap (with_front front) lost

-- no literal follows
pub literals_end : (front : List (List ℕ)) (ts : List Token) (total : Option (List (List ℕ) × List Token)) → has_literal ts ≡ false → with_front front (literals_at ts) ≡ total → total ≡ Some (front, ts)
unfolding literals_at
literals_end front [] total l h = sym h ∙ ap (λ (xs : List (List ℕ)). Some (xs, [])) (append-nil front)
literals_end front (name s ∷ ts) total l h = sym h ∙ ap (λ (xs : List (List ℕ)). Some (xs, name s ∷ ts)) (append-nil front)
literals_end front (number s ∷ ts) total l h = sym h ∙ ap (λ (xs : List (List ℕ)). Some (xs, number s ∷ ts)) (append-nil front)
literals_end front (literal s ∷ ts) total l h = absurd cc
literals_end front (mark m ∷ ts) total l h = sym h ∙ ap (λ (xs : List (List ℕ)). Some (xs, mark m ∷ ts)) (append-nil front)
literals_end front (wrong ∷ ts) total l h = absurd cc
literals_end front (bad ∷ ts) total l h = sym h ∙ ap (λ (xs : List (List ℕ)). Some (xs, bad ∷ ts)) (append-nil front)
