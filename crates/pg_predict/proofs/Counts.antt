-- How many conditions are broken at a node, counted as they are found.
use Rattle.std.proofs.Common.{◌≡◌, ℕ, ◌+◌, ◌-◌, ◌^◌, ◌≤◌, min, List, [], ◌∷◌, length, ap, ◌∙◌, arith}
use Rattle.std.proofs.lemmas.List.{length-map}
use Rattle.pg_predict_conditions.specs.Violations.{Violation, kinds_of, counted}

pub counted_none : (all : List (Violation ℕ)) → min (0 + length all) (2 ^ 64 - 1) ≡ counted all
counted_none all = let same : 0 + length all ≡ length all = omega arith in ap (λ (n : ℕ). min n (2 ^ 64 - 1)) same

pub counted_more : (count next total : ℕ) (rest more : List (Violation ℕ)) (v : Violation ℕ) → min (count + length rest) (2 ^ 64 - 1) ≡ total → rest ≡ v ∷ more
    → next ≡ min (count + 1) (2 ^ 64 - 1) → min (next + length more) (2 ^ 64 - 1) ≡ total
counted_more count next total rest more v so_far e sum = let one : length rest ≡ length more + 1 = ap length e ∙ omega arith in omega arith

pub counted_all : (count total : ℕ) (rest : List (Violation ℕ)) → min (count + length rest) (2 ^ 64 - 1) ≡ total → rest ≡ [] → count ≤ 2 ^ 64 - 1 → count ≡ total
counted_all count total rest so_far e small = let none : length rest ≡ 0 = ap length e in omega arith

-- kinds are as many as violations
pub counted_kinds : (vs : List (Violation ℕ)) → counted (kinds_of vs) ≡ counted vs
counted_kinds vs = ap (λ (n : ℕ). min n (2 ^ 64 - 1)) (length-map vs (λ (v : Violation ℕ). v.kind))
