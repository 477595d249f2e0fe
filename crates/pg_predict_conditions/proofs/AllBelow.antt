-- What is noted for one number after another.
use Rattle.std.proofs.Common.{◌≡◌, ℕ, zero, suc, ◌+◌, ◌<◌, List, [], ◌++◌, append-nil, refl, sym, ap, ◌∙◌, arith}
use Rattle.std.specs.Prelude.{nat_lt, if◌then◌else◌, Bool, false}
use Rattle.pg_predict_conditions.specs.Judged.{Facts, all_below, meeting_alternatives, noted_meeting, node_meeting, part_at}
use Rattle.pg_predict_conditions.specs.declared.violation.ViolationKind.TheVariants.{AlternativesMeet}
use Rattle.pg_predict_conditions.specs.Violations.{Violation}

-- nothing is noted for the first
pub all_below_none : (f : ℕ → List (Violation ℕ)) (n : ℕ) → ((k : ℕ) → k < n → f k ≡ []) → all_below f n ≡ []
all_below_none f zero none = refl
all_below_none f (suc n) none = ap (λ xs. xs ++ f n) (all_below_none f n (λ k below. none k (omega arith))) ∙ none n (omega arith)

not_below : (j k : ℕ) → k < j + 1 → nat_lt j k ≡ false
not_below j k below = grind arith

-- no alternative is judged with itself or one before it
none_with : (facts : Facts) (p : ℕ) (parts : List ℕ) (j k : ℕ) → k < j + 1 → meeting_alternatives facts p parts j k ≡ []
none_with facts p parts j k below =
    ap (λ (b : Bool). if b then noted_meeting (node_meeting facts (part_at parts j) (part_at parts k)) p (AlternativesMeet (j + 1) (k + 1)) else []) (not_below j k below)

pub none_before : (facts : Facts) (p : ℕ) (parts : List ℕ) (j : ℕ) (old : List (Violation ℕ)) → old ≡ old ++ all_below (meeting_alternatives facts p parts j) (j + 1)
none_before facts p parts j old =
    sym (ap (λ xs. old ++ xs) (all_below_none (meeting_alternatives facts p parts j) (j + 1) (λ k below. none_with facts p parts j k below)) ∙ append-nil old)
