-- Negating the first of several answers.
use Rattle.std.proofs.Common.{◌≡◌, Bool, true, false, not, List, [], ◌∷◌, take, refl}
use Rattle.std.specs.Bool.{beq}
use Rattle.pg_grammar_form.specs.Classes.{one_holds, first_negated}
use Rattle.pg_grammar_value.specs.Membership.{negated_if}

-- negated twice is not at all
not_twice : (b : Bool) → not (not b) ≡ b
not_twice true = refl
not_twice false = refl

-- the first of these, negated twice
negated_twice : (bs : List Bool) → first_negated (first_negated bs) ≡ bs
negated_twice [] = refl
negated_twice (b ∷ bs) = rw not_twice refl

-- one complement more
pub negated-next : (negated : Bool) (bs : List Bool) → negated_if negated (first_negated bs) ≡ negated_if (not negated) bs
negated-next true bs = negated_twice bs
negated-next false bs = refl

-- the first of these, negated or not
pub negated-first : (negated b : Bool) (bs : List Bool) → not (beq b negated) ≡ one_holds (take 1 (negated_if negated (b ∷ bs)))
negated-first true true bs = refl
negated-first true false bs = refl
negated-first false true bs = refl
negated-first false false bs = refl
