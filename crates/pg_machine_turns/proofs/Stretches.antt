-- Stretches of an expression one after the other: their trails, and what is after an operator.
use Rattle.std.proofs.Common.{◌≡◌, List, ◌∷◌, ◌++◌, Bool, true, false, refl, ap, ◌∙◌, append_assoc}
use Rattle.std.specs.Prelude.{◌||◌}
use Rattle.pg_tree.specs.Trees.{Tree}
use Rattle.pg_grammar_value.specs.declared.trail.TrailItem.{TrailItem}
use Rattle.pg_grammar_value.specs.declared.trail.TrailItem.TheVariants.{Ops}
use Rattle.pg_grammar_value.specs.declared.trail.AppliedOperator.{AppliedOperator}
use Rattle.pg_grammar_value.specs.declared.trail.Fixity.TheVariants as fixity
use Rattle.pg_language.specs.Derives.{Spot}
use Rattle.pg_language.specs.Errors.{Error}
use Rattle.pg_language.specs.OperatorReads.{Read}
use Rattle.pg_language.specs.Outcomes.{Outcome, ok, failed, empty_round}
use Rattle.pg_language.specs.RowReactions.{operators_of, items_of, joined_trail, noted_operator, then_stretch, then_operand, or_return, or_ambiguous, labelled_operator}
use Rattle.pg_machine_turns.specs.Levels.{after_operator, with_infix}

-- ---- trails

pub joined_assoc : (t u w : List TrailItem) → joined_trail (joined_trail t u) w ≡ joined_trail t (joined_trail u w)
joined_assoc t u w =
    ap (λ (os : List AppliedOperator). Ops os ∷ (items_of t ++ items_of u ++ items_of w)) (append_assoc (operators_of t) (operators_of u) (operators_of w))
    ∙ ap (λ (is : List TrailItem). Ops (operators_of t ++ (operators_of u ++ operators_of w)) ∷ is) (append_assoc (items_of t) (items_of u) (items_of w))

true_after : (c : Bool) → (c || true) ≡ true
true_after false = refl
true_after true = refl

-- ---- what is after an operator consumed

-- a row from its first operand on, where an infix operator follows that
pub row_goes_on : (c : Bool) (t : List TrailItem) (e : Error) (q : Read) (y : Outcome) →
    then_stretch c t e (labelled_operator (then_operand fixity.Infix q y)) ≡ after_operator q (with_infix t q) y
row_goes_on c t e q (ok d b w u f) =
    let one = true_after c in let two = joined_assoc t (noted_operator fixity.Infix q.operator) u in cc
row_goes_on c t e q (failed d f) = let one = true_after c in cc
row_goes_on c t e q empty_round = refl

-- an operand of an operator of one side, where another operator of that side follows it
pub goes_on : (c : Bool) (u : List TrailItem) (e f : Error) (b : Spot) (w : List Tree) (p : Read) (y : Outcome) →
    then_stretch c u e (or_return b w (or_ambiguous f (then_operand fixity.Infix p y))) ≡ after_operator p (with_infix u p) y
goes_on c t e g b v q (ok d a w u f) =
    let one = true_after c in let two = joined_assoc t (noted_operator fixity.Infix q.operator) u in cc
goes_on c t e g b v q (failed d f) = let one = true_after c in cc
goes_on c t e g b v q empty_round = refl

-- what is after a left-associative operator, where another one follows
pub left_goes_on : (q : Read) (t u : List TrailItem) (p : Read) (y : Outcome) →
    after_operator q t (after_operator p (with_infix u p) y) ≡ after_operator p (with_infix (joined_trail t u) p) y
left_goes_on q t u p (ok d a w r f) =
    let one = joined_assoc t u (noted_operator fixity.Infix p.operator) in
    let two = joined_assoc t (with_infix u p) r in cc
left_goes_on q t u p (failed d f) = refl
left_goes_on q t u p empty_round = refl
