-- How the outcomes end that the parsers inside an expression make of those of their parts, and where a run goes on from there.
use Rattle.std.proofs.Common.{◌≡◌, List, Bool, true, false, refl, ap, ◌∙◌}
use Rattle.pg_tree.specs.Trees.{Tree}
use Rattle.pg_grammar_form.specs.Operators.{Operator}
use Rattle.pg_grammar_form.specs.declared.used.BuilderUse.{BuilderUse}
use Rattle.pg_grammar_value.specs.declared.trail.Fixity.{Fixity}
use Rattle.pg_grammar_value.specs.declared.trail.TrailItem.{TrailItem}
use Rattle.pg_language.specs.Derives.{Spot}
use Rattle.pg_language.specs.Errors.{Error, no_messages_at}
use Rattle.pg_language.specs.OperatorReads.{Read}
use Rattle.pg_language.specs.Outcomes.{Outcome, ok, failed, empty_round}
use Rattle.pg_language.specs.Reactions.{noted, after_failure, unless_begun}
use Rattle.pg_language.specs.RowReactions.{noted_operator, then_stretch, then_operand, as_applied, or_return, or_ambiguous, labelled_operator}
use Rattle.pg_derive_bound.proofs.Paid.{end_of, joined, returned}
use Rattle.pg_derive_bound.proofs.Repeats.{begun_ends}

-- ---- how reactions end

pub stretch_ends : (c : Bool) (t : List TrailItem) (e : Error) (o : Outcome) → joined c (end_of o) ≡ end_of (then_stretch c t e o)
stretch_ends c t e (ok d b w u f) = refl
stretch_ends c t e (failed d f) = refl
stretch_ends c t e empty_round = refl

applied_ends : (used : BuilderUse) (o : Operator) (v : List Tree) (x : Outcome) → end_of x ≡ end_of (as_applied used o v x)
applied_ends used o v (ok c b w t e) = refl
applied_ends used o v (failed c e) = refl
applied_ends used o v empty_round = refl

return_ends : (a : Spot) (v : List Tree) (o : Outcome) → returned a.place (end_of o) ≡ end_of (or_return a v o)
return_ends a v (ok c b w t e) = refl
return_ends a v (failed c e) = begun_ends c a v e
return_ends a v empty_round = refl

pub ambiguous_ends : (e : Error) (o : Outcome) → end_of o ≡ end_of (or_ambiguous e o)
ambiguous_ends e (ok c b v t f) = refl
ambiguous_ends e (failed true f) = refl
ambiguous_ends e (failed false f) = refl
ambiguous_ends e empty_round = refl

labelled_ends : (o : Outcome) → end_of o ≡ end_of (labelled_operator o)
labelled_ends (ok c b v t e) = refl
labelled_ends (failed c e) = refl
labelled_ends empty_round = refl

pub failure_ends : (e : Error) (o : Outcome) → end_of o ≡ end_of (after_failure e o)
failure_ends e (ok c b v t f) = refl
failure_ends e (failed c f) = refl
failure_ends e empty_round = refl

pub row_ends : (c : Bool) (t : List TrailItem) (e : Error) (o : Outcome) → joined c (end_of o) ≡ end_of (then_stretch c t e (labelled_operator o))
row_ends c t e o = ap (joined c) (labelled_ends o) ∙ stretch_ends c t e (labelled_operator o)

pub operand_ends : (c : Bool) (t : List TrailItem) (e : Error) (b : Spot) (w : List Tree) (o : Outcome) → joined c (returned b.place (end_of o)) ≡ end_of (then_stretch c t e (or_return b w o))
operand_ends c t e b w o = ap (joined c) (return_ends b w o) ∙ stretch_ends c t e (or_return b w o)

pub operator_ends : (side : Fixity) (q : Read) (o : Outcome) → joined true (end_of o) ≡ end_of (then_operand side q o)
operator_ends side q o = stretch_ends true (noted_operator side q.operator) (no_messages_at q.end) o

pub applied_operator_ends : (side : Fixity) (q : Read) (used : BuilderUse) (v : List Tree) (o : Outcome) → joined true (end_of o) ≡ end_of (then_operand side q (as_applied used q.operator v o))
applied_operator_ends side q used v o = ap (joined true) (applied_ends used q.operator v o) ∙ operator_ends side q (as_applied used q.operator v o)

pub non_ends : (e : Error) (a : Spot) (v : List Tree) (o : Outcome) → returned a.place (end_of o) ≡ end_of (after_failure e (or_return a v o))
non_ends e a v o = return_ends a v o ∙ failure_ends e (or_return a v o)

-- ---- where a run may go on from

-- where the outcome is ok, this is so of the spot after it
abbrev pub At : (Spot → Type 0) → Outcome → Type 0
At Is (ok c b v t e) = Is b
At Is (failed c e) = Unit {0}
At Is empty_round = Unit {0}

pub at_stretch : (Is : Spot → Type 0) (c : Bool) (t : List TrailItem) (e : Error) (o : Outcome) → At Is o → At Is (then_stretch c t e o)
at_stretch Is c t e (ok d b w u f) h = h
at_stretch Is c t e (failed d f) h = tt
at_stretch Is c t e empty_round h = tt

at_applied : (Is : Spot → Type 0) (used : BuilderUse) (o : Operator) (v : List Tree) (x : Outcome) → At Is x → At Is (as_applied used o v x)
at_applied Is used o v (ok c b w t e) h = h
at_applied Is used o v (failed c e) h = tt
at_applied Is used o v empty_round h = tt

at_begun : (Is : Spot → Type 0) (c : Bool) (a : Spot) (v : List Tree) (e : Error) → Is a → At Is (unless_begun c a v e)
at_begun Is true a v e h = tt
at_begun Is false a v e h = h

at_return : (Is : Spot → Type 0) (a : Spot) (v : List Tree) (o : Outcome) → Is a → At Is o → At Is (or_return a v o)
at_return Is a v (ok c b w t e) is h = h
at_return Is a v (failed c e) is h = at_begun Is c a v e is
at_return Is a v empty_round is h = tt

pub at_ambiguous : (Is : Spot → Type 0) (e : Error) (o : Outcome) → At Is o → At Is (or_ambiguous e o)
at_ambiguous Is e (ok c b v t f) h = h
at_ambiguous Is e (failed true f) h = tt
at_ambiguous Is e (failed false f) h = tt
at_ambiguous Is e empty_round h = tt

at_labelled : (Is : Spot → Type 0) (o : Outcome) → At Is o → At Is (labelled_operator o)
at_labelled Is (ok c b v t e) h = h
at_labelled Is (failed c e) h = tt
at_labelled Is empty_round h = tt

pub at_failure : (Is : Spot → Type 0) (e : Error) (o : Outcome) → At Is o → At Is (after_failure e o)
at_failure Is e (ok c b v t f) h = h
at_failure Is e (failed c f) h = tt
at_failure Is e empty_round h = tt

pub at_noted : (Is : Spot → Type 0) (x : TrailItem) (o : Outcome) → At Is o → At Is (noted x o)
at_noted Is x (ok c b v t e) h = h
at_noted Is x (failed c e) h = tt
at_noted Is x empty_round h = tt

pub at_row : (Is : Spot → Type 0) (c : Bool) (t : List TrailItem) (e : Error) (o : Outcome) → At Is o → At Is (then_stretch c t e (labelled_operator o))
at_row Is c t e o h = at_stretch Is c t e (labelled_operator o) (at_labelled Is o h)

pub at_operand : (Is : Spot → Type 0) (c : Bool) (t : List TrailItem) (e : Error) (b : Spot) (w : List Tree) (o : Outcome) → Is b → At Is o → At Is (then_stretch c t e (or_return b w o))
at_operand Is c t e b w o is h = at_stretch Is c t e (or_return b w o) (at_return Is b w o is h)

pub at_operator : (Is : Spot → Type 0) (side : Fixity) (q : Read) (o : Outcome) → At Is o → At Is (then_operand side q o)
at_operator Is side q o h = at_stretch Is true (noted_operator side q.operator) (no_messages_at q.end) o h

pub at_applied_operator : (Is : Spot → Type 0) (side : Fixity) (q : Read) (used : BuilderUse) (v : List Tree) (o : Outcome) → At Is o → At Is (then_operand side q (as_applied used q.operator v o))
at_applied_operator Is side q used v o h = at_operator Is side q (as_applied used q.operator v o) (at_applied Is used q.operator v o h)

pub at_non : (Is : Spot → Type 0) (e : Error) (a : Spot) (v : List Tree) (o : Outcome) → Is a → At Is o → At Is (after_failure e (or_return a v o))
at_non Is e a v o is h = at_failure Is e (or_return a v o) (at_return Is a v o is h)
