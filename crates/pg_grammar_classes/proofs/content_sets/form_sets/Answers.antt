use Rattle.std.proofs.Common.{refl, ap, ◌∙◌}
use Rattle.pg_class.specs.Ranges.{has}
use Rattle.pg_grammar_form.specs.Contents.{class_parts}
use Rattle.pg_grammar_classes.proofs.Sets.{sets-next, sets-all}
use Rattle.pg_grammar_classes.proofs.content_sets.form_sets.Goals as goal

pub form_set-requires-clause-none : goal.form_set-requires-clause-none
form_set-requires-clause-none c = λ x is. ap (λ s. has s x) c.in_ok-none.ensures ∙ c.in_ok-class.ensures x is

pub loop-i-init : goal.loop-i-init
loop-i-init c = rw c.in_ok-sets.ensures.items (λ x is. refl)

pub loop-i-preserved : goal.loop-i-preserved
loop-i-preserved c =
    rw c.in_ok-push.ensures.items
    (sets-next class_parts c.args.items.now c.args.forms.now c.loop-i.i c.index-forms-i.result c.loop-i.sets.items c.in_ok-set.set c.loop-i-test.true c.index-forms-i.is c.loop-i.invariant c.in_ok-set.ensures)

pub returns : goal.returns
returns c = sets-all class_parts c.args.items.now c.args.forms.now c.loop-i.i c.loop-i.sets.items c.loop-i-test.false c.loop-i.invariant
