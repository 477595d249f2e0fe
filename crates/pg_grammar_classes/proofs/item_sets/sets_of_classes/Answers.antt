use Rattle.std.proofs.Common.{arith, ◌∙◌}
use Rattle.std.proofs.lemmas.Grind.{common_steps}
use Rattle.std.proofs.lemmas.List.{take_all}
use Rattle.pg_grammar_classes.proofs.item_sets.sets_of_classes.Goals as goal

pub loop-class-preserved : goal.loop-class-preserved
loop-class-preserved c = grind (arith, common_steps)

pub returns : goal.returns
returns c = c.loop-class.invariant ∙ take_all c.loop-class.class-index c.args.classes.now c.loop-class-test.false
