use Rattle.std.proofs.Common.{◌≡◌, take}
use Rattle.pg_grammar_classes.proofs.item_sets.sets_of_classes.Given as goal

abbrev pub invariant-loop-class : goal.invariant-loop-class
invariant-loop-class l = l.sets.items ≡ take l.class-index l.classes
