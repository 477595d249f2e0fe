use Rattle.std.proofs.Common.{◌≡◌, map, take}
use Rattle.pg_grammar_classes.proofs.classes.class_of_each.Given as goal

abbrev pub invariant-loop-character : goal.invariant-loop-character
invariant-loop-character l = l.ranges.items ≡ map (λ x. (x, x)) (take l.character-index l.characters)
