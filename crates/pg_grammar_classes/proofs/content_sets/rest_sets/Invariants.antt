use Rattle.std.proofs.Common.{map, take}
use Rattle.pg_grammar_classes.specs.Contents.{word_rest}
use Rattle.pg_grammar_classes.specs.Sets.{AreSetsBy}
use Rattle.pg_grammar_classes.proofs.content_sets.rest_sets.Given as goal

abbrev pub invariant-loop-word : goal.invariant-loop-word
invariant-loop-word l = AreSetsBy l.items (map word_rest (take l.word-index l.words)) l.sets.items
