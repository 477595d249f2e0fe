use Rattle.std.proofs.Common.{map, take}
use Rattle.pg_grammar_form.specs.Contents.{class_parts}
use Rattle.pg_grammar_classes.specs.Sets.{AreSetsBy}
use Rattle.pg_grammar_classes.proofs.content_sets.form_sets.Given as goal

abbrev pub invariant-loop-i : goal.invariant-loop-i
invariant-loop-i l = AreSetsBy l.items (map class_parts (take l.i l.forms)) l.sets.items
