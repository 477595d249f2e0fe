use Rattle.std.proofs.Common.{◌≡◌, ◌+◌, ◌≤◌, length, drop}
use Rattle.std.specs.List.{prefix_len}
use Rattle.pg_grammar_form.specs.ClassItems.{has_character}
use Rattle.pg_grammar_value.specs.Sites.{class_at}
use Rattle.pg_machine_quick.proofs.reading.counted_of.Given as goal

-- those so far are of the class
abbrev pub invariant-loop-c : goal.invariant-loop-c
invariant-loop-c l = record {
  read : l.count ≡ l.c-index;
  within : l.count ≤ length l.characters;
  left : l.count + prefix_len (has_character l.grammar.classes (class_at l.grammar l.class)) (drop l.count l.characters)
      ≡ prefix_len (has_character l.grammar.classes (class_at l.grammar l.class)) l.characters;
}
