use Rattle.std.proofs.Common.{◌≡◌, ◌+◌, drop}
use Rattle.std.specs.List.{prefix_len}
use Rattle.pg_grammar_form.specs.ClassItems.{has_character}
use Rattle.pg_machine_turns.proofs.leaves.run_len.Given as goal

abbrev pub invariant-loop-c : goal.invariant-loop-c
invariant-loop-c l = record {
  read : l.count ≡ l.c-index;
  left : l.count + prefix_len (has_character l.grammar.classes l.item.rest) (drop l.count l.characters) ≡ prefix_len (has_character l.grammar.classes l.item.rest) l.characters;
}
