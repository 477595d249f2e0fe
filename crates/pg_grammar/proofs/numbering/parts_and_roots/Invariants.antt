use Rattle.std.proofs.Common.{◌≡◌, ◌≤◌, length, take, drop, map}
use Rattle.pg_grammar_form.specs.Preorder.{roots, parts_from}
use Rattle.pg_grammar_form.specs.Forms.{part_count}
use Rattle.pg_grammar.proofs.numbering.parts_and_roots.Given as goal

abbrev pub invariant-loop-form : goal.invariant-loop-form
invariant-loop-form l = record {
  within : length l.rest ≤ length l.forms;
  front : l.rest ≡ take (length l.rest) l.forms;
  parts : l.parts.items ≡ parts_from (length l.rest) (map part_count (drop (length l.rest) l.forms));
  roots : l.roots.items ≡ roots (length l.rest) (map part_count (drop (length l.rest) l.forms));
}

abbrev pub decreases-loop-form : goal.decreases-loop-form
decreases-loop-form l = length l.rest
