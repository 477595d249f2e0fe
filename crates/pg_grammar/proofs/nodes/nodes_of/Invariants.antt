use Rattle.std.proofs.Common.{◌≡◌, ◌++◌, ◌+◌, ◌≤◌, length, map, vec_capacity}
use Rattle.pg_grammar_form.specs.WordItems.{word_name}
use Rattle.pg_grammar.specs.Numbering.{nodes_with}
use Rattle.pg_grammar.proofs.nodes.nodes_of.Given as goal

abbrev pub invariant-loop-form : goal.invariant-loop-form
invariant-loop-form l = record {
  nodes : l.nodes.items ++ nodes_with l.names (map word_name l.words) l.forms.items l.parts.items
      ≡ nodes_with l.names (map word_name l.words) l.fn.forms.items l.fn.parts.items;
  parts : length l.parts.items ≡ length l.forms.items;
  room : length l.nodes.items + length l.forms.items ≤ vec_capacity l.nodes;
}

abbrev pub decreases-loop-form : goal.decreases-loop-form
decreases-loop-form l = length l.forms.items
