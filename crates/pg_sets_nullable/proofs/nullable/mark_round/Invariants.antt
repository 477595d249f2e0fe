use Rattle.std.proofs.Common.{◌≡◌, ◌<◌, ◌≤◌, ℕ, true, false, not, count_by, slice_get, Some}
use Rattle.std.specs.Bool.{OnTrue}
use Rattle.pg_grammar_form.specs.Forms.{Node}
use Rattle.pg_graph.specs.Marks.{is_marked}
use Rattle.pg_sets_nullable.specs.NodeMarks.{looks_nullable}
use Rattle.pg_sets_nullable.proofs.NullableMarks.{OnNullable}
use Rattle.pg_sets_nullable.proofs.nullable.mark_round.Given as goal

abbrev pub invariant-loop-p : goal.invariant-loop-p
invariant-loop-p l = record {
  nullable : OnNullable l.grammar l.marks;
  no_more : count_by not l.marks ≤ count_by not l.initial.marks;
  fewer : OnTrue l.grew (count_by not l.marks < count_by not l.initial.marks);
  closed : l.grew ≡ false → (p : ℕ) (node : Node) → l.p ≤ p → slice_get l.grammar.nodes p ≡ Some node →
      looks_nullable l.grammar.rules l.marks node ≡ true → is_marked l.marks p ≡ true;
}
