use Rattle.std.proofs.Common.{◌≡◌, length, count_by, not}
use Rattle.pg_sets_nullable.proofs.NullableMarks.{OnNullable}
use Rattle.pg_sets_nullable.proofs.nullable.nullable_nodes.Given as goal

abbrev pub decreases-loop : goal.decreases-loop
decreases-loop l = count_by not l.marks.items

abbrev pub invariant-loop : goal.invariant-loop
invariant-loop l = record {
  length : length l.marks.items ≡ length l.grammar.nodes;
  nullable : OnNullable l.grammar l.marks.items;
}
