use Rattle.std.proofs.Common.{◌≡◌, ◌<◌, ℕ, false, length, slice_index_or}
use Rattle.pg_class.specs.Ranges.{has}
use Rattle.pg_grammar_classes.proofs.ascii_table.AsciiTable.of.Given as goal

abbrev pub invariant-loop-code : goal.invariant-loop-code
invariant-loop-code l = record {
  all : length l.answers ≡ 128;
  right : (k : ℕ) → k < l.code → slice_index_or l.answers k false ≡ has l.class k;
}
