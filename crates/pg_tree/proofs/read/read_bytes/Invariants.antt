use Rattle.std.proofs.Common.{◌≡◌, ◌≤◌, false, length}
use Rattle.std.specs.Io.KnownBytes.{Consumes}
use Rattle.pg_tree.specs.Meter.{saturating_sum}
use Rattle.pg_tree.proofs.read.read_bytes.Given as goal

abbrev pub invariant-loop : goal.invariant-loop
invariant-loop g l = record {
  turns : l.counter ≤ length l.read.items;
  short : length l.read.items ≤ l.limit;
  well : l.reader.failed ≡ false;
  asked : l.reader.calls ≡ saturating_sum l.fn.reader.calls l.counter;
  counted : l.reader.bytes ≡ saturating_sum l.fn.reader.bytes (length l.read.items);
  taken : Consumes (g.R.Read.remaining l.fn.reader.inner) (g.R.Read.remaining l.reader.inner) l.read.items;
}
