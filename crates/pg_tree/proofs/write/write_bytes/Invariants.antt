use Rattle.std.proofs.Common.{◌≡◌, false, length, ◌-◌, ◌≤◌, take}
use Rattle.std.specs.Io.KnownBytes.{Appends}
use Rattle.pg_tree.specs.Meter.{saturating_sum}
use Rattle.pg_tree.proofs.write.write_bytes.Given as goal

abbrev pub invariant-loop-written : goal.invariant-loop-written
invariant-loop-written g l = record {
  within : l.written ≤ length l.bytes;
  well : l.writer.failed ≡ false;
  counted : l.writer.bytes ≡ saturating_sum l.fn.writer.bytes l.written;
  appended : Appends (g.W.Write.contents l.fn.writer.inner) (g.W.Write.contents l.writer.inner) (take l.written l.bytes);
}

abbrev pub decreases-loop-written : goal.decreases-loop-written
decreases-loop-written g l = length l.bytes - l.written
