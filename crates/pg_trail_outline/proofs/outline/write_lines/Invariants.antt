-- The writer didn't fail yet.
use Rattle.std.proofs.Common.{◌≡◌, false}
use Rattle.pg_trail_outline.proofs.outline.write_lines.Given as goal

abbrev pub invariant-loop-number : goal.invariant-loop-number
invariant-loop-number g l = l.writer.failed ≡ false
