use Rattle.std.proofs.Common.{◌≡◌, ◌≤◌, [], drop, length}
use Rattle.std.specs.Prelude.{sum}
use Rattle.pg_tree.specs.Written.{openings_on, AreWithin}
use Rattle.pg_tree.proofs.openings.openings.Given as goal

abbrev pub invariant-loop-i : goal.invariant-loop-i
invariant-loop-i l = record {
  counted : length l.openings.items ≡ l.i;
  few : sum l.openings.items ≤ l.i;
  within : AreWithin l.i (drop l.i l.entries);
  noted : openings_on l.openings.items (drop l.i l.entries) ≡ openings_on [] l.entries;
}
