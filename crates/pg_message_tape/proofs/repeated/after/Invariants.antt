use Rattle.std.proofs.Common.{◌≡◌, ◌≤◌, length, take}
use Rattle.pg_message_tape.specs.Repeats.{said}
use Rattle.pg_message_tape.proofs.repeated.after.Given as goal

abbrev pub invariant-back : goal.invariant-back
invariant-back l = record {
  first : l.first ≤ length l.entries;
  before : l.before ≡ length (said (take l.first l.entries));
}

abbrev pub decreases-back : goal.decreases-back
decreases-back l = l.first
