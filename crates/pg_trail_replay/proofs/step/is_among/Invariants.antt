-- None of the rules before is the one that is looked for.
use Rattle.std.proofs.Common.{◌≡◌, take, false}
use Rattle.pg_trail_replay.specs.Tasks.{is_entered}
use Rattle.pg_trail_replay.proofs.step.is_among.Given as goal

abbrev pub invariant-loop-other : goal.invariant-loop-other
invariant-loop-other l = is_entered l.rule (take l.other-index l.rules) ≡ false
