use Rattle.std.proofs.Common.{◌≡◌, ◌++◌, drop}
use Rattle.pg_message_tape.specs.Repeats.{said}
use Rattle.pg_message_tape.proofs.message_tape.MessageTape.push_after.Given as goal

abbrev pub invariant-loop-entry : goal.invariant-loop-entry
invariant-loop-entry l = l.self ++ drop l.skipped (said (drop l.entry-index l.after.entries.now)) ≡ l.fn.self ++ drop l.after.skipped (said l.after.entries.now)
