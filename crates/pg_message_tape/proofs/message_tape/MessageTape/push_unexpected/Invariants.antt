use Rattle.std.proofs.Common.{◌≡◌, ◌++◌, drop}
use Rattle.pg_message_tape.specs.Messages.{unexpected}
use Rattle.pg_message_tape.specs.Repeats.{said}
use Rattle.pg_message_tape.proofs.message_tape.MessageTape.push_unexpected.Given as goal

abbrev pub invariant-loop-entry : goal.invariant-loop-entry
invariant-loop-entry l = l.self ++ unexpected (said (drop l.entry-index l.entries)) ≡ l.fn.self ++ unexpected (said l.entries)
