use Rattle.std.proofs.Common.{◌≡◌, drop}
use Rattle.pg_message_tape.specs.Messages.{with_messages_once}
use Rattle.pg_message_tape.specs.Repeats.{said}
use Rattle.pg_message_tape.proofs.texts.say_each.Given as goal

abbrev pub invariant-loop-entry : goal.invariant-loop-entry
invariant-loop-entry l = record {
  place : l.error.place ≡ l.fn.error.place;
  position : l.error.position ≡ l.fn.error.position;
  left : with_messages_once l.error.messages (said (drop l.entry-index l.entries)) ≡ with_messages_once l.fn.error.messages (said l.entries);
}
