use Rattle.std.proofs.Common.{◌≡◌, map, drop}
use Rattle.pg_message_tape.specs.Messages.{tape_message_of, with_messages_once}
use Rattle.pg_message_tape.proofs.texts.say_all.Given as goal

abbrev pub invariant-loop-message : goal.invariant-loop-message
invariant-loop-message l = record {
  place : l.error.place ≡ l.fn.error.place;
  position : l.error.position ≡ l.fn.error.position;
  left : with_messages_once l.error.messages (map tape_message_of (drop l.message-index l.messages)) ≡ with_messages_once l.fn.error.messages (map tape_message_of l.messages);
}
