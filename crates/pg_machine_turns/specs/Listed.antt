-- The messages of an error, in order.
use Rattle.std.specs.Prelude.{List, ◌++◌, map}
use Rattle.pg_message.specs.Messages.{Text, Messages}
use Rattle.pg_message.specs.declared.kind.MessageKind.{MessageKind}
use Rattle.pg_message.specs.declared.kind.MessageKind.TheVariants.{SystemUnexpected, Unexpected, Expected, Plain}
use Rattle.pg_message_tape.specs.Messages.{TapeMessage}

abbrev pub listed_kind : MessageKind → List Text → List TapeMessage
listed_kind kind texts = map (λ (text : Text). let said : TapeMessage = record { kind = kind; text = text } in said) texts

abbrev pub listed : Messages → List TapeMessage
listed m = listed_kind SystemUnexpected m.system_unexpected ++ (listed_kind Unexpected m.unexpected ++ (listed_kind Expected m.expected
    ++ listed_kind Plain m.plain))
