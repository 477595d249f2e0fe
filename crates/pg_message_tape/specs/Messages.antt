-- What messages say, and the error that a list of them makes up.
use Rattle.std.specs.Prelude.{ℕ, Bool, true, false, not, ◌==◌, if◌then◌else◌, List, [], ◌∷◌, ◌++◌, filter, length, take, drop, codes}
use Rattle.std.specs.Str.{encode_utf8_all}
use Rattle.pg_message.specs.Messages.{Text, Messages, no_messages, with_text}
use Rattle.pg_message.specs.declared.kind.MessageKind.{MessageKind}
use Rattle.pg_message.specs.declared.kind.MessageKind.TheVariants.{SystemUnexpected, Unexpected, Expected, Plain}
use Rattle.pg_language.specs.Declarations.{not_admitted}
use Rattle.pg_language.specs.Errors.{Error, quote, next_text, seen_at, stopped_before, refused_before}
use Rattle.pg_message_tape.specs.declared.message.Message.{Message}
use Rattle.pg_message_tape.specs.declared.message.Message.TheVariants.{Stopped, Refused, Reserved, Wanted, WantedEnd, Named, WantedDeclaration, WantedPrecedence, WantedSymbol, NotAdmitted, WantedNameless, WantedOperator, Ambiguous}
use Rattle.pg_message_tape.specs.declared.message.Sided.{Sided}
use Rattle.pg_message_tape.specs.declared.message.Sided.TheVariants as sided
use Rattle.pg_language.specs.OperatorReads.{ambiguous_words}

-- a message's kind and text
pub record TapeMessage : Type 0 where
  pub kind : MessageKind
  pub text : Text

abbrev pub message_kind : Message → MessageKind
message_kind (Stopped next) = SystemUnexpected
message_kind (Refused next) = Unexpected
message_kind (Reserved word) = Unexpected
message_kind (Wanted s) = Expected
message_kind WantedEnd = Expected
message_kind (Named name) = Expected
message_kind WantedDeclaration = Expected
message_kind WantedPrecedence = Expected
message_kind WantedSymbol = Expected
message_kind (NotAdmitted fault symbol) = Plain
message_kind WantedNameless = Expected
message_kind WantedOperator = Expected
message_kind (Ambiguous side) = Plain

-- a side as the word in a message
abbrev pub side_words : Sided → List ℕ
side_words sided.Left = codes "left"
side_words sided.Right = codes "right"
side_words sided.Neither = codes "non"

abbrev pub message_text : Message → Text
message_text (Stopped next) = next_text next
message_text (Refused next) = next_text next
message_text (Reserved word) = codes "reserved word " ++ quote word.now
message_text (Wanted s) = quote s.now
message_text WantedEnd = codes "end of input"
message_text (Named name) = encode_utf8_all name.now
message_text WantedDeclaration = codes "declaration"
message_text WantedPrecedence = codes "precedence"
message_text WantedSymbol = codes "operator symbol"
message_text (NotAdmitted fault symbol) = not_admitted symbol.now fault
message_text WantedNameless = []
message_text WantedOperator = codes "operator"
message_text (Ambiguous side) = ambiguous_words (side_words side)

abbrev pub tape_message_of : Message → TapeMessage
tape_message_of message = record { kind = message_kind message; text = message_text message }

-- the messages with one more, unless it is there already
abbrev pub with_message_once : Messages → MessageKind → Text → Messages
with_message_once m SystemUnexpected text = record m { system_unexpected = with_text m.system_unexpected text }
with_message_once m Unexpected text = record m { unexpected = with_text m.unexpected text }
with_message_once m Expected text = record m { expected = with_text m.expected text }
with_message_once m Plain text = record m { plain = with_text m.plain text }

-- the messages with each of these added in turn
abbrev pub with_messages_once : Messages → List TapeMessage → Messages
with_messages_once m [] = m
with_messages_once m (s ∷ ss) = with_messages_once (with_message_once m s.kind s.text) ss

-- the error at a place with these messages, each kept once
abbrev pub error_of : ℕ → List TapeMessage → Error
error_of place ss = record { place = place; messages = with_messages_once no_messages ss }

abbrev pub is_expected : MessageKind → Bool
is_expected SystemUnexpected = false
is_expected Unexpected = false
is_expected Expected = true
is_expected Plain = false

-- the messages that don't say what was expected
abbrev pub unexpected : List TapeMessage → List TapeMessage
unexpected ss = filter (λ s. not (is_expected s.kind)) ss

-- a name as a message that it was expected
abbrev pub named : List ℕ → TapeMessage
named name = record { kind = Expected; text = encode_utf8_all name }

-- the messages after the first `from` keep only what isn't an expectation, followed by this name as the only one expected
abbrev pub relabelled : List ℕ → ℕ → List TapeMessage → List TapeMessage
relabelled name from ss = take from ss ++ unexpected (drop from ss) ++ named name ∷ []

-- the error of a parser of the end of the text, at the end and before it
abbrev pub end_error : List ℕ → ℕ → Error
end_error text place = if place == length text
    then stopped_before (codes "end of input") [] place
    else refused_before (codes "end of input") (seen_at text place) place
