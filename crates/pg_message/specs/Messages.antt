-- The messages of an error: a list of texts for each kind.
use Rattle.std.specs.Prelude.{ℕ, Bool, ◌&&◌, ◌==◌, if◌then◌else◌, List, [], ◌∷◌, ◌++◌, length, count_by, not}
use Rattle.std.specs.List.{list_any}
use Rattle.std.specs.Str.{bytes_eq}
use Rattle.pg_message.specs.declared.kind.MessageKind.{MessageKind}
use Rattle.pg_message.specs.declared.kind.MessageKind.TheVariants.{SystemUnexpected, Unexpected, Expected, Plain}

-- a text, as its bytes in UTF-8
abbrev pub Text : Type 0
Text = List ℕ

-- the texts of each kind, in the order in which they were added
pub record Messages : Type 0 where
  pub system_unexpected : List Text
  pub unexpected : List Text
  pub expected : List Text
  pub plain : List Text

-- no message of any kind
abbrev pub no_messages : Messages
no_messages = record { system_unexpected = []; unexpected = []; expected = []; plain = [] }

-- whether there is no message of any kind; an empty text is a message
abbrev pub is_empty : Messages → Bool
is_empty m =
    (length m.system_unexpected == 0) && (length m.unexpected == 0) && (length m.expected == 0) && (length m.plain == 0)

-- the texts of one kind
abbrev pub of_kind : Messages → MessageKind → List Text
of_kind m SystemUnexpected = m.system_unexpected
of_kind m Unexpected = m.unexpected
of_kind m Expected = m.expected
of_kind m Plain = m.plain

-- the messages with a text added at the end of its kind
abbrev pub with_message : Messages → MessageKind → Text → Messages
with_message m SystemUnexpected text = record m { system_unexpected = m.system_unexpected ++ text ∷ [] }
with_message m Unexpected text = record m { unexpected = m.unexpected ++ text ∷ [] }
with_message m Expected text = record m { expected = m.expected ++ text ∷ [] }
with_message m Plain text = record m { plain = m.plain ++ text ∷ [] }

abbrev pub has_text : List Text → Text → Bool
has_text texts text = list_any (λ other. bytes_eq other text) texts

-- how many of the other texts are missing from these
abbrev pub missing_count : List Text → List Text → ℕ
missing_count texts others = count_by (λ text. not (has_text texts text)) others

-- the texts with one more at the end, unless it is there already
abbrev pub with_text : List Text → Text → List Text
with_text texts text = if has_text texts text then texts else texts ++ text ∷ []

-- the texts with each of the new ones added in turn, unless it is there already
abbrev pub with_texts : List Text → List Text → List Text
with_texts texts [] = texts
with_texts texts (first ∷ rest) = with_texts (with_text texts first) rest

-- the messages with those of another error added, each text unless its kind has it already
abbrev pub with_messages : Messages → Messages → Messages
with_messages m n = record {
  system_unexpected = with_texts m.system_unexpected n.system_unexpected;
  unexpected = with_texts m.unexpected n.unexpected;
  expected = with_texts m.expected n.expected;
  plain = with_texts m.plain n.plain;
}

-- as `with_messages`, but texts that are there already are added again
abbrev pub with_repeats : Messages → Messages → Messages
with_repeats m n = record {
  system_unexpected = m.system_unexpected ++ n.system_unexpected;
  unexpected = m.unexpected ++ n.unexpected;
  expected = m.expected ++ n.expected;
  plain = m.plain ++ n.plain;
}
