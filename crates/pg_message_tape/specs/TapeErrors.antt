-- The errors of answers as positions on one list of messages.
use Rattle.std.specs.Prelude.{ℕ, Bool, true, false, not, ◌&&◌, ◌==◌, nat_lt, if◌then◌else◌, List, ◌++◌, length, take, drop}
use Rattle.pg_language.specs.Errors.{Error}
use Rattle.pg_message_tape.specs.Messages.{TapeMessage, error_of}
use Rattle.pg_message_tape.specs.declared.message_tape.TapeError.{TapeError}
use Rattle.pg_message_tape.specs.declared.message_tape.KeptError.{KeptError}

abbrev pub tape_error : ℕ → ℕ → TapeError
tape_error place from = record { place = place; from = from }

-- an error as it is kept while the list has `upto` messages
abbrev pub kept_at : ℕ → TapeError → KeptError
kept_at upto error = record { place = error.place; from = error.from; upto = upto }

-- a kept error as that of the last answer again
abbrev pub as_last : KeptError → TapeError
as_last kept = record { place = kept.place; from = kept.from }

-- what is left of two errors: the second, the first, or both merged
pub data Left : Type 0 where
  second : Left
  first : Left
  both : Left

-- which is left, from whether each has no messages, and from their places
abbrev pub left_of : Bool → Bool → ℕ → ℕ → Left
left_of none_first none_second i j =
    if none_first && not none_second then second else if none_second && not none_first then first else
    if nat_lt i j then second else if nat_lt j i then first else both

abbrev pub left_tape_error : Left → KeptError → TapeError → TapeError
left_tape_error second kept error = error
left_tape_error first kept error = as_last kept
left_tape_error both kept error = as_last kept

abbrev pub left_messages : Left → KeptError → TapeError → List TapeMessage → List TapeMessage
left_messages second kept error x = x
left_messages first kept error x = take kept.upto x
left_messages both kept error x = take kept.upto (take error.from x) ++ drop error.from x

abbrev pub left_here : KeptError → TapeError → List TapeMessage → Left
left_here kept error x = left_of (kept.from == kept.upto) (error.from == length x) kept.place error.place

-- the error of an answer merged with one that is kept
abbrev pub merged_tape_error : KeptError → TapeError → List TapeMessage → TapeError
merged_tape_error kept error x = left_tape_error (left_here kept error x) kept error

abbrev pub merged_messages : KeptError → TapeError → List TapeMessage → List TapeMessage
merged_messages kept error x = left_messages (left_here kept error x) kept error x

-- as above, but once the answer has consumed something its own error stands alone
abbrev pub tape_error_after : Bool → KeptError → TapeError → List TapeMessage → TapeError
tape_error_after true kept error x = error
tape_error_after false kept error x = merged_tape_error kept error x

abbrev pub messages_after : Bool → KeptError → TapeError → List TapeMessage → List TapeMessage
messages_after true kept error x = x
messages_after false kept error x = merged_messages kept error x

-- ---- the errors that these stand for

-- a tape error stands for this error: the list is a first part, then some messages that don't matter, then the error's own
pub data Says : List TapeMessage → TapeError → Error → List TapeMessage → Type 0 where
  says : {x : List TapeMessage} {place : ℕ} (g m : List TapeMessage) → Says x (tape_error place (length (x ++ g))) (error_of place m) ((x ++ g) ++ m)

-- as `Says`, for a kept error
pub data Holds : List TapeMessage → KeptError → Error → List TapeMessage → Type 0 where
  holds : {x : List TapeMessage} {place : ℕ} (g m : List TapeMessage) → Holds x (kept_at (length ((x ++ g) ++ m)) (tape_error place (length (x ++ g))))
      (error_of place m) ((x ++ g) ++ m)
