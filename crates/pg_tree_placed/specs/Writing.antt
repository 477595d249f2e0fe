-- Text written forwards, through a block of bytes that wait to be written.
use Rattle.std.specs.Prelude.{◌≡◌, ℕ, Bool, true, false, nat_eq, List, [], ◌∷◌, ◌++◌, Option, Result, MatchResult, map, take, drop, codes, if◌then◌else◌}
use Rattle.std.specs.Io.KnownBytes.{Appends}
use Rattle.pg_tree.specs.Bytes.{AppendsPrefix}
use Rattle.pg_tree_placed.specs.Written.{closing, is_zero}
use Rattle.pg_tree_placed.specs.Forward.{forward}
use Rattle.pg_tree_placed.specs.declared.entry.Entry.{Entry}
use Rattle.pg_tree_placed.specs.declared.note.Note.{Note}
use Rattle.pg_tree_placed.specs.declared.note.Way.{Way}
use Rattle.pg_tree_placed.specs.declared.note.Way.TheVariants.{Shown, Lifted}
use Rattle.pg_tree_placed.specs.declared.source.Closing.{Closing}
use Rattle.pg_tree_placed.specs.declared.source.Source.{Source}

-- of a text that is to come behind the bytes that a block holds, this is left: of all these some were sent to a writer, the block holds some, and the others are left
pub record Puts (before : Option (List ℕ)) (held : List ℕ) (after : Option (List ℕ)) (holds left all : List ℕ) : Type 0 where
  pub sent : List ℕ
  pub written : Appends before after sent
  pub same : held ++ all ≡ sent ++ (holds ++ left)

-- a call put some of a text, of which this is left, or the writer stopped after a prefix of what it was to be sent
abbrev pub IsPutTo : {T E : Type 0} → Result T E → Option (List ℕ) → List ℕ → Option (List ℕ) → List ℕ → (T → List ℕ) → List ℕ → Type 0
IsPutTo r before held after holds left all = MatchResult r (λ x. Puts before held after holds (left x) all) (λ _. AppendsPrefix before after (held ++ all))

-- a call put these bytes, or the writer stopped
abbrev pub IsPut : {T E : Type 0} → Result T E → Option (List ℕ) → List ℕ → Option (List ℕ) → List ℕ → List ℕ → Type 0
IsPut r before held after holds bytes = IsPutTo r before held after holds (λ _. []) bytes

-- what a closing text's bytes are: the others behind them are none of it
abbrev pub closing_text : Closing → List ℕ
closing_text c = take c.len c.bytes.items

-- these are the closing texts of the labels
abbrev pub AreClosings : Source → Type 0
AreClosings s = map closing_text s.closings.now ≡ map closing s.labels.now

-- what is left to write from a step on, outside of a joined leaf
abbrev pub left_from : List ℕ → List (List ℕ) → List Entry → Bool → ℕ → List Note → List ℕ
left_from text labels es ended i ns = forward text labels ended 0 i (drop i es) ns

-- what is left to write from a step on, if so many steps belong to a joined leaf that has begun
abbrev pub joined_from : List ℕ → List (List ℕ) → List Entry → ℕ → ℕ → List Note → List ℕ
joined_from text labels es left i ns = (if is_zero left then codes "\"" else []) ++ forward text labels true left i (drop i es) ns

-- the first of these notes is on this step
abbrev pub is_next : List Note → ℕ → Bool
is_next [] i = false
is_next (n ∷ ns) i = nat_eq n.step i

abbrev pub way_if : Bool → Way
way_if false = Shown
way_if true = Lifted
