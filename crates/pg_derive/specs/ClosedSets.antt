-- Sets that are claimed for the nodes of a grammar.
use Rattle.std.specs.Prelude.{◌≡◌, ◌<◌, ◌⊎◌, ℕ, List, [], ◌∷◌, Bool, true}
use Rattle.std.specs.List.{Contains}
use Rattle.std.specs.Str.{all_scalars}
use Rattle.pg_start.specs.Apart.{Apart}
use Rattle.pg_start.specs.Starts.{MatchesAt}
use Rattle.pg_start.specs.declared.kind.StartKind.{StartKind}

-- for each node: whether it can succeed on nothing, what can begin it, what can follow it, and a level that is lower for
-- each part that it reaches before anything is consumed
pub record NodeSets : Type 0 where
  pub nullable : ℕ → Bool
  pub first : ℕ → List StartKind
  pub follow : ℕ → List StartKind
  pub level : ℕ → ℕ

-- a start of the list matches at the place
pub record SomeMatches (text : List ℕ) (starts : List StartKind) (place : ℕ) : Type 0 where
  pub start : StartKind
  pub among : Contains starts start
  pub there : MatchesAt start text place

-- wherever this stands in a text of characters, some start of the list matches
abbrev pub Meets : List StartKind → (List ℕ → ℕ → Type 0) → Type 0
Meets starts Is = (text : List ℕ) → all_scalars text ≡ true → (place : ℕ) → Is text place → SomeMatches text starts place

-- where this stands in a text of characters, no start of the list matches
abbrev pub NeverMeets : List StartKind → (List ℕ → ℕ → Type 0) → Type 0
NeverMeets starts Is = (text : List ℕ) → all_scalars text ≡ true → (place : ℕ) → SomeMatches text starts place → Is text place → ⊥

-- the list covers the start: wherever the start matches, some start of the list does, in whatever spelling
abbrev pub Covers : List StartKind → StartKind → Type 0
Covers starts s = Meets starts (MatchesAt s)

-- each start of the first list is covered by the second
abbrev pub Within : List StartKind → List StartKind → Type 0
Within starts others = (s : StartKind) → Contains starts s → Covers others s

-- each start of the first list is apart from each start of the second, as claimed
abbrev pub AllApart : List StartKind → List StartKind → Type 0
AllApart starts others = (s t : StartKind) → Contains starts s → Contains others t → Apart s t

-- ---- parts of a sequence

-- all of these parts are claimed to be nullable
abbrev pub AllNullable : NodeSets → List ℕ → Type 0
AllNullable sets [] = Unit {0}
AllNullable sets (q ∷ qs) = (sets.nullable q ≡ true) × AllNullable sets qs

-- the start is claimed as a first one of a part with only nullable parts before it
abbrev pub BeginsParts : NodeSets → List ℕ → StartKind → Type 0
BeginsParts sets [] s = ⊥
BeginsParts sets (q ∷ qs) s = Contains (sets.first q) s ⊎ ((sets.nullable q ≡ true) × BeginsParts sets qs s)

-- what follows each part covers what begins the later parts, and what follows the sequence if these are nullable
abbrev pub PartsFollowed : NodeSets → List StartKind → List ℕ → Type 0
PartsFollowed sets follow [] = Unit {0}
PartsFollowed sets follow (q ∷ qs) =
    ((s : StartKind) → BeginsParts sets qs s → Covers (sets.follow q) s)
    × (AllNullable sets qs → Within follow (sets.follow q))
    × PartsFollowed sets follow qs

-- each part that is reached has a lower level
abbrev pub PartsFall : NodeSets → ℕ → List ℕ → Type 0
PartsFall sets level [] = Unit {0}
PartsFall sets level (q ∷ qs) = (sets.level q < level) × ((sets.nullable q ≡ true) → PartsFall sets level qs)
