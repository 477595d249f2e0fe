-- Starts of sets that meet, by their numbers.
use Rattle.std.specs.Prelude.{◌≡◌, ◌<◌, ℕ, Bool, true, List, Some, slice_get}
use Rattle.pg_graph_bits.specs.Numbers.{contains}
use Rattle.pg_start.specs.Apart.{Apart}
use Rattle.pg_start.specs.declared.kind.StartKind.{StartKind}
use Rattle.pg_sets_own.specs.declared.listed.ListedStart.{ListedStart}

-- this start has this number, and is in the set
pub record IsIn (starts : List ListedStart) (set : List Bool) (k : ℕ) (x : ListedStart) : Type 0 where
  pub there : slice_get starts k ≡ Some x
  pub member : contains set k ≡ true

-- a given start isn't apart from the one with this number, which is in the set
pub record MeetsIn (starts : List ListedStart) (set : List Bool) (start : StartKind) (k : ℕ) : Type 0 where
  pub x : ListedStart
  pub is : IsIn starts set k x
  pub together : Apart start x.start → ⊥

-- that one is the first
pub record IsFirstMet (starts : List ListedStart) (set : List Bool) (start : StartKind) (k : ℕ) : Type 0 where
  pub meets : MeetsIn starts set start k
  pub before : (j : ℕ) → j < k → MeetsIn starts set start j → ⊥

-- the given start is apart from each in the set
abbrev pub MeetsNone : List ListedStart → List Bool → StartKind → Type 0
MeetsNone starts set start = (k : ℕ) → MeetsIn starts set start k → ⊥

-- a start of one set isn't apart from a start of another
pub record IsPair (starts : List ListedStart) (one other : List Bool) (s t : ℕ) : Type 0 where
  pub x : ListedStart
  pub y : ListedStart
  pub in_one : IsIn starts one s x
  pub in_other : IsIn starts other t y
  pub together : Apart x.start y.start → ⊥

-- there are such starts, and these are the first: in the one set, and then in the other
pub record HasFirstPair (starts : List ListedStart) (one other : List Bool) : Type 0 where
  pub s : ℕ
  pub t : ℕ
  pub pair : IsPair starts one other s t
  pub first_one : (r u : ℕ) → r < s → IsPair starts one other r u → ⊥
  pub first_other : (u : ℕ) → u < t → IsPair starts one other s u → ⊥

-- there are none
abbrev pub HasNoPair : List ListedStart → List Bool → List Bool → Type 0
HasNoPair starts one other = (s t : ℕ) → IsPair starts one other s t → ⊥
