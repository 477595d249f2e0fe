-- The bounds of a start: the lowest and the highest character that it can begin with, and how a key continues.
use Rattle.std.specs.Prelude.{◌≡◌, ◌≢◌, ◌<◌, ◌≤◌, ◌⊎◌, ℕ, true, false, List, Option, Some, None, length, slice_get}
use Rattle.std.specs.Char.{IsScalar}
use Rattle.pg_class.specs.Ranges.{has}
use Rattle.pg_start.specs.declared.kind.StartKind.{StartKind}
use Rattle.pg_start.specs.declared.kind.StartKind.TheVariants.{Class, Key, Word, End}
use Rattle.pg_sets_own.specs.declared.listed.ListedStart.{ListedStart}
use Rattle.pg_predict_conditions.specs.declared.bounds.Bounds.{Bounds}

-- a start can begin with a character
abbrev pub BeginsWith : StartKind → ℕ → Type 0
BeginsWith (Class class) c = has class c ≡ true
BeginsWith (Key key excluded) c = slice_get key 0 ≡ Some c
BeginsWith (Word heads rest reserved) c = has heads c ≡ true
BeginsWith End c = ⊥

-- the bounds are the lowest and the highest of some numbers
pub record AreEnds (Among : ℕ → Type 0) (bounds : Bounds) : Type 0 where
  pub lowest : Among bounds.lowest
  pub highest : Among bounds.highest
  pub between : (c : ℕ) → Among c → (bounds.lowest ≤ c) × (c ≤ bounds.highest)

-- the bounds of some numbers; none if there are no numbers
abbrev pub AreBoundsOf : (ℕ → Type 0) → Option Bounds → Type 0
AreBoundsOf Among None = (c : ℕ) → Among c → ⊥
AreBoundsOf Among (Some bounds) = AreEnds Among bounds

-- bounds are marked as those of a class only if any character of a class can begin the start; then both are characters
abbrev pub TellsClass : StartKind → Bounds → Type 0
TellsClass (Class class) bounds = IsScalar bounds.lowest × IsScalar bounds.highest
TellsClass (Key key excluded) bounds = bounds.of_class ≡ false
TellsClass (Word heads rest reserved) bounds = IsScalar bounds.lowest × IsScalar bounds.highest
TellsClass End bounds = bounds.of_class ≡ false

-- the second, the third and the fourth character of a key
pub record IsFurther (key : List ℕ) (bounds : Bounds) : Type 0 where
  pub second : bounds.second ≡ slice_get key 1
  pub third : bounds.third ≡ slice_get key 2
  pub fourth : bounds.fourth ≡ slice_get key 3

-- there are no further characters
pub record IsNotFurther (bounds : Bounds) : Type 0 where
  pub second : bounds.second ≡ None
  pub third : bounds.third ≡ None
  pub fourth : bounds.fourth ≡ None

-- bounds have the further characters of a key, and none for any other start
abbrev pub TellsFurther : StartKind → Bounds → Type 0
TellsFurther (Class class) bounds = IsNotFurther bounds
TellsFurther (Key key excluded) bounds = IsFurther key bounds
TellsFurther (Word heads rest reserved) bounds = IsNotFurther bounds
TellsFurther End bounds = IsNotFurther bounds

-- the bounds of a start
abbrev pub AreStartBounds : StartKind → Option Bounds → Type 0
AreStartBounds start None = AreBoundsOf (BeginsWith start) None
AreStartBounds start (Some bounds) = AreEnds (BeginsWith start) bounds × TellsClass start bounds × TellsFurther start bounds

-- each start of a list has its bounds
pub record AreBounds (starts : List ListedStart) (bounds : List (Option Bounds)) : Type 0 where
  pub long : length bounds ≡ length starts
  pub each : (k : ℕ) (listed : ListedStart) (own : Option Bounds) → slice_get starts k ≡ Some listed → slice_get bounds k ≡ Some own
      → AreStartBounds listed.start own

-- both are bounds of classes, and have the same lowest or the same highest character
abbrev pub ShareAnEnd : Option Bounds → Option Bounds → Type 0
ShareAnEnd None other = ⊥
ShareAnEnd (Some one) None = ⊥
ShareAnEnd (Some one) (Some other) = (one.of_class ≡ true) × (other.of_class ≡ true) × ((one.lowest ≡ other.lowest) ⊎ (one.highest ≡ other.highest))

-- both have bounds, and one ends before the other begins
abbrev pub DontOverlap : Option Bounds → Option Bounds → Type 0
DontOverlap None other = ⊥
DontOverlap (Some one) None = ⊥
DontOverlap (Some one) (Some other) = (one.highest < other.lowest) ⊎ (other.highest < one.lowest)

-- both characters exist and differ
abbrev pub Differ : Option ℕ → Option ℕ → Type 0
Differ None other = ⊥
Differ (Some one) None = ⊥
Differ (Some one) (Some other) = one ≢ other

-- two keys continue with different characters
abbrev pub GoOnApart : Option Bounds → Option Bounds → Type 0
GoOnApart None other = ⊥
GoOnApart (Some one) None = ⊥
GoOnApart (Some one) (Some other) = Differ one.second other.second ⊎ (Differ one.third other.third ⊎ Differ one.fourth other.fourth)

-- the bounds of two starts show that they are apart
abbrev pub TellApart : Option Bounds → Option Bounds → Type 0
TellApart one other = DontOverlap one other ⊎ GoOnApart one other
