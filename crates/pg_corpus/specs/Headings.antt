-- The first line of a case.
use Rattle.std.specs.Prelude.{◌≡◌, ◌+◌, ◌-◌, ◌<◌, ℕ, true, List, Option, Some, None, length, take, drop, slice_get}
use Rattle.std.specs.List.{slice_range}
use Rattle.std.specs.Str.{IsTrimAscii}
use Rattle.pg_corpus.specs.Lines.{without_feed, equals, begins_case}

-- what stands behind a mark, without the blanks around it, is a name, or a name with a rule in brackets behind it: 91 is `[`, 93 `]`
pub record HasRule (label name rule : List ℕ) : Type 0 where
  pub place : ℕ
  pub opens : slice_get label place ≡ Some 91
  pub closes : slice_get label (length label - 1) ≡ Some 93
  pub named : IsTrimAscii (take place label) name
  pub ruled : IsTrimAscii (slice_range label (place + 1) (length label - 1)) rule

abbrev pub Reads : (label name : List ℕ) → Option (List ℕ) → Type 0
Reads label name None = name ≡ label
Reads label name (Some rule) = HasRule label name rule × (0 < length rule)

-- a line begins a case: its mark, its name, and a rule
pub record IsHeading (line : List ℕ) (size : ℕ) (name : List ℕ) (start : Option (List ℕ)) : Type 0 where
  pub label : List ℕ
  pub marked : begins_case line ≡ true
  pub sized : size ≡ equals line
  pub labelled : IsTrimAscii (without_feed (drop size line)) label
  pub reads : Reads label name start
  pub has_name : 0 < length name
