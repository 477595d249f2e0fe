-- What breaks each condition at a node, by sets of numbers: the cases of `ViolatesBy`, a condition a definition.
use Rattle.std.specs.Prelude.{◌≡◌, ◌<◌, ◌⊎◌, ℕ, suc, true, List, Option, Some, None, slice_get, length}
use Rattle.pg_grammar_form.specs.Contents.{is_declaration}
use Rattle.pg_grammar_form.specs.Forms.{Node, parts_of}
use Rattle.pg_grammar_form.specs.declared.form.Form.TheVariants as form
use Rattle.pg_graph.specs.Marks.{is_marked}
use Rattle.pg_graph_bits.specs.Numbers.{set_at}
use Rattle.pg_grammar_value.specs.Grammar.{Grammar}
use Rattle.pg_predict.specs.Findings.{condition_number}
use Rattle.pg_predict_conditions.specs.Conditions.{AreFirstToMeet, IsFirstToMeetGap, BeginsNothing, NodeFacts, ViolatesBy}
use Rattle.pg_predict_conditions.specs.declared.violation.ViolationKind.{ViolationKind}
use Rattle.pg_sets.specs.Sets.{Sets, HasStart}
use Rattle.pg_sets_own.specs.OwnStarts.{IsOperatorStart}
use Rattle.pg_sets_own.specs.declared.listed.ListedStart.{ListedStart}
use Rattle.pg_start.specs.declared.kind.StartKind.{StartKind}

-- ---- by sets

abbrev pub IsNullableBy : Sets → ℕ → Type 0
IsNullableBy sets p = is_marked sets.nullable p ≡ true

abbrev pub BeginsBy : Sets → ℕ → StartKind → Type 0
BeginsBy sets p = HasStart sets.starts (set_at sets.firsts p)

abbrev pub FollowsBy : Sets → ℕ → StartKind → Type 0
FollowsBy sets p = HasStart sets.starts (set_at sets.follows p)

-- a round of a chain begins with its separator, or with its operand where the separator can be empty
abbrev pub BeginsLinkBy : Sets → ℕ → ℕ → StartKind → Type 0
BeginsLinkBy sets operand separator start = BeginsBy sets separator start ⊎ (IsNullableBy sets separator × BeginsBy sets operand start)

-- some starts are the first to meet
abbrev pub SomeMeet : Grammar → (StartKind → Type 0) → (StartKind → Type 0) → Type 0
SomeMeet g One Other = (s : ListedStart) × (t : ListedStart) × AreFirstToMeet g One Other s t

-- ---- a condition each

-- C2: a round can be empty
abbrev pub HasEmptyRound : Sets → Node → Type 0
HasEmptyRound sets (form.Many part) = IsNullableBy sets part
HasEmptyRound sets (form.Chain side used operand separator) = IsNullableBy sets separator × IsNullableBy sets operand
HasEmptyRound sets _ = ⊥

-- C3: one of these alternatives can be empty and isn't the last
pub record IsEmptyEarly (sets : Sets) (parts : List ℕ) : Type 0 where
  pub place : ℕ
  pub part : ℕ
  pub there : slice_get parts place ≡ Some part
  pub early : suc place < length parts
  pub nullable : IsNullableBy sets part

abbrev pub HasEmptyAlternative : Sets → Node → Type 0
HasEmptyAlternative sets (form.Choice parts) = IsEmptyEarly sets parts
HasEmptyAlternative sets _ = ⊥

-- C4: two of these alternatives have starts that meet
pub record TwoMeet (g : Grammar) (sets : Sets) (parts : List ℕ) : Type 0 where
  pub place : ℕ
  pub later : ℕ
  pub part : ℕ
  pub other : ℕ
  pub before : place < later
  pub there : slice_get parts place ≡ Some part
  pub other_there : slice_get parts later ≡ Some other
  pub meet : SomeMeet g (BeginsBy sets part) (BeginsBy sets other)

abbrev pub AlternativesMeet : Grammar → Sets → Node → Type 0
AlternativesMeet g sets (form.Choice parts) = TwoMeet g sets parts
AlternativesMeet g sets _ = ⊥

-- C5: the last of these alternatives can be empty
pub record EndsEmpty (sets : Sets) (parts : List ℕ) : Type 0 where
  pub before : ℕ
  pub last : ℕ
  pub is_last : suc before ≡ length parts
  pub there : slice_get parts before ≡ Some last
  pub nullable : IsNullableBy sets last

-- another meets what follows
pub record OneMeetsFollow (g : Grammar) (sets : Sets) (p : ℕ) (parts : List ℕ) : Type 0 where
  pub place : ℕ
  pub part : ℕ
  pub there : slice_get parts place ≡ Some part
  pub early : suc place < length parts
  pub meet : SomeMeet g (BeginsBy sets part) (FollowsBy sets p)

abbrev pub AlternativeMeetsFollow : Grammar → Sets → ℕ → Node → Type 0
AlternativeMeetsFollow g sets p (form.Choice parts) = EndsEmpty sets parts × OneMeetsFollow g sets p parts
AlternativeMeetsFollow g sets p _ = ⊥

-- C6: a round meets what follows
abbrev pub RoundMeetsFollow : Grammar → Sets → ℕ → Node → Type 0
RoundMeetsFollow g sets p (form.Many part) = SomeMeet g (BeginsBy sets part) (FollowsBy sets p)
RoundMeetsFollow g sets p (form.Chain side used operand separator) = SomeMeet g (BeginsLinkBy sets operand separator) (FollowsBy sets p)
RoundMeetsFollow g sets p _ = ⊥

-- C7: the term of an expression can be empty, or meets operators
abbrev pub OperandBreaks : Grammar → Sets → Node → Type 0
OperandBreaks g sets (form.Expression builders term) = IsNullableBy sets term ⊎ SomeMeet g (BeginsBy sets term) (IsOperatorStart g)
OperandBreaks g sets _ = ⊥

-- C8: what follows an expression meets operators
abbrev pub OperatorMeetsFollow : Grammar → Sets → ℕ → Node → Type 0
OperatorMeetsFollow g sets p (form.Expression builders term) = SomeMeet g (FollowsBy sets p) (IsOperatorStart g)
OperatorMeetsFollow g sets p _ = ⊥

-- C9: gaps meet operators, a term, or what follows
abbrev pub GapMeetsSome : Grammar → (StartKind → Type 0) → (StartKind → Type 0) → Type 0
GapMeetsSome g Term After = (s : ListedStart) × IsFirstToMeetGap g Term After s

abbrev pub GapBreaks : Grammar → Sets → ℕ → Node → Type 0
GapBreaks g sets p (form.Expression builders term) = GapMeetsSome g (BeginsBy sets term) (FollowsBy sets p)
GapBreaks g sets p (form.Leaf leaf) = (is_declaration leaf ≡ true) × GapMeetsSome g BeginsNothing (FollowsBy sets p)
GapBreaks g sets p _ = ⊥

-- ---- the first condition at a node

-- the first sets of its parts have numbers below the number of starts
abbrev pub HasParts : Sets → Node → Type 0
HasParts sets n = (k q : ℕ) → slice_get (parts_of n) k ≡ Some q → length (set_at sets.firsts q) ≡ length sets.starts

-- the condition with this number is broken at the node, and none with a smaller number is
pub record IsFirstOf (g : Grammar) (facts : NodeFacts) (p condition : ℕ) : Type 0 where
  pub kind : ViolationKind ListedStart
  pub violates : ViolatesBy g facts p kind
  pub number : condition ≡ condition_number kind
  pub none_smaller : (other : ViolationKind ListedStart) → condition_number other < condition → ViolatesBy g facts p other → ⊥

-- this is the first condition that is broken at the node, or none is
abbrev pub IsFirstAt : Grammar → NodeFacts → ℕ → Option ℕ → Type 0
IsFirstAt g facts p None = (kind : ViolationKind ListedStart) → ViolatesBy g facts p kind → ⊥
IsFirstAt g facts p (Some condition) = IsFirstOf g facts p condition
