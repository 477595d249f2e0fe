-- What breaks a condition, condition by condition, is a violation, and each violation is one of these.
use Rattle.std.proofs.Common.{◌≡◌, ◌<◌, ◌≤◌, ◌+◌, ℕ, suc, List, Some, None, slice_get, length, refl, sym, subst, ◌∙◌, inl, inr, arith}
use Rattle.std.proofs.lemmas.Bool.{cases_eq}
use Rattle.std.proofs.lemmas.Option.{same_Some, slice_get_within}
use Rattle.pg_grammar_form.specs.Forms.{Node}
use Rattle.pg_grammar_form.specs.declared.form.Form.TheVariants as form
use Rattle.pg_grammar_form.specs.declared.form.Leaf.TheVariants as leaf
use Rattle.pg_grammar_form.proofs.Each.{all-get}
use Rattle.pg_grammar_value.specs.Follows.{BodiesAreNodes}
use Rattle.pg_grammar_value.specs.Grammar.{Grammar, IsGrammar}
use Rattle.pg_predict.specs.Broken.{IsTheFirst}
use Rattle.pg_predict.specs.Findings.{condition_number}
use Rattle.pg_predict.specs.declared.violation.Broken.{Broken}
use Rattle.pg_predict_conditions.proofs.Parts.{parts_below}
use Rattle.pg_predict_conditions.specs.Conditions.{NodeFacts, ViolatesBy, EndsNullable, IsFaultlessBy, claimed_facts}
use Rattle.pg_predict_conditions.specs.Conditions as by
use Rattle.pg_predict_conditions.specs.Shown.{AreWellFormed, IsOver}
use Rattle.pg_predict_conditions.specs.declared.violation.ViolationKind.{ViolationKind}
use Rattle.pg_predict_conditions.specs.declared.violation.ViolationKind.TheVariants as kind
use Rattle.pg_sets.specs.Follow as follow
use Rattle.pg_sets.specs.Sets.{Sets}
use Rattle.pg_sets_own.specs.declared.listed.ListedStart.{ListedStart}
use Rattle.pg_certificate_verify.specs.Breaking.{HasEmptyRound, HasEmptyAlternative, AlternativesMeet, EndsEmpty, AlternativeMeetsFollow, RoundMeetsFollow, OperandBreaks, OperatorMeetsFollow, GapBreaks, HasParts, IsFirstAt}

-- the condition with this number is broken at the node
pub record IsBrokenAs (g : Grammar) (facts : NodeFacts) (p condition : ℕ) : Type 0 where
  pub kind : ViolationKind ListedStart
  pub violates : ViolatesBy g facts p kind
  pub number : condition ≡ condition_number kind

-- none of the conditions with smaller numbers is broken
pub record NoneBelow (g : Grammar) (sets : Sets) (cost p : ℕ) (n : Node) (condition : ℕ) : Type 0 where
  pub round : 2 < condition → HasEmptyRound sets n → ⊥
  pub alternative : 3 < condition → HasEmptyAlternative sets n → ⊥
  pub meet : 4 < condition → AlternativesMeet g sets n → ⊥
  pub choice : 5 < condition → AlternativeMeetsFollow g sets p n → ⊥
  pub repetition : 6 < condition → RoundMeetsFollow g sets p n → ⊥
  pub operand : 7 < condition → OperandBreaks g sets n → ⊥
  pub operator : 8 < condition → OperatorMeetsFollow g sets p n → ⊥
  pub gap : 9 < condition → GapBreaks g sets p n → ⊥
  pub over : 11 < condition → IsOver g (Some cost) p → ⊥

module _ (g : Grammar) (sets : Sets) (cost p : ℕ) (n : Node) (at : slice_get g.nodes p ≡ Some n) where
  abbrev facts : NodeFacts
  facts = claimed_facts sets cost

  here : {m : Node} → slice_get g.nodes p ≡ Some m → m ≡ n
  here {m} there = same_Some m n (sym there ∙ at)

  -- ---- each violation is one of these

  none_below : (condition : ℕ) → NoneBelow g sets cost p n condition → (what : ViolationKind ListedStart) → condition_number what < condition → ViolatesBy g facts p what → ⊥
  none_below c none what below (by.left_recursion there heads) = heads
  none_below c none what below (by.empty_round there null) = none.round below (subst (λ m. HasEmptyRound sets m) (here there) null)
  none_below c none what below (by.empty_link there follow.chain null empty) = none.round below (subst (λ m. HasEmptyRound sets m) (here there) (null, empty))
  none_below c none what below (by.empty_alternative there part before null) =
      none.alternative below (subst (λ m. HasEmptyAlternative sets m) (here there) (record { place = _; part = _; there = part; early = before; nullable = null }))
  none_below c none what below (by.alternatives_meet {s = s} {t} there before one other meets) =
      none.meet below
      (subst (λ m. AlternativesMeet g sets m) (here there)
      (record { place = _; later = _; part = _; other = _; before = before; there = one; other_there = other; meet = (s, t, meets) }))
  none_below c none what below (by.alternative_meets_follow {s = s} {t} there part before ends meets) =
      none.choice below
      (subst (λ m. AlternativeMeetsFollow g sets p m) (here there) (
        record { before = ends.before; last = ends.last; is_last = ends.is_last; there = ends.there; nullable = ends.nullable },
        record { place = _; part = _; there = part; early = before; meet = (s, t, meets) },
      ))
  none_below c none what below (by.round_meets_follow {s = s} {t} there meets) = none.repetition below (subst (λ m. RoundMeetsFollow g sets p m) (here there) (s, t, meets))
  none_below c none what below (by.link_meets_follow {s = s} {t} there follow.chain meets) =
      none.repetition below (subst (λ m. RoundMeetsFollow g sets p m) (here there) (s, t, meets))
  none_below c none what below (by.empty_operand there null) = none.operand below (subst (λ m. OperandBreaks g sets m) (here there) (inl null))
  none_below c none what below (by.operand_meets_operators {s = s} {t} there meets) =
      none.operand below (subst (λ m. OperandBreaks g sets m) (here there) (inr (s, t, meets)))
  none_below c none what below (by.follow_meets_operators {s = s} {t} there meets) =
      none.operator below (subst (λ m. OperatorMeetsFollow g sets p m) (here there) (s, t, meets))
  none_below c none what below (by.expression_gap_meets {s = s} there meets) = none.gap below (subst (λ m. GapBreaks g sets p m) (here there) (s, meets))
  none_below c none what below (by.gap_meets {s = s} there meets) = none.gap below (subst (λ m. GapBreaks g sets p m) (here there) (refl, (s, meets)))
  none_below c none what below (by.step_cost_over {rule} {k} there is over) =
      none.over below (record { rule = rule; there = there; body = refl; cost = cost; is = refl; over = subst (λ m. by.cost_limit < m) is over })

  pub first_of : (condition : ℕ) → NoneBelow g sets cost p n condition → IsBrokenAs g facts p condition → IsFirstAt g facts p (Some condition)
  first_of c none broken = record { kind = broken.kind; violates = broken.violates; number = broken.number; none_smaller = none_below c none }

  number_below : (what : ViolationKind ListedStart) → condition_number what < 12
  number_below kind.LeftRecursion = omega arith
  number_below kind.EmptyRound = omega arith
  number_below (kind.EmptyAlternative k) = omega arith
  number_below (kind.AlternativesMeet j k s t) = omega arith
  number_below (kind.AlternativeMeetsFollow k s t) = omega arith
  number_below (kind.RoundMeetsFollow s t) = omega arith
  number_below kind.EmptyOperand = omega arith
  number_below (kind.OperandMeetsOperators s) = omega arith
  number_below (kind.FollowMeetsOperators s) = omega arith
  number_below (kind.GapMeets s) = omega arith
  number_below kind.StepCostOver = omega arith

  pub none_of : NoneBelow g sets cost p n 12 → IsFirstAt g facts p None
  none_of none what violates = none_below 12 none what (number_below what) violates

  -- ---- and each of these is a violation

  pub over_is : IsOver g (Some cost) p → IsBrokenAs g facts p 11
  over_is over =
      record {
        kind = kind.StepCostOver;
        violates = subst (λ q. ViolatesBy g facts q kind.StepCostOver) over.body (by.step_cost_over over.there (same_Some over.cost cost (sym over.is)) over.over);
        number = refl;
      }

pub round_is : (g : Grammar) (sets : Sets) (cost p : ℕ) (n : Node) → slice_get g.nodes p ≡ Some n → HasEmptyRound sets n → IsBrokenAs g (claimed_facts sets cost) p 2
round_is g sets cost p (form.Many part) at null = record { kind = kind.EmptyRound; violates = by.empty_round at null; number = refl }
round_is g sets cost p (form.Chain side used operand separator) at empty =
    record { kind = kind.EmptyRound; violates = by.empty_link at follow.chain empty.0 empty.1; number = refl }
round_is g sets cost p n at none = absurd none

pub alternative_is : (g : Grammar) (sets : Sets) (cost p : ℕ) (n : Node) → slice_get g.nodes p ≡ Some n → HasEmptyAlternative sets n → IsBrokenAs g (claimed_facts sets cost) p 3
alternative_is g sets cost p (form.Choice parts) at early =
    record { kind = kind.EmptyAlternative (suc early.place); violates = by.empty_alternative at early.there early.early early.nullable; number = refl }
alternative_is g sets cost p n at none = absurd none

pub meet_is : (g : Grammar) (sets : Sets) (cost p : ℕ) (n : Node) → slice_get g.nodes p ≡ Some n → AlternativesMeet g sets n → IsBrokenAs g (claimed_facts sets cost) p 4
meet_is g sets cost p (form.Choice parts) at two =
    record {
      kind = kind.AlternativesMeet (suc two.place) (suc two.later) two.meet.0 two.meet.1;
      violates = by.alternatives_meet at two.before two.there two.other_there two.meet.2;
      number = refl;
    }
meet_is g sets cost p n at none = absurd none

ends : (sets : Sets) (cost : ℕ) (parts : List ℕ) → EndsEmpty sets parts → EndsNullable (claimed_facts sets cost) parts
ends sets cost parts empty = record { before = empty.before; last = empty.last; is_last = empty.is_last; there = empty.there; nullable = empty.nullable }

pub choice_is : (g : Grammar) (sets : Sets) (cost p : ℕ) (n : Node) → slice_get g.nodes p ≡ Some n → AlternativeMeetsFollow g sets p n → IsBrokenAs g (claimed_facts sets cost) p 5
choice_is g sets cost p (form.Choice parts) at both =
    let one = both.1 in
    record {
      kind = kind.AlternativeMeetsFollow (suc one.place) one.meet.0 one.meet.1;
      violates = by.alternative_meets_follow at one.there one.early (ends sets cost parts both.0) one.meet.2;
      number = refl;
    }
choice_is g sets cost p n at none = absurd none

pub repetition_is : (g : Grammar) (sets : Sets) (cost p : ℕ) (n : Node) → slice_get g.nodes p ≡ Some n → RoundMeetsFollow g sets p n → IsBrokenAs g (claimed_facts sets cost) p 6
repetition_is g sets cost p (form.Many part) at meet =
    record { kind = kind.RoundMeetsFollow meet.0 meet.1; violates = by.round_meets_follow at meet.2; number = refl }
repetition_is g sets cost p (form.Chain side used operand separator) at meet =
    record { kind = kind.RoundMeetsFollow meet.0 meet.1; violates = by.link_meets_follow at follow.chain meet.2; number = refl }
repetition_is g sets cost p n at none = absurd none

pub operand_is : (g : Grammar) (sets : Sets) (cost p : ℕ) (n : Node) → slice_get g.nodes p ≡ Some n → OperandBreaks g sets n → IsBrokenAs g (claimed_facts sets cost) p 7
operand_is g sets cost p (form.Expression builders term) at (inl null) = record { kind = kind.EmptyOperand; violates = by.empty_operand at null; number = refl }
operand_is g sets cost p (form.Expression builders term) at (inr meet) =
    record { kind = kind.OperandMeetsOperators meet.0; violates = by.operand_meets_operators at meet.2; number = refl }
operand_is g sets cost p n at none = absurd none

pub operator_is : (g : Grammar) (sets : Sets) (cost p : ℕ) (n : Node) → slice_get g.nodes p ≡ Some n → OperatorMeetsFollow g sets p n → IsBrokenAs g (claimed_facts sets cost) p 8
operator_is g sets cost p (form.Expression builders term) at meet =
    record { kind = kind.FollowMeetsOperators meet.0; violates = by.follow_meets_operators at meet.2; number = refl }
operator_is g sets cost p n at none = absurd none

pub gap_is : (g : Grammar) (sets : Sets) (cost p : ℕ) (n : Node) → slice_get g.nodes p ≡ Some n → GapBreaks g sets p n → IsBrokenAs g (claimed_facts sets cost) p 9
gap_is g sets cost p (form.Expression builders term) at meet = record { kind = kind.GapMeets meet.0; violates = by.expression_gap_meets at meet.1; number = refl }
gap_is g sets cost p (form.Leaf (leaf.Declare class)) at breaks = record { kind = kind.GapMeets breaks.1.0; violates = by.gap_meets at breaks.1.1; number = refl }
gap_is g sets cost p (form.Leaf l) at breaks = absurd cc
gap_is g sets cost p n at none = absurd none

-- ---- all nodes

pub parts_fit : (g : Grammar) (sets : Sets) (p : ℕ) (n : Node) → IsGrammar g → AreWellFormed g sets → slice_get g.nodes p ≡ Some n → HasParts sets n
parts_fit g sets p n grammar formed at k q there = formed.first_limit q (parts_below g p n k q grammar at there)

-- nothing is wrong at the first nodes
abbrev pub NothingBefore : Grammar → NodeFacts → ℕ → Type 0
NothingBefore g facts i = (p : ℕ) (what : ViolationKind ListedStart) → p < i → ViolatesBy g facts p what → ⊥

pub nothing_next : (g : Grammar) (asked : NodeFacts) (i : ℕ) → NothingBefore g asked i → IsFirstAt g asked i None → NothingBefore g asked (i + 1)
nothing_next g asked i before none p what below violates =
    elim (cases_eq p i) [
      | inl same ↦ none what (subst (λ q. ViolatesBy g asked q what) same violates)
      | inr other ↦ before p what (omega (arith, below, other)) violates
    ]

pub the_first : (g : Grammar) (asked : NodeFacts) (broken : Broken) → broken.node < length g.nodes → NothingBefore g asked broken.node
    → IsFirstAt g asked broken.node (Some broken.condition) → IsTheFirst g asked broken
the_first g asked broken inside before first = record {
  kind = first.kind;
  violates = first.violates;
  number = first.number;
  node = inside;
  none_before = λ p other below. before p other below;
  none_smaller = first.none_smaller;
}

-- whatever is wrong is wrong at a node
violation_inside : (g : Grammar) (sets : Sets) (cost : ℕ) → BodiesAreNodes (length g.nodes) g.rules → {p : ℕ} {what : ViolationKind ListedStart} → ViolatesBy g (claimed_facts sets cost) p what
    → p < length g.nodes
violation_inside g sets cost bodies (by.left_recursion at heads) = absurd heads
violation_inside g sets cost bodies {p} (by.empty_round at null) = slice_get_within g.nodes p _ at
violation_inside g sets cost bodies {p} (by.empty_link at is null empty) = slice_get_within g.nodes p _ at
violation_inside g sets cost bodies {p} (by.empty_alternative at part before null) = slice_get_within g.nodes p _ at
violation_inside g sets cost bodies {p} (by.alternatives_meet at before one other meets) = slice_get_within g.nodes p _ at
violation_inside g sets cost bodies {p} (by.alternative_meets_follow at part before ends meets) = slice_get_within g.nodes p _ at
violation_inside g sets cost bodies {p} (by.round_meets_follow at meets) = slice_get_within g.nodes p _ at
violation_inside g sets cost bodies {p} (by.link_meets_follow at is meets) = slice_get_within g.nodes p _ at
violation_inside g sets cost bodies {p} (by.empty_operand at null) = slice_get_within g.nodes p _ at
violation_inside g sets cost bodies {p} (by.operand_meets_operators at meets) = slice_get_within g.nodes p _ at
violation_inside g sets cost bodies {p} (by.follow_meets_operators at meets) = slice_get_within g.nodes p _ at
violation_inside g sets cost bodies {p} (by.expression_gap_meets at meets) = slice_get_within g.nodes p _ at
violation_inside g sets cost bodies {p} (by.gap_meets at meets) = slice_get_within g.nodes p _ at
violation_inside g sets cost bodies (by.step_cost_over {rule} at is over) = all-get (λ one. one.body < length g.nodes) g.rules g.start rule bodies at

pub nothing_wrong : (g : Grammar) (sets : Sets) (cost i : ℕ) → BodiesAreNodes (length g.nodes) g.rules → length g.nodes ≤ i → NothingBefore g (claimed_facts sets cost) i
    → IsFaultlessBy g (claimed_facts sets cost)
nothing_wrong g sets cost i bodies all before p what violates =
    let inside = violation_inside g sets cost bodies violates in
    before p what (omega (arith, inside, all)) violates
