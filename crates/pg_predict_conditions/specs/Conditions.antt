-- What can be wrong at a node of a grammar: the next characters of a text leave open which way a parser must go.
use Rattle.std.specs.Prelude.{◌≡◌, ◌<◌, ◌↔◌, ◌⊎◌, ℕ, suc, Bool, true, List, Some, slice_get, length}
use Rattle.std.specs.declared.cmp.Ordering.TheVariants.{Less}
use Rattle.pg_grammar_value.specs.Grammar.{Grammar}
use Rattle.pg_grammar_form.specs.Forms.{Node}
use Rattle.pg_grammar_form.specs.declared.form.Form.TheVariants as form
use Rattle.pg_grammar_form.specs.declared.form.Leaf.TheVariants as leaf
use Rattle.pg_grammar_value.specs.declared.grammar.Rule as declared
use Rattle.pg_start.specs.Apart.{Apart}
use Rattle.pg_start.specs.declared.kind.StartKind.{StartKind}
use Rattle.pg_graph_bits.specs.Numbers.{set_at}
use Rattle.pg_sets.specs.First.{IsFirst}
use Rattle.pg_sets.specs.Follow.{IsFollow, IsChain}
use Rattle.pg_sets.specs.Sets.{Sets, HasStart}
use Rattle.pg_grammar_form.specs.declared.class.ClassPart.{ClassPart}
use Rattle.pg_grammar_form.specs.declared.used.OperatorBuilders.{OperatorBuilders}
use Rattle.pg_sets_own.specs.OperatorStarts.{IsGapStart}
use Rattle.pg_sets_own.specs.OwnStarts.{IsOperatorStart}
use Rattle.pg_sets_own.specs.Listed.{IsListed, start_order}
use Rattle.pg_graph.specs.Marks.{is_marked}
use Rattle.pg_sets_nullable.specs.Nullable.{Nullable}
use Rattle.pg_sets_nullable.specs.Ranks.{Chain}
use Rattle.pg_sets_own.specs.declared.listed.ListedStart.{ListedStart}
use Rattle.pg_predict_costs.specs.StepCost.{IsStepCost}
use Rattle.pg_predict_conditions.specs.declared.violation.ViolationKind.{ViolationKind}
use Rattle.pg_predict_conditions.specs.declared.violation.ViolationKind.TheVariants.{LeftRecursion, EmptyRound, EmptyAlternative, AlternativesMeet, AlternativeMeetsFollow, RoundMeetsFollow, EmptyOperand, OperandMeetsOperators, FollowMeetsOperators, GapMeets, StepCostOver}

-- ---- meetings

-- a start of one kind and a start of the other aren't apart
pub record Meet (g : Grammar) (One Other : StartKind → Type 0) (s t : ListedStart) : Type 0 where
  pub one_listed : IsListed g s
  pub other_listed : IsListed g t
  pub one : One s.start
  pub other : Other t.start
  pub together : Apart s.start t.start → ⊥

-- they are the first two that meet: by the order of starts for the one, and then for the other
pub record AreFirstToMeet (g : Grammar) (One Other : StartKind → Type 0) (s t : ListedStart) : Type 0 where
  pub meet : Meet g One Other s t
  pub first_one : (x y : ListedStart) → Meet g One Other x y → start_order x s ≡ Less → ⊥
  pub first_other : (y : ListedStart) → Meet g One Other s y → start_order y t ≡ Less → ⊥

-- every start of one kind is apart from every start of the other
abbrev pub NoneMeet : Grammar → (StartKind → Type 0) → (StartKind → Type 0) → Type 0
NoneMeet g One Other = (s t : ListedStart) → Meet g One Other s t → ⊥

-- the first start that isn't apart from gaps: the operator start; else the first that begins a term; else the
-- first that may come after
pub data IsFirstToMeetGap (g : Grammar) (Term After : StartKind → Type 0) (s : ListedStart) : Type 0 where
  operator : {t : ListedStart} → AreFirstToMeet g (IsOperatorStart g) (IsGapStart g) s t → IsFirstToMeetGap g Term After s
  term : {t : ListedStart} → NoneMeet g (IsOperatorStart g) (IsGapStart g) → AreFirstToMeet g Term (IsGapStart g) s t → IsFirstToMeetGap g Term After s
  after : {t : ListedStart} → NoneMeet g (IsOperatorStart g) (IsGapStart g) → NoneMeet g Term (IsGapStart g) → AreFirstToMeet g After (IsGapStart g) s t
      → IsFirstToMeetGap g Term After s

-- a declaration has no term
abbrev pub BeginsNothing : StartKind → Type 0
BeginsNothing start = ⊥

-- ---- facts about nodes

-- the number is the step cost of the grammar, by its nullable nodes; there is none if a rule heads itself
pub record HasStepCost (g : Grammar) (k : ℕ) : Type 0 where
  pub marks : List Bool
  pub nullable : (p : ℕ) → (is_marked marks p ≡ true) ↔ Nullable g p
  pub cost : IsStepCost g marks k

-- the greatest step cost of an accepted grammar
abbrev pub cost_limit : ℕ
cost_limit = 4294967296

-- the facts on which conditions depend: which nodes are nullable, which starts begin a node and which follow it, which rules head
-- themselves, and which number is the step cost
pub record NodeFacts : Type 1 where
  pub nullable : ℕ → Type 0
  pub first : ℕ → StartKind → Type 0
  pub follow : ℕ → StartKind → Type 0
  pub heads_itself : ℕ → Type 0
  pub cost : ℕ → Type 0

-- the starts of a node, and those that follow it, from a grammar's least sets
abbrev pub Begins : Grammar → ℕ → StartKind → Type 0
Begins g p start = IsFirst g start p

abbrev pub Follows : Grammar → ℕ → StartKind → Type 0
Follows g p start = IsFollow g start p

-- the facts of a grammar's own nodes and rules
abbrev pub least_facts : Grammar → NodeFacts
least_facts g = record { nullable = Nullable g; first = Begins g; follow = Follows g; heads_itself = λ r. Chain g r r; cost = HasStepCost g }

-- the facts that sets and a number claim; ranks show that no rule heads itself, so that isn't a question here
abbrev pub claimed_facts : Sets → ℕ → NodeFacts
claimed_facts sets cost = record {
  nullable = λ p. is_marked sets.nullable p ≡ true;
  first = λ p. HasStart sets.starts (set_at sets.firsts p);
  follow = λ p. HasStart sets.starts (set_at sets.follows p);
  heads_itself = λ r. ⊥;
  cost = λ k. k ≡ cost;
}

-- a round of a chain begins with its separator, or with its operand where the separator can be empty
abbrev pub BeginsLink : NodeFacts → ℕ → ℕ → StartKind → Type 0
BeginsLink facts operand separator start = facts.first separator start ⊎ (facts.nullable separator × facts.first operand start)

-- the last of these alternatives is nullable
pub record EndsNullable (facts : NodeFacts) (parts : List ℕ) : Type 0 where
  pub before : ℕ
  pub last : ℕ
  pub is_last : suc before ≡ length parts
  pub there : slice_get parts before ≡ Some last
  pub nullable : facts.nullable last

-- ---- violations

-- this is wrong at the node, by these facts: one constructor for each condition
pub data ViolatesBy (g : Grammar) (facts : NodeFacts) : ℕ → ViolationKind ListedStart → Type 0 where
  -- the rule with this body heads itself, in one step or more
  left_recursion : {r : ℕ} {rule : declared.Rule} → slice_get g.rules r ≡ Some rule → facts.heads_itself r → ViolatesBy g facts rule.body LeftRecursion
  -- a round of a repetition can be empty
  empty_round : {p q : ℕ} → slice_get g.nodes p ≡ Some (form.Many q) → facts.nullable q → ViolatesBy g facts p EmptyRound
  empty_link : {p operand separator : ℕ} {n : Node} → slice_get g.nodes p ≡ Some n → IsChain operand separator n → facts.nullable separator → facts.nullable operand
      → ViolatesBy g facts p EmptyRound
  -- an alternative can be empty and isn't the last
  empty_alternative : {p k q : ℕ} {parts : List ℕ} → slice_get g.nodes p ≡ Some (form.Choice parts) → slice_get parts k ≡ Some q → suc k < length parts → facts.nullable q
      → ViolatesBy g facts p (EmptyAlternative (suc k))
  -- two alternatives have starts that aren't apart
  alternatives_meet : {p j k q r : ℕ} {parts : List ℕ} {s t : ListedStart} → slice_get g.nodes p ≡ Some (form.Choice parts) → j < k → slice_get parts j ≡ Some q
      → slice_get parts k ≡ Some r → AreFirstToMeet g (facts.first q) (facts.first r) s t → ViolatesBy g facts p (AlternativesMeet (suc j) (suc k) s t)
  -- the last alternative can be empty, and another has a start that isn't apart from one that follows the choice
  alternative_meets_follow : {p k q : ℕ} {parts : List ℕ} {s t : ListedStart} → slice_get g.nodes p ≡ Some (form.Choice parts) → slice_get parts k ≡ Some q
      → suc k < length parts → EndsNullable facts parts → AreFirstToMeet g (facts.first q) (facts.follow p) s t → ViolatesBy g facts p (AlternativeMeetsFollow (suc k) s t)
  -- a round has a start that isn't apart from one that follows the repetition
  round_meets_follow : {p q : ℕ} {s t : ListedStart} → slice_get g.nodes p ≡ Some (form.Many q) → AreFirstToMeet g (facts.first q) (facts.follow p) s t
      → ViolatesBy g facts p (RoundMeetsFollow s t)
  link_meets_follow : {p operand separator : ℕ} {n : Node} {s t : ListedStart} → slice_get g.nodes p ≡ Some n → IsChain operand separator n
      → AreFirstToMeet g (BeginsLink facts operand separator) (facts.follow p) s t → ViolatesBy g facts p (RoundMeetsFollow s t)
  -- the term of an expression can be empty
  empty_operand : {p term : ℕ} {builders : OperatorBuilders} → slice_get g.nodes p ≡ Some (form.Expression builders term) → facts.nullable term → ViolatesBy g facts p EmptyOperand
  -- the term has a start that isn't apart from operators
  operand_meets_operators : {p term : ℕ} {builders : OperatorBuilders} {s t : ListedStart} → slice_get g.nodes p ≡ Some (form.Expression builders term)
      → AreFirstToMeet g (facts.first term) (IsOperatorStart g) s t → ViolatesBy g facts p (OperandMeetsOperators s)
  -- what follows an expression has a start that isn't apart from operators
  follow_meets_operators : {p term : ℕ} {builders : OperatorBuilders} {s t : ListedStart} → slice_get g.nodes p ≡ Some (form.Expression builders term)
      → AreFirstToMeet g (facts.follow p) (IsOperatorStart g) s t → ViolatesBy g facts p (FollowMeetsOperators s)
  -- the gap of an expression, or of a declaration, isn't apart from operators, from a term, or from what follows
  expression_gap_meets : {p term : ℕ} {builders : OperatorBuilders} {s : ListedStart} → slice_get g.nodes p ≡ Some (form.Expression builders term)
      → IsFirstToMeetGap g (facts.first term) (facts.follow p) s → ViolatesBy g facts p (GapMeets s)
  gap_meets : {p : ℕ} {class : List ClassPart} {s : ListedStart} → slice_get g.nodes p ≡ Some (form.Leaf (leaf.Declare class))
      → IsFirstToMeetGap g BeginsNothing (facts.follow p) s → ViolatesBy g facts p (GapMeets s)
  -- the grammar's step cost is above the limit, which is reported at the body of the start rule
  step_cost_over : {rule : declared.Rule} {k : ℕ} → slice_get g.rules g.start ≡ Some rule → facts.cost k → cost_limit < k → ViolatesBy g facts rule.body StepCostOver

-- nothing is wrong at any node
abbrev pub IsFaultlessBy : Grammar → NodeFacts → Type 0
IsFaultlessBy g facts = (p : ℕ) (kind : ViolationKind ListedStart) → ViolatesBy g facts p kind → ⊥

-- ---- violations by a grammar's least sets

-- this is wrong at the node, by the grammar's least sets
abbrev pub Violates : Grammar → ℕ → ViolationKind ListedStart → Type 0
Violates g = ViolatesBy g (least_facts g)

-- nothing is wrong at any node: the grammar is predictive, and its step cost is within the limit
abbrev pub IsFaultless : Grammar → Type 0
IsFaultless g = (p : ℕ) (kind : ViolationKind ListedStart) → Violates g p kind → ⊥
