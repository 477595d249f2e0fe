-- Which claim fails first: rules are judged in file order, and for each rule nullable, first, follow, rank and cost.
use Rattle.std.specs.Prelude.{◌≡◌, ◌<◌, ◌≤◌, ℕ, Bool, true, List, Option, Some, None, slice_get}
use Rattle.pg_certificate.specs.declared.certificate.RuleClaim.{RuleClaim}
use Rattle.pg_predict_costs.specs.Steps.{number_at}
use Rattle.pg_graph.specs.Marks.{is_marked}
use Rattle.pg_grammar_value.specs.Grammar.{Grammar}
use Rattle.pg_grammar_value.specs.declared.grammar.Rule.{Rule}
use Rattle.pg_certificate_verify.specs.Claimed.{claimed_nullable, claimed_rank, claimed_cost}
use Rattle.pg_certificate_verify.specs.Closed.{IsFirstClosed, IsFollowClosed}
use Rattle.pg_certificate_verify.specs.Cost.{AreCostsBy}
use Rattle.pg_certificate_verify.specs.Nullable.{AreNullableBy}
use Rattle.pg_certificate_verify.specs.Rank.{AreRanksBy}
use Rattle.pg_certificate_verify.specs.declared.verify_fault.Condition.{Condition}
use Rattle.pg_certificate_verify.specs.declared.verify_fault.Condition.TheVariants.{Nullable, First, Follow, Rank, Cost}
use Rattle.pg_certificate_verify.specs.declared.verify_fault.NotClosed.{NotClosed}
use Rattle.pg_certificate_verify.specs.declared.verdict.ClaimedFacts.{ClaimedFacts}

-- facts about nodes by the claims: whether they are nullable, which rank they require, and what they cost
pub record Said : Type 0 where
  pub nullable : List Bool
  pub ranks : List ℕ
  pub costs : List ℕ

-- these facts, in the code's record
abbrev pub said_by : ClaimedFacts → Said
said_by facts = record { nullable = facts.nullable.items; ranks = facts.ranks.items; costs = facts.costs.items }

pub record IsSaid (g : Grammar) (claims : List RuleClaim) (said : Said) : Type 0 where
  pub nullable : AreNullableBy g claims said.nullable
  pub ranks : AreRanksBy g claims said.nullable said.ranks
  pub costs : AreCostsBy g claims said.nullable said.costs

-- the rule meets the condition: its claims are no less than what the claims require of its body and of its uses
abbrev pub Holds : Grammar → List RuleClaim → Said → ℕ → Rule → Condition → Type 0
Holds g claims said r rule Nullable = is_marked said.nullable rule.body ≡ true → claimed_nullable claims r ≡ true
Holds g claims said r rule First = IsFirstClosed g claims said.nullable r rule
Holds g claims said r rule Follow = IsFollowClosed g claims said.nullable r
Holds g claims said r rule Rank = number_at said.ranks rule.body ≤ claimed_rank claims r
Holds g claims said r rule Cost = number_at said.costs rule.body ≤ claimed_cost claims r

-- the order of conditions
abbrev pub condition_number : Condition → ℕ
condition_number Nullable = 0
condition_number First = 1
condition_number Follow = 2
condition_number Rank = 3
condition_number Cost = 4

-- the first condition of the rule that fails, or none
abbrev pub IsFirstFailing : Grammar → List RuleClaim → Said → ℕ → Rule → Option Condition → Type 0
IsFirstFailing g claims said r rule None = (condition : Condition) → Holds g claims said r rule condition
IsFirstFailing g claims said r rule (Some failing) =
    (Holds g claims said r rule failing → ⊥) × ((condition : Condition) → condition_number condition < condition_number failing → Holds g claims said r rule condition)

-- each rule before this one meets all conditions
abbrev pub AllHoldBefore : Grammar → List RuleClaim → Said → ℕ → Type 0
AllHoldBefore g claims said count =
    (r : ℕ) (rule : Rule) → r < count → slice_get g.rules r ≡ Some rule → (condition : Condition) → Holds g claims said r rule condition

-- each rule meets all conditions
abbrev pub AllHold : Grammar → List RuleClaim → Said → Type 0
AllHold g claims said = (r : ℕ) (rule : Rule) → slice_get g.rules r ≡ Some rule → (condition : Condition) → Holds g claims said r rule condition

-- the rule exists, the condition is the first of it that fails, and the rules before it meet all conditions
pub record IsFirstFault (g : Grammar) (claims : List RuleClaim) (said : Said) (fault : NotClosed) : Type 0 where
  pub rule : Rule
  pub there : slice_get g.rules fault.rule ≡ Some rule
  pub fails : IsFirstFailing g claims said fault.rule rule (Some fault.condition)
  pub before : AllHoldBefore g claims said fault.rule

-- the first claim that fails, or none
abbrev pub IsJudged : Grammar → List RuleClaim → Said → Option NotClosed → Type 0
IsJudged g claims said None = AllHold g claims said
IsJudged g claims said (Some fault) = IsFirstFault g claims said fault
