-- One condition and one rule after the other.
use Rattle.std.proofs.Common.{◌≡◌, ◌<◌, ◌≤◌, ◌+◌, ℕ, List, Some, None, slice_get, length, sym, ap, subst, ◌∙◌, inl, inr, arith}
use Rattle.std.proofs.lemmas.Bool.{cases_eq}
use Rattle.std.proofs.lemmas.Option.{slice_get_within, same_Some}
use Rattle.pg_certificate.specs.declared.certificate.RuleClaim.{RuleClaim}
use Rattle.pg_predict_costs.specs.Steps.{number_at}
use Rattle.pg_grammar_value.specs.Grammar.{Grammar}
use Rattle.pg_grammar_value.specs.declared.grammar.Rule.{Rule}
use Rattle.pg_certificate_verify.specs.Claimed.{claimed_rank, claimed_cost}
use Rattle.pg_certificate_verify.specs.Closed.{IsFirstClosed, IsFollowClosed}
use Rattle.pg_certificate_verify.specs.Judged.{Said, Holds, condition_number, IsFirstFailing, AllHoldBefore, AllHold}
use Rattle.pg_certificate_verify.specs.declared.verify_fault.Condition.{Condition}
use Rattle.pg_certificate_verify.specs.declared.verify_fault.Condition.TheVariants.{Nullable, First, Follow, Rank, Cost}

module _ (g : Grammar) (claims : List RuleClaim) (said : Said) (r : ℕ) (rule : Rule) where
  pub nullable_fails : (Holds g claims said r rule Nullable → ⊥) → IsFirstFailing g claims said r rule (Some Nullable)
  nullable_fails fails = (fails, λ condition before. absurd (omega arith))

  pub first_fails : Holds g claims said r rule Nullable → (IsFirstClosed g claims said.nullable r rule → ⊥) → IsFirstFailing g claims said r rule (Some First)
  first_fails nullable fails = (fails, before)
    where
      before : (condition : Condition) → condition_number condition < 1 → Holds g claims said r rule condition
      before Nullable less = nullable
      before First less = absurd (omega arith)
      before Follow less = absurd (omega arith)
      before Rank less = absurd (omega arith)
      before Cost less = absurd (omega arith)

  pub follow_fails : Holds g claims said r rule Nullable → IsFirstClosed g claims said.nullable r rule → (IsFollowClosed g claims said.nullable r → ⊥)
      → IsFirstFailing g claims said r rule (Some Follow)
  follow_fails nullable first fails = (fails, before)
    where
      before : (condition : Condition) → condition_number condition < 2 → Holds g claims said r rule condition
      before Nullable less = nullable
      before First less = first
      before Follow less = absurd (omega arith)
      before Rank less = absurd (omega arith)
      before Cost less = absurd (omega arith)

  pub rank_fails : Holds g claims said r rule Nullable → IsFirstClosed g claims said.nullable r rule → IsFollowClosed g claims said.nullable r
      → (number_at said.ranks rule.body ≤ claimed_rank claims r → ⊥) → IsFirstFailing g claims said r rule (Some Rank)
  rank_fails nullable first follow fails = (fails, before)
    where
      before : (condition : Condition) → condition_number condition < 3 → Holds g claims said r rule condition
      before Nullable less = nullable
      before First less = first
      before Follow less = follow
      before Rank less = absurd (omega arith)
      before Cost less = absurd (omega arith)

  pub cost_fails : Holds g claims said r rule Nullable → IsFirstClosed g claims said.nullable r rule → IsFollowClosed g claims said.nullable r
      → number_at said.ranks rule.body ≤ claimed_rank claims r → (number_at said.costs rule.body ≤ claimed_cost claims r → ⊥) → IsFirstFailing g claims said r rule (Some Cost)
  cost_fails nullable first follow rank fails = (fails, before)
    where
      before : (condition : Condition) → condition_number condition < 4 → Holds g claims said r rule condition
      before Nullable less = nullable
      before First less = first
      before Follow less = follow
      before Rank less = rank
      before Cost less = absurd (omega arith)

  pub none_fails : Holds g claims said r rule Nullable → IsFirstClosed g claims said.nullable r rule → IsFollowClosed g claims said.nullable r
      → number_at said.ranks rule.body ≤ claimed_rank claims r → number_at said.costs rule.body ≤ claimed_cost claims r → IsFirstFailing g claims said r rule None
  none_fails nullable first follow rank cost Nullable = nullable
  none_fails nullable first follow rank cost First = first
  none_fails nullable first follow rank cost Follow = follow
  none_fails nullable first follow rank cost Rank = rank
  none_fails nullable first follow rank cost Cost = cost

pub one_rule_more : (g : Grammar) (claims : List RuleClaim) (said : Said) (k : ℕ) (rule : Rule) → slice_get g.rules k ≡ Some rule
    → AllHoldBefore g claims said k → IsFirstFailing g claims said k rule None → AllHoldBefore g claims said (k + 1)
one_rule_more g claims said k rule at before here r other below there condition =
    elim (cases_eq r k) [
      | inl same ↦
          let one : rule ≡ other = same_Some rule other (sym at ∙ (ap (slice_get g.rules) (sym same) ∙ there)) in
          subst (λ q. Holds g claims said q other condition) (sym same) (subst (λ x. Holds g claims said k x condition) one (here condition))
      | inr differ ↦ before r other (omega (arith, below, differ)) there condition
    ]

pub all_judged : (g : Grammar) (claims : List RuleClaim) (said : Said) (k : ℕ) → length g.rules ≤ k → AllHoldBefore g claims said k → AllHold g claims said
all_judged g claims said k whole before r rule at condition =
    let inside = slice_get_within g.rules r rule at in before r rule (omega (arith, whole, inside)) at condition
