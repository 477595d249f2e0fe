-- Where the step cost is above the limit, and what it is in a grammar without violations.
use Rattle.std.proofs.Common.{◌≡◌, ◌↔◌, ◌<◌, ◌≤◌, ℕ, zero, suc, inl, inr, length, Bool, true, false, List, [], ◌∷◌, Option, Some, None, slice_get, refl, sym, ap, subst, ◌∙◌, arith}
use Rattle.std.specs.Prelude.{nat_eq}
use Rattle.std.specs.Option.{option_map_or}
use Rattle.std.proofs.lemmas.Bool.{false≢true, cases_lt}
use Rattle.std.proofs.lemmas.Option.{same_Some, none-some}
use Rattle.pg_graph.specs.Marks.{is_marked}
use Rattle.pg_sets_nullable.specs.Ranks.{Chain}
use Rattle.pg_sets.specs.Sets.{Sets, AreSets}
use Rattle.pg_grammar_value.specs.Grammar.{Grammar, IsGrammar}
use Rattle.pg_grammar_value.specs.declared.grammar.Rule as declared
use Rattle.pg_predict_costs.specs.FoundCost.{IsFoundCost}
use Rattle.pg_predict_costs.specs.StepCost.{IsStepCost}
use Rattle.pg_predict_costs.proofs.Existing.{first_rule, step_cost_there}
use Rattle.pg_predict_costs.proofs.Marks.{same_step_cost}
use Rattle.pg_predict_conditions.specs.Conditions.{HasStepCost, IsFaultless, least_facts, claimed_facts, cost_limit, left_recursion, step_cost_over}
use Rattle.pg_predict_conditions.specs.Judged.{Facts, cost_noted}
use Rattle.pg_predict_conditions.specs.Shown.{AreLeastFacts, IsOver, IsCostly}
use Rattle.pg_predict_conditions.specs.declared.violation.ViolationKind.TheVariants.{LeftRecursion, StepCostOver}

both_ways : (a b : Bool) → (a ≡ true → b ≡ true) → (b ≡ true → a ≡ true) → a ≡ b
both_ways true true there back = refl
both_ways true false there back = absurd (false≢true (there refl))
both_ways false true there back = absurd (false≢true (back refl))
both_ways false false there back = refl

-- the step cost by the least sets
by_sets : (g : Grammar) (sets : Sets) → AreSets g sets → (k : ℕ) → HasStepCost g k → IsStepCost g sets.nullable k
by_sets g sets are k has =
    same_step_cost has.marks sets.nullable
    (λ p. both_ways (is_marked has.marks p) (is_marked sets.nullable p) (λ h. (are.nullable p).1 ((has.nullable p).0 h)) (λ h. (has.nullable p).1 ((are.nullable p).0 h)))
    g k has.cost

-- where a number is found, it is above the limit where the step cost is
over_cost : (g : Grammar) (sets : Sets) (found : Option ℕ) (cost : ℕ) → IsFoundCost g sets.nullable found → found ≡ Some cost → cost_limit < cost
    → (k : ℕ) × (IsStepCost g sets.nullable k × (cost_limit < k))
over_cost g sets None cost none e over = absurd cc
over_cost g sets (Some found) cost cut e over =
    let same : found ≡ cost = cc in
    let k = cut.there.0 in
    let cut_off_at = cut.is k cut.there.1 in
    let above : cost_limit < k = omega arith in
    (k, (cut.there.1, above))

cost_over : (g : Grammar) (sets : Sets) (found : Option ℕ) (k : ℕ) → IsFoundCost g sets.nullable found → IsStepCost g sets.nullable k → cost_limit < k
    → (cost : ℕ) × ((found ≡ Some cost) × (cost_limit < cost))
cost_over g sets None k none is over = absurd (none k is)
cost_over g sets (Some found) k cut is over =
    let same = cut.is k is in
    let above : cost_limit < found = omega arith in
    (found, (refl, above))

pub least_costly : (g : Grammar) (sets : Sets) (found : Option ℕ) → AreSets g sets → IsFoundCost g sets.nullable found → (p : ℕ) → IsOver g found p ↔ IsCostly g (least_facts g) p
least_costly g sets found are told p = (
  λ is.
      let k = over_cost g sets found is.cost told is.is is.over in
      record { rule = is.rule; there = is.there; body = is.body; cost = k.0; is = record { marks = sets.nullable; nullable = are.nullable; cost = k.1.0 }; over = k.1.1 },
  λ is.
      let cost = cost_over g sets found is.cost told (by_sets g sets are is.cost is.is) is.over in
      record { rule = is.rule; there = is.there; body = is.body; cost = cost.0; is = cost.1.0; over = cost.1.1 },
)

pub claimed_costly : (g : Grammar) (sets : Sets) (cost p : ℕ) → IsOver g (Some cost) p ↔ IsCostly g (claimed_facts sets cost) p
claimed_costly g sets cost p = (
  λ is. record { rule = is.rule; there = is.there; body = is.body; cost = is.cost; is = sym (same_Some cost is.cost is.is); over = is.over },
  λ is. record { rule = is.rule; there = is.there; body = is.body; cost = is.cost; is = ap Some (sym is.is); over = is.over },
)

-- ---- at a node

pub none_over : (g : Grammar) (p : ℕ) → (false ≡ true) ↔ IsOver g None p
none_over g p = (λ h. absurd (false≢true h), λ is. absurd (none-some is.cost is.is))

pub few_over : (g : Grammar) (cost : ℕ) → cost ≤ cost_limit → (p : ℕ) → (false ≡ true) ↔ IsOver g (Some cost) p
few_over g cost few p = (λ h. absurd (false≢true h), λ is. absurd (let over = is.over in let same = same_Some cost is.cost is.is in omega arith))

pub start_over : (g : Grammar) (cost : ℕ) (start : declared.Rule) → cost_limit < cost → slice_get g.rules g.start ≡ Some start → (p : ℕ) → (nat_eq start.body p ≡ true) ↔ IsOver g (Some cost) p
start_over g cost start over there p = (
  λ h. record { rule = start; there = there; body = same start.body p h; cost = cost; is = refl; over = over },
  λ is. test start.body p (subst (λ (rule : declared.Rule). rule.body ≡ p) (same_Some is.rule start (sym is.there ∙ there)) is.body),
)
  where
    same : (a b : ℕ) → nat_eq a b ≡ true → a ≡ b
    same a b e = grind (arith, e)

    test : (a b : ℕ) → a ≡ b → nat_eq a b ≡ true
    test a b e = grind (arith, e)

-- ---- where nothing is wrong

-- no rule heads itself
pub acyclic : (g : Grammar) → IsFaultless g → (r : ℕ) → Chain g r r → ⊥
acyclic g faultless r chain = let first = (first_rule chain).1 in faultless first.rule.body LeftRecursion (left_recursion first.is_rule chain)

-- what is noted as the step cost is it, and within the limit
pub accepted_cost : (g : Grammar) (facts : Facts) → AreLeastFacts g facts → IsGrammar g → IsFaultless g
    → IsStepCost g facts.sets.nullable (cost_noted facts) × (cost_noted facts ≤ cost_limit)
accepted_cost g facts are grammar faultless = go facts.cost are.cost
  where
    start : (rule : declared.Rule) × (slice_get g.rules g.start ≡ Some rule)
    start = found g.rules g.start grammar.start
      where
        found : (rules : List declared.Rule) (r : ℕ) → r < length rules → (rule : declared.Rule) × (slice_get rules r ≡ Some rule)
        found [] r below = absurd (omega arith)
        found (rule ∷ rules) zero below = (rule, refl)
        found (rule ∷ rules) (suc r) below = found rules r (omega arith)

    low : (k : ℕ) → IsStepCost g facts.sets.nullable k → (k ≤ cost_limit)
    low k is = within k (λ over. faultless start.0.body StepCostOver (step_cost_over start.1 (record { marks = facts.sets.nullable; nullable = are.sets.nullable; cost = is }) over))
      where
        within : (k : ℕ) → (cost_limit < k → ⊥) → k ≤ cost_limit
        within k not = elim (cases_lt cost_limit k) [ inl over ↦ absurd (not over) | inr low ↦ omega arith ]

    go : (found : Option ℕ) → IsFoundCost g facts.sets.nullable found
        → IsStepCost g facts.sets.nullable (option_map_or (λ cost. cost) found 0) × (option_map_or (λ cost. cost) found 0 ≤ cost_limit)
    go None none = let there = step_cost_there g grammar facts.sets are.sets (acyclic g faultless) in absurd (none there.0 there.1)
    go (Some cost) cut =
        let k = cut.there.0 in
        let few = low k cut.there.1 in
        let is = cut.is k cut.there.1 in
        let same : k ≡ cost = omega arith in
        (subst (IsStepCost g facts.sets.nullable) same cut.there.1, omega arith)
