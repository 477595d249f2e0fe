-- An accepted grammar has a step cost, and what is computed of it bounds what is counted of a run: both stop at the greatest number.
use Rattle.std.proofs.Common.{◌≡◌, ◌≤◌, ◌<◌, ◌+◌, ◌-◌, ◌*◌, ◌^◌, ◌⊎◌, inl, inr, ℕ, length, min, arith, Some, slice_get}
use Rattle.std.proofs.lemmas.Nat.{mul-le}
use Rattle.pg_grammar_value.specs.declared.grammar.Rule as declared
use Rattle.pg_language.specs.Answers.{Answers, AnswersStart}
use Rattle.pg_language.specs.Outcomes.{Outcome, ok, failed}
use Rattle.pg_language.specs.WholeTexts.{beginning}
use Rattle.pg_derive.specs.PredictiveLaws.{HasAnswer, is_ok, has_failed}
use Rattle.pg_derive.proofs.Predicted.{exist}
use Rattle.pg_derive.proofs.Whole.{start_found}
use Rattle.pg_derive.specs.LeastSets.{node_sets}
use Rattle.pg_derive.proofs.AcceptedTexts.{predicts}
use Rattle.pg_predict.proofs.StepCosts.{acyclic}
use Rattle.pg_derive_bound.specs.Bound.{IsAnswer, AcceptedGrammarsHaveAStepCost, AcceptedStartsComeToAnswers, AcceptedRunsTakeFewSteps}
use Rattle.pg_predict_costs.proofs.Existing.{step_cost_there}
use Rattle.pg_derive_bound.proofs.InTime.{accepted_starts, accepted_texts}

pub accepted_costs : AcceptedGrammarsHaveAStepCost
accepted_costs g sets grammar least faultless = step_cost_there g grammar sets least (acyclic g faultless)

-- a number of steps within a product is within it where both are cut off
cut_within : (m k cost n most : ℕ) → 2 * m ≤ k * (n + 1) → cost ≡ min k most → min (2 * m - 1) most ≤ cost * (n + 1)
cut_within m k cost n most l e = go (either k most)
  where
    either : (k most : ℕ) → (k ≤ most) ⊎ (most ≤ k)
    either k most = grind arith

    go : (k ≤ most) ⊎ (most ≤ k) → min (2 * m - 1) most ≤ cost * (n + 1)
    go (inl low) = let product = mul-le k (n + 1) cost (n + 1) (omega arith) (omega arith) in omega arith
    go (inr high) = let product = mul-le most 1 cost (n + 1) (omega arith) (omega arith) in omega arith

pub accepted_runs : AcceptedRunsTakeFewSteps
accepted_runs G sets h cost is table from o m d =
    let k = accepted_costs G.grammar sets h.grammar h.least h.faultless in
    cut_within m k.0 cost (length G.text) (2 ^ 64 - 1) (accepted_texts G sets h k.0 k.1 table from o m d) (is k.0 k.1)

pub accepted_answers : AcceptedStartsComeToAnswers
accepted_answers G sets h k c table from most room = go (exist G (node_sets G.grammar sets) (predicts G sets h) start.0.body start.2 (beginning table) from (omega arith))
  where
    start : (named : declared.Rule) × (slice_get G.grammar.rules G.grammar.start ≡ Some named) × (named.body < length G.grammar.nodes)
    start = start_found G.grammar h.grammar

    answered : (o : Outcome) (m : ℕ) → Answers G start.0.body (beginning table) o m → IsAnswer o → (o : Outcome) × (m : ℕ) × AnswersStart G table o m × (2 * m ≤ most) × IsAnswer o
    answered o m d is =
        let whole : AnswersStart G table o m = record { start = start.0; is_start = start.1; body = d } in
        let bound = accepted_starts G sets h k c table from o m whole in
        (o, m, whole, omega arith, is)

    go : HasAnswer G start.0.body (beginning table) → (o : Outcome) × (m : ℕ) × AnswersStart G table o m × (2 * m ≤ most) × IsAnswer o
    go (is_ok x b v t e m d) = answered (ok x b v t e) m d tt
    go (has_failed x e m d) = answered (failed x e) m d tt
