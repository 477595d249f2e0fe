use Rattle.std.proofs.Common.{◌≡◌, subst, ◌∙◌}
use Rattle.pg_predict_costs.specs.FoundCost.{IsCostByCosts}
use Rattle.pg_predict_costs.specs.Rounds.{AreCutCosts}
use Rattle.pg_predict_costs.proofs.Existing.{acyclic, step_cost_there}
use Rattle.pg_predict_costs.proofs.Sizing.{cut_step_cost}
use Rattle.pg_predict_costs.proofs.grammar_cost.step_cost.Goals as goal

pub returns : goal.returns
returns c =
    let g = c.args.grammar.now in
    let nullable = c.args.sets.now.nullable in
    let costs = c.in_ok-costs.costs.items in
    let are_costs : AreCutCosts g nullable costs = c.in_ok-costs.ensures in
    let by : IsCostByCosts g costs c.in_ok-cost.cost = subst (λ xs. IsCostByCosts g xs c.in_ok-cost.cost) c.deref.ensures.value c.in_ok-cost.ensures in
    record {
      there = step_cost_there g c.if-not-all_have_ranks.ensures.grammar c.args.sets.now c.requires (acyclic g c.args.sets.now c.requires c.if-not-all_have_ranks.ensures.all);
      is = λ k is. by.is ∙ cut_step_cost g nullable costs by.sizes are_costs by.are_sizes k is;
    }

pub returns-then-not-all_have_ranks : goal.returns-then-not-all_have_ranks
returns-then-not-all_have_ranks c = λ k is. absurd (c.if-not-all_have_ranks.ensures.none k is)
