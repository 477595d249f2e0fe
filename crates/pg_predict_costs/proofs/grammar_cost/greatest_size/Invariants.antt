use Rattle.std.proofs.Common.{◌≡◌, drop}
use Rattle.pg_predict_costs.specs.Steps.{number_at, cut_off, row_steps}
use Rattle.pg_predict_costs.specs.StepCost.{greatest_size}
use Rattle.pg_predict_costs.proofs.grammar_cost.greatest_size.Given as goal

abbrev pub invariant-loop-rule : goal.invariant-loop-rule
invariant-loop-rule l = greatest_size (number_at l.sizes) l.greatest (drop l.rule-index l.grammar.rules)
    ≡ greatest_size (number_at l.sizes) (cut_off (row_steps l.grammar)) l.grammar.rules
