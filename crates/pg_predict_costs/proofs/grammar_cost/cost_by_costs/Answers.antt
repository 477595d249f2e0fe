use Rattle.std.proofs.Common.{◌≡◌, ◌*◌, ap, ◌∙◌}
use Rattle.pg_predict_costs.specs.Steps.{number_at, cut_off, row_steps}
use Rattle.pg_predict_costs.specs.StepCost.{greatest_size, grammar_levels}
use Rattle.pg_predict_costs.proofs.grammar_cost.cost_by_costs.Goals as goal

pub returns : goal.returns
returns c =
    let g = c.args.grammar.now in
    let sizes = c.in_ok-sizes.sizes.items in
    let greatest : c.greatest_size-greatest.result ≡ greatest_size (number_at sizes) (cut_off (row_steps g)) g.rules =
    c.greatest_size-greatest.ensures ∙ ap (λ xs. greatest_size (number_at xs) (cut_off (row_steps g)) g.rules) c.deref.ensures.value in
    record {
      sizes = sizes;
      are_sizes = c.in_ok-sizes.ensures;
      is = c.saturating_mul.ensures
          ∙ (ap (λ x. cut_off (x * c.greatest_size-greatest.result)) c.grammar_levels-levels.ensures
          ∙ ap (λ y. cut_off (cut_off (grammar_levels g) * y)) greatest);
    }
