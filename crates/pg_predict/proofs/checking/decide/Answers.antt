use Rattle.std.proofs.Common.{ℕ, ◌≤◌, not, ap, sym, subst, ◌∙◌}
use Rattle.pg_sets.specs.Sets.{Sets, AreSets}
use Rattle.pg_predict_costs.specs.StepCost.{IsStepCost}
use Rattle.pg_predict_conditions.specs.Conditions.{least_facts, cost_limit}
use Rattle.pg_predict.specs.Refusals.{RefusedGrammar, IsRefused}
use Rattle.pg_predict.specs.declared.source.Source.{Source}
use Rattle.pg_predict.proofs.FirstBroken.{none_noted, some_noted}
use Rattle.pg_predict_conditions.proofs.StepCosts.{accepted_cost}
use Rattle.pg_predict.proofs.Violations.{faultless, refusal_is}
use Rattle.pg_predict.proofs.checking.decide.Goals as goal

pub first_noted-requires : goal.first_noted-requires
first_noted-requires c = c.requires.least.worked_out.suspects

pub new-requires : goal.new-requires
new-requires c =
    let g = c.args.grammar in
    let facts = c.args.judge in
    let none = none_noted g facts c.first_noted.result c.first_noted.ensures.noted (c.is_none.ensures ∙ ap not c.if-is_none.true) in
    let nothing = faultless g (least_facts g) facts c.requires.least c.first_noted.ensures.grammar none in
    let cost = accepted_cost g facts c.requires c.first_noted.ensures.grammar nothing in
    record {
      sets = subst (λ (sets : Sets). AreSets g sets) (sym c.into_sets.ensures) c.requires.sets;
      faultless = nothing;
      cost =
          subst (λ (sets : Sets). IsStepCost g sets.nullable c.cost-cost.result) (sym c.into_sets.ensures)
          (subst (IsStepCost g facts.sets.nullable) (sym c.cost-cost.ensures) cost.0);
      within = subst (λ (k : ℕ). k ≤ cost_limit) (sym c.cost-cost.ensures) cost.1;
    }

-- what is noted refuses the grammar
pub new-requires-in-Ok : goal.new-requires-in-Ok
new-requires-in-Ok c = record {
  is_source = record { grammar = c.first_noted.ensures.grammar; facts = c.requires.least; texts = c.in-Ok.ensures };
  any = some_noted c.args.grammar c.args.judge c.first_noted.result c.first_noted.ensures.noted (c.is_none.ensures ∙ ap not c.if-is_none.false);
}

pub returns-in-Ok-clause-refused : goal.returns-in-Ok-clause-refused
returns-in-Ok-clause-refused c =
    let g = c.args.grammar in
    let source : Source = record { grammar = g; judge = c.args.judge; texts = c.in-Ok.texts } in
    subst (λ (r : RefusedGrammar). IsRefused g r) (sym c.new-in-Ok.ensures)
    (refusal_is source (record {
      is_source = record { grammar = c.first_noted.ensures.grammar; facts = c.requires.least; texts = c.in-Ok.ensures };
      any = some_noted g c.args.judge c.first_noted.result c.first_noted.ensures.noted (c.is_none.ensures ∙ ap not c.if-is_none.false);
    }))
