use Rattle.std.proofs.Common.{◌≡◌, ◌<◌, false, not, length, sym, ap, ◌∙◌, inl, inr, arith}
use Rattle.std.proofs.lemmas.Bool.{cases_eq}
use Rattle.std.specs.Option.{is_some}
use Rattle.pg_sets_nullable.specs.Ranks.{rank_at}
use Rattle.pg_predict_costs.proofs.Cycles.{no_step_cost, no_some, some_there}
use Rattle.pg_predict_costs.proofs.grammar_cost.all_have_ranks.Goals as goal

pub returns-then-is_none-clause-none : goal.returns-then-is_none-clause-none
returns-then-is_none-clause-none c = λ k is.
    let rules = ap length c.rules-rule-end.ensures.all in
    let inside : c.loop-rule.rule < length c.args.grammar.now.rules = omega arith in
    let found = c.rank.ensures in
    let number = c.new.ensures in
    let out : is_some c.rank.result ≡ false = c.is_none.ensures ∙ ap not c.if-is_none.true in
    let nothing : is_some (rank_at c.args.sets.now.ranks c.loop-rule.rule) ≡ false = cc in
    let none = no_some (rank_at c.args.sets.now.ranks c.loop-rule.rule) nothing in
    no_step_cost c.args.grammar.now c.args.sets.now c.loop-rule.rule c.requires inside none k is

pub loop-rule-preserved : goal.loop-rule-preserved
loop-rule-preserved c = λ r below none.
    elim (cases_eq r c.loop-rule.rule) [
      | inl same ↦
          some_there c.rank.result c.is_none.result c.is_none.ensures c.if-is_none.false
          (c.rank.ensures ∙ (ap (rank_at c.args.sets.now.ranks) (c.new.ensures ∙ sym same) ∙ none))
      | inr other ↦ c.loop-rule.invariant r (omega arith) none
    ]
