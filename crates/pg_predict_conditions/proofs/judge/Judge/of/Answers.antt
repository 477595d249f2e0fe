use Rattle.std.proofs.lemmas.Result.{IfOk-weaker}
use Rattle.pg_predict_conditions.proofs.Facts.{least_formed, least_are}
use Rattle.pg_predict_conditions.proofs.judge.Judge.of.Goals as goal

pub by_sets-requires : goal.by_sets-requires
by_sets-requires c = least_formed c.args.grammar.now c.in_ok-sets.sets c.in_ok-sets.ensures

pub returns : goal.returns
returns c =
    IfOk-weaker c.by_sets.result _ _
    (λ facts by. least_are c.args.grammar.now c.in_ok-sets.sets c.in_ok-recursive.recursive.items c.in_ok-cost.cost facts c.in_ok-sets.ensures c.in_ok-recursive.ensures c.in_ok-cost.ensures by)
    c.by_sets.ensures
