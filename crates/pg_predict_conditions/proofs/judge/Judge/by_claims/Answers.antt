use Rattle.std.proofs.lemmas.Result.{IfOk-weaker}
use Rattle.pg_predict_conditions.proofs.Facts.{claimed_are}
use Rattle.pg_predict_conditions.proofs.judge.Judge.by_claims.Goals as goal

pub returns : goal.returns
returns c =
    IfOk-weaker c.by_sets.result _ _ (λ facts by. claimed_are c.args.grammar.now c.args.sets c.new-none.result.items c.args.cost facts c.requires c.new-none.ensures.items by)
    c.by_sets.ensures
