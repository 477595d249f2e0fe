use Rattle.pg_predict_conditions.specs.Conditions.{claimed_facts}
use Rattle.pg_predict.proofs.FirstBroken.{first_is}
use Rattle.pg_predict.proofs.broken.first_broken.Goals as goal

pub first_noted-broken-requires : goal.first_noted-broken-requires
first_noted-broken-requires c = c.in_ok-judge.ensures.worked_out.suspects

pub returns : goal.returns
returns c =
    first_is c.args.grammar.now (claimed_facts c.args.sets c.args.cost) c.in_ok-judge.judge c.in_ok-judge.ensures c.first_noted-broken.ensures.grammar c.first_noted-broken.result
    c.first_noted-broken.ensures.noted
