use Rattle.std.proofs.Common.{◌≡◌, length, drop, arith}
use Rattle.std.proofs.lemmas.Grind.{common_steps}
use Rattle.std.proofs.lemmas.List.{take_at}
use Rattle.pg_predict_costs.proofs.Growing.{settled_costs}
use Rattle.pg_predict_costs.proofs.costs.node_costs.Goals as goal

pub returns : goal.returns
returns c =
    let g = c.args.grammar.now in
    let new = c.cost_round.new.costs in
    let long : length new ≡ c.loop.costs.len = omega arith in
    rw (take_at new (drop (length new) c.loop.costs.items) c.loop.costs.len long)
    (settled_costs g c.args.sets.now.nullable new c.cost_round.ensures.low c.loop-test.ensures.settled)

pub loop-preserved : goal.loop-preserved
loop-preserved c = grind (arith, common_steps)
