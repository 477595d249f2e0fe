use Rattle.std.proofs.Common.{◌≤◌, ◌-◌, arith}
use Rattle.std.specs.Prelude.{◌^◌}
use Rattle.pg_pred.specs.Offer.{offer_of}
use Rattle.pg_explain_witness.proofs.NodeRuns.{ready_alone}
use Rattle.pg_explain_witness.proofs.answering.runs.Goals as goal

pub turns-requires-clause-ready : goal.turns-requires-clause-ready
turns-requires-clause-ready g c =
    let case = c.args.case.now in
    let m = c.args.machine.now in
    let few : c.args.most ≤ 2 ^ 64 - 1 = omega arith in
    ready_alone (offer_of case.registry.now) case.grammar.now c.args.most c.args.node c.args.place m.frames m.lists.forest m.lists.trail.items m.lists.messages m.table c.requires.fresh few
