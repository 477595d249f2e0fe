use Rattle.std.proofs.Common.{◌≡◌, Some, slice_get, sym}
use Rattle.pg_machine_plan.proofs.OneMore.{on_true}
use Rattle.pg_machine_plan.proofs.Shapes.{shape_at}
use Rattle.pg_machine_plan.proofs.judge_shapes.has_shape.Goals as goal

pub returns-in-Some-node_at : goal.returns-in-Some-node_at
returns-in-Some-node_at c =
    let noted : slice_get c.args.plan.now.stretches c.args.pc ≡ Some (Some c.in-Some.stretch) = cc in
    on_true c.is_shaped.result _ _
    (λ shaped. shape_at c.args.grammar.now c.args.plan.now c.args.pc c.in-Some.stretch c.in-Some-node_at.node.now noted (sym c.in-Some-node_at.ensures) shaped) c.is_shaped.ensures
