use Rattle.std.proofs.Common.{◌<◌, ap, length, Some, below_more, arith}
use Rattle.std.proofs.lemmas.Option.{slice_get_within}
use Rattle.pg_machine_plan.specs.Judged.{HasShape}
use Rattle.pg_machine_plan.proofs.judge_shapes.has_shapes.Goals as goal

pub loop-pc-preserved : goal.loop-pc-preserved
loop-pc-preserved c = below_more (HasShape c.args.grammar.now c.args.plan.now) c.loop-pc.pc c.loop-pc.invariant c.if-not-has_shape.ensures

pub returns : goal.returns
returns c = λ pc s noted.
    let within : pc < length c.args.plan.now.stretches = slice_get_within c.args.plan.now.stretches pc (Some s) noted in
    let here : pc < c.loop-pc.pc = omega (arith, ap length c.stretches-stretch-items.ensures) in
    c.loop-pc.invariant pc here s noted
