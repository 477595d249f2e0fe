use Rattle.std.proofs.Common.{arith}
use Rattle.std.proofs.lemmas.Grind.{common_steps}
use Rattle.pg_graph.proofs.Spreading.{nobody_waits}
use Rattle.pg_graph.proofs.handing.next_waiting.Goals as goal

pub returns : goal.returns
returns c = nobody_waits c.args.waits.now (λ k few. c.loop-at-2.invariant k (omega arith))

pub loop-at-2-preserved : goal.loop-at-2-preserved
loop-at-2-preserved c = grind (arith, common_steps)
