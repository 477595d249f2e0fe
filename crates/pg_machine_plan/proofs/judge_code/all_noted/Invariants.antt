use Rattle.pg_machine_plan.proofs.OneMore.{AdjoinIf}
use Rattle.pg_machine_plan.proofs.judge_code.all_noted.Given as goal

abbrev pub invariant-loop-node : goal.invariant-loop-node
invariant-loop-node l = AdjoinIf l.plan l.keep l.nodes l.pc l.node-index l.end
