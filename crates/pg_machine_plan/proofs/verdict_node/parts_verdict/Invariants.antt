use Rattle.std.proofs.Common.{◌≡◌, drop}
use Rattle.pg_machine_plan.specs.Columns.{verdict_at}
use Rattle.pg_machine_plan.specs.Verdicts.{parts_verdict}
use Rattle.pg_machine_plan.proofs.verdict_node.parts_verdict.Given as goal

-- the verdict is that on the parts from here on
abbrev pub invariant-loop-index : goal.invariant-loop-index
invariant-loop-index l = l.verdict ≡ parts_verdict (verdict_at l.column) (drop l.index l.parts)
