use Rattle.pg_graph.specs.Spread.{left_to_do}
use Rattle.pg_graph.proofs.Spreading.{AreRooted, IsSpreading}
use Rattle.pg_graph.proofs.handing.spread.Given as goal

abbrev pub invariant-loop-number : goal.invariant-loop-number
invariant-loop-number l = AreRooted l.graph l.roots l.number l.sets.items

abbrev pub invariant-loop-next : goal.invariant-loop-next
invariant-loop-next l = IsSpreading l.graph l.roots l.sets.items l.waits.items

abbrev pub decreases-loop-next : goal.decreases-loop-next
decreases-loop-next l = left_to_do l.sets.items l.waits.items
