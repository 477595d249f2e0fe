use Rattle.std.proofs.Common.{take}
use Rattle.pg_graph.specs.Spread.{IsHandedOn}
use Rattle.pg_graph.proofs.handing.hand_on.Given as goal

abbrev pub invariant-loop-to : goal.invariant-loop-to
invariant-loop-to l = IsHandedOn (take l.to-index l.edges) l.from l.fn.sets l.fn.waits l.sets l.waits
