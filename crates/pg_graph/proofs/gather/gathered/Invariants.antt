use Rattle.pg_graph.specs.Graphs.{IsGathered}
use Rattle.pg_graph.proofs.gather.gathered.Given as goal

abbrev pub invariant-loop-number : goal.invariant-loop-number
invariant-loop-number l = IsGathered l.graph l.roots l.number l.sets.items
