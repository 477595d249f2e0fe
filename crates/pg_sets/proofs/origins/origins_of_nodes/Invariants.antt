use Rattle.pg_sets.specs.Origins.{AreMixedOrigins}
use Rattle.pg_sets.proofs.origins.origins_of_nodes.Given as goal

abbrev pub invariant-loop-number : goal.invariant-loop-number
invariant-loop-number l = AreMixedOrigins l.grammar l.number l.origins
