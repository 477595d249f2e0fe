use Rattle.pg_sets.specs.Origins.{AreItemOrigins}
use Rattle.pg_sets.proofs.origins.origins_of_items.Given as goal

abbrev pub invariant-loop-item : goal.invariant-loop-item
invariant-loop-item l = AreItemOrigins l.grammar l.item l.origins
