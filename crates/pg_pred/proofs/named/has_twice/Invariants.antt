use Rattle.std.proofs.Common.{◌≡◌, map, length}
use Rattle.pg_pred.specs.Names.{has_twice}
use Rattle.pg_pred.proofs.named.has_twice.Given as goal

abbrev pub invariant-loop-first : goal.invariant-loop-first
invariant-loop-first g l = has_twice (map g.T.Named.name_of l.rest) ≡ has_twice (map g.T.Named.name_of l.all)

abbrev pub decreases-loop-first : goal.decreases-loop-first
decreases-loop-first g l = length l.rest
