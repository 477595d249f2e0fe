use Rattle.std.proofs.Common.{◌≡◌, map, drop}
use Rattle.pg_pred.specs.Names.{has_name}
use Rattle.pg_pred.proofs.named.has_name.Given as goal

abbrev pub invariant-loop-one : goal.invariant-loop-one
invariant-loop-one g l =
    has_name (map g.T.Named.name_of (drop l.one-index l.all)) l.name ≡ has_name (map g.T.Named.name_of l.all) l.name
