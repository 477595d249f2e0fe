use Rattle.std.proofs.Common.{◌≡◌, ◌++◌}
use Rattle.std.specs.BTreeMap.{keys, values, btree_map_len}
use Rattle.pg_sets.proofs.origins.listed.Given as goal

abbrev pub invariant-loop-start : goal.invariant-loop-start
invariant-loop-start l = record {
  starts : l.starts.items ++ keys l.rest ≡ keys l.fn.origins;
  sets : l.sets.items ++ values l.rest ≡ values l.fn.origins;
}

abbrev pub decreases-loop-start : goal.decreases-loop-start
decreases-loop-start l = btree_map_len l.rest
