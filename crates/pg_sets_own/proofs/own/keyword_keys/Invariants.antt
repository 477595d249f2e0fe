use Rattle.std.proofs.Common.{◌≡◌, map, take}
use Rattle.pg_sets_own.specs.Own.{keyword_key}
use Rattle.pg_sets_own.proofs.own.keyword_keys.Given as goal

abbrev pub invariant-loop-role : goal.invariant-loop-role
invariant-loop-role l = l.own.items ≡ map (keyword_key l.excluded) (take l.role-index l.roles)
