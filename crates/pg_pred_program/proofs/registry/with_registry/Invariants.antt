use Rattle.std.proofs.Common.{map, take, string_bytes, List}
use Rattle.std.specs.List.{AllZip}
use Rattle.pg_class.specs.Ranges.{Range}
use Rattle.pg_pred.specs.Names.{Name}
use Rattle.pg_pred_program.specs.Kinds.{all_kinds, IsEntryOf}
use Rattle.pg_pred_program.proofs.registry.with_registry.Given as goal

abbrev pub invariant-loop-kind : goal.invariant-loop-kind
invariant-loop-kind g l = AllZip IsEntryOf (take l.kind-index all_kinds) (map {B = Name × List Range} (λ p. (string_bytes p.name, p.class)) l.predicates.items)
