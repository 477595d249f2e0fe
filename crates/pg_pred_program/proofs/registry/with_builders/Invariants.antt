use Rattle.std.proofs.Common.{◌≡◌, map, string_bytes}
use Rattle.pg_tree.specs.declared.shape.Shape.{Shape}
use Rattle.pg_pred.specs.Names.{Name}
use Rattle.pg_pred_program.proofs.registry.with_builders.Given as goal

abbrev pub invariant-loop-name : goal.invariant-loop-name
invariant-loop-name g l = map {B = Name × Shape} (λ b. (string_bytes b.name, b.shape)) l.builders.items ≡ map {B = Name × Shape} (λ e. (string_bytes e.0, e.1)) l.yielded
