use Rattle.std.proofs.Common.{◌≡◌, take}
use Rattle.pg_language_operators.proofs.in_force.copied.Given as goal

abbrev pub invariant-loop-operator : goal.invariant-loop-operator
invariant-loop-operator l = l.copies.items ≡ take l.operator-index l.operators
