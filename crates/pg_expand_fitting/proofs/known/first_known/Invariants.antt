-- None of those before stands on the side.
use Rattle.std.proofs.Common.{◌≡◌, drop}
use Rattle.pg_expand_fitting.specs.Judge.{first_known}
use Rattle.pg_expand_fitting.proofs.known.first_known.Given as goal

abbrev pub invariant-loop-operator : goal.invariant-loop-operator
invariant-loop-operator l = first_known l.applied (drop l.operator-index l.found) ≡ first_known l.applied l.found
