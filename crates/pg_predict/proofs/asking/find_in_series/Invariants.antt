use Rattle.std.proofs.Common.{◌≡◌}
use Rattle.pg_predict.specs.Rest.{rest_of_series}
use Rattle.pg_predict.proofs.asking.find_in_series.Given as goal

abbrev pub invariant-loop-next : goal.invariant-loop-next
invariant-loop-next l =
    rest_of_series l.judge l.node l.form l.series l.fn.question ≡ rest_of_series l.judge l.node l.form l.series l.next
