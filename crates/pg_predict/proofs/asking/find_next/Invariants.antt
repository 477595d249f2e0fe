use Rattle.std.proofs.Common.{◌≡◌}
use Rattle.pg_predict.specs.Rest.{rest_at}
use Rattle.pg_predict.proofs.asking.find_next.Given as goal

abbrev pub invariant-loop-series : goal.invariant-loop-series
invariant-loop-series l =
    rest_at l.judge l.node l.form l.fn.asking ≡ rest_at l.judge l.node l.form (record { series = l.series; question = l.asking.question })
