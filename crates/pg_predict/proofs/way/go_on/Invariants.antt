use Rattle.std.proofs.Common.{◌≡◌}
use Rattle.pg_predict.specs.Rest.{rest_of}
use Rattle.pg_predict.proofs.way.go_on.Given as goal

abbrev pub invariant-loop-number : goal.invariant-loop-number
invariant-loop-number l =
    rest_of l.source.grammar l.source.judge l.fn.way ≡ rest_of l.source.grammar l.source.judge (record { node = l.number; asking = l.way.asking })
