use Rattle.std.proofs.Common.{◌≡◌, ◌+◌, ◌-◌, ◌^◌, ◌≤◌, min, length}
use Rattle.pg_predict_conditions.specs.Judged.{noted_at}
use Rattle.pg_predict_conditions.specs.Violations.{counted}
use Rattle.pg_predict.specs.Rest.{rest_at}
use Rattle.pg_predict.proofs.at_node.count_kinds.Given as goal

abbrev pub invariant-more : goal.invariant-more
invariant-more l = record {
  small : l.count ≤ 2 ^ 64 - 1;
  all : min (l.count + length (rest_at l.source.judge l.node l.form l.asking)) (2 ^ 64 - 1) ≡ counted (noted_at l.source.grammar l.source.judge l.node);
}

abbrev pub decreases-more : goal.decreases-more
decreases-more l = length (rest_at l.source.judge l.node l.form l.asking)
