use Rattle.std.proofs.Common.{◌≡◌, []}
use Rattle.pg_predict_conditions.specs.Judged.{all_below, noted_at}
use Rattle.pg_predict.proofs.finds.first_noted.Given as goal

abbrev pub invariant-loop-number : goal.invariant-loop-number
invariant-loop-number l = all_below (noted_at l.grammar l.judge) l.number ≡ []
