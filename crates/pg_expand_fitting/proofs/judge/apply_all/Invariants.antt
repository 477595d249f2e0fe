-- What is left to apply comes to the same.
use Rattle.std.proofs.Common.{◌≡◌, vec_len}
use Rattle.std.specs.Prelude.{map}
use Rattle.pg_expand_fitting.specs.Judge.{step_of, waiting_of, all_applied}
use Rattle.pg_expand_fitting.proofs.judge.apply_all.Given as goal

abbrev pub invariant-loop-newest : goal.invariant-loop-newest
invariant-loop-newest l = all_applied (waiting_of l.waiting.items) (map step_of l.steps.items) ≡ all_applied (waiting_of l.fn.waiting.items) (map step_of l.fn.steps.items)

abbrev pub decreases-loop-newest : goal.decreases-loop-newest
decreases-loop-newest l = vec_len l.waiting
