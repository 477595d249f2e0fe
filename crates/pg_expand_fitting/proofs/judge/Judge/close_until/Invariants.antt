-- What is left to apply comes to the same.
use Rattle.std.proofs.Common.{◌≡◌, vec_len}
use Rattle.std.specs.Prelude.{map, option_map}
use Rattle.pg_expand_fitting.specs.Judge.{known_of, step_of, waiting_of, closed_until}
use Rattle.pg_expand_fitting.proofs.judge.Judge.close_until.Given as goal

abbrev pub invariant-loop-newest : goal.invariant-loop-newest
invariant-loop-newest l = closed_until (known_of l.operator) (waiting_of l.self.waiting.items) (option_map known_of l.root) (map step_of l.self.steps.items) ≡
    closed_until (known_of l.operator) (waiting_of l.fn.self.waiting.items) (option_map known_of l.fn.made) (map step_of l.fn.self.steps.items)

abbrev pub decreases-loop-newest : goal.decreases-loop-newest
decreases-loop-newest l = vec_len l.self.waiting
