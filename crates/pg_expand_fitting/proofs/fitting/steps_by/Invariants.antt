-- What is left to read is judged as all is.
use Rattle.std.proofs.Common.{◌≡◌, drop}
use Rattle.pg_expand_fitting.specs.Judge.{judged, known_by, judge_of, beginning}
use Rattle.pg_expand_fitting.proofs.fitting.steps_by.Given as goal

abbrev pub invariant-loop-applied : goal.invariant-loop-applied
invariant-loop-applied l = judged (known_by l.lookup) (drop l.applied-index l.read) (judge_of l.judge) ≡ judged (known_by l.lookup) l.read beginning
