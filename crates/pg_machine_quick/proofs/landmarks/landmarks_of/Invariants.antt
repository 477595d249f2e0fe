use Rattle.std.proofs.Common.{◌≡◌, length}
use Rattle.pg_machine_quick.specs.Landmarks.{AreLandmarks}
use Rattle.pg_machine_quick.proofs.landmarks.landmarks_of.Given as goal

-- the landmarks of the places so far are there
abbrev pub invariant-loop-pc : goal.invariant-loop-pc
invariant-loop-pc l = record {
  all : AreLandmarks l.plan l.landmarks.items;
  many : length l.landmarks.items ≡ l.pc;
}
