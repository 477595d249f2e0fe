use Rattle.std.proofs.Common.{◌≡◌, reverse, vec_len}
use Rattle.pg_machine_quick.specs.Tape.{tape_back}
use Rattle.pg_machine_quick.proofs.running.Running.back.Given as goal

-- what is left to go back over comes to the same
abbrev pub invariant-loop-frame : goal.invariant-loop-frame
invariant-loop-frame l = tape_back l.consumed l.nodes l.self.trees (reverse l.self.frames.items) ≡ tape_back l.fn.consumed l.fn.nodes l.fn.self.trees (reverse l.fn.self.frames.items)

abbrev pub decreases-loop-frame : goal.decreases-loop-frame
decreases-loop-frame l = vec_len l.self.frames
