use Rattle.std.proofs.Common.{◌≡◌, vec_len, reverse}
use Rattle.pg_machine_turns.specs.Tape.{all_built}
use Rattle.pg_machine_turns.proofs.chains.build_waiting.Given as goal

abbrev pub invariant-loop-place : goal.invariant-loop-place
invariant-loop-place l = all_built l.used.shape (reverse l.places.items) l.forest ≡ all_built l.used.shape (reverse l.fn.places.items) l.fn.forest

abbrev pub decreases-loop-place : goal.decreases-loop-place
decreases-loop-place l = vec_len l.places
