use Rattle.std.proofs.Common.{◌≡◌, ◌++◌, take}
use Rattle.pg_machine_quick.specs.Turns.{leaves_of}
use Rattle.pg_machine_quick.proofs.trees.push_leaves.Given as goal

-- the leaves of the characters so far are there
abbrev pub invariant-loop-c : goal.invariant-loop-c
invariant-loop-c l = l.trees ≡ l.initial.trees ++ leaves_of (take l.c-index l.characters)
