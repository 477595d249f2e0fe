use Rattle.std.proofs.Common.{◌≡◌, ◌+◌, ◌≤◌, nat_eq, length, drop}
use Rattle.std.specs.List.{common_prefix_len}
use Rattle.pg_machine_quick.proofs.reading.matched.Given as goal

-- those so far are there
abbrev pub invariant-loop-wanted : goal.invariant-loop-wanted
invariant-loop-wanted l = record {
  read : l.count ≡ l.wanted-index;
  within : l.count ≤ length l.rest;
  left : l.count + common_prefix_len nat_eq (drop l.count l.characters) (drop l.count l.rest) ≡ common_prefix_len nat_eq l.characters l.rest;
}
