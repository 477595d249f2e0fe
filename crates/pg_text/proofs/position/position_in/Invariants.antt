use Rattle.std.proofs.Common.{◌≡◌, ◌≤◌, ◌+◌, ◌*◌, take, fold}
use Rattle.pg_text.specs.Position.{advance, start}
use Rattle.pg_text.proofs.position.position_in.Given as goal

abbrev pub invariant-loop-c : goal.invariant-loop-c
invariant-loop-c l = record {
  line : l.position.line ≤ 1 + l.c-index;
  column : l.position.column ≤ 1 + 8 * l.c-index;
  so_far : l.position ≡ fold advance start (take l.c-index l.c-items);
}
