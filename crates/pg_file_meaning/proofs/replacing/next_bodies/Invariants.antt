use Rattle.std.proofs.Common.{◌≡◌, ◌++◌, ◌-◌, take, drop}
use Rattle.pg_file_meaning.proofs.replacing.next_bodies.Given as goal

abbrev pub invariant-loop : goal.invariant-loop
invariant-loop l = record {
  bodies : l.bodies.items ++ take (l.count - l.counter) l.waiting.items ≡ take l.count l.fn.waiting.items;
  rest : drop (l.count - l.counter) l.waiting.items ≡ drop l.count l.fn.waiting.items;
}
