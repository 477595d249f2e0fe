use Rattle.std.proofs.Common.{◌≡◌, ◌++◌, ◌-◌, take, drop}
use Rattle.pg_grammar.proofs.numbering.taken.Given as goal

abbrev pub invariant-loop : goal.invariant-loop
invariant-loop l = record {
  parts : l.numbers.items ++ take (l.count - l.counter) l.roots.items ≡ take l.count l.fn.roots.items;
  rest : drop (l.count - l.counter) l.roots.items ≡ drop l.count l.fn.roots.items;
}
