use Rattle.std.proofs.Common.{◌≡◌, drop}
use Rattle.pg_sets_nullable.specs.Parts.{reached_parts, all_joined}
use Rattle.pg_sets_nullable.proofs.parts.reached_from.Given as goal

abbrev pub invariant-loop-number : goal.invariant-loop-number
invariant-loop-number l =
    all_joined (reached_parts l.nullable) l.number (drop l.number l.nodes) l.graph.items ≡ all_joined (reached_parts l.nullable) 0 l.nodes l.initial.graph.items
