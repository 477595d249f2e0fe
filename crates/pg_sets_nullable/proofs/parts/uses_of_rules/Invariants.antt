use Rattle.std.proofs.Common.{◌≡◌, drop}
use Rattle.pg_sets_nullable.specs.Parts.{used_rules, all_joined}
use Rattle.pg_sets_nullable.proofs.parts.uses_of_rules.Given as goal

abbrev pub invariant-loop-number : goal.invariant-loop-number
invariant-loop-number l =
    all_joined used_rules l.number (drop l.number l.grammar.nodes) l.uses.items ≡ all_joined used_rules 0 l.grammar.nodes l.initial.uses.items
