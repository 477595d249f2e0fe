use Rattle.std.proofs.Common.{◌≡◌, take}
use Rattle.pg_sets_nullable.proofs.rules.Rules.of.Given as goal

abbrev pub invariant-loop-number : goal.invariant-loop-number
invariant-loop-number l = l.rules.items ≡ take l.number-index l.numbers
