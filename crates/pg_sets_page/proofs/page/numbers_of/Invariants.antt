use Rattle.std.proofs.Common.{◌≡◌, take}
use Rattle.pg_sets_page.proofs.page.numbers_of.Given as goal

abbrev pub invariant-loop-rule : goal.invariant-loop-rule
invariant-loop-rule l = l.numbers.items ≡ take l.rule-index l.rules
