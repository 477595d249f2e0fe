use Rattle.std.proofs.Common.{◌≡◌, ◌++◌}
use Rattle.pg_tree.specs.Written.{braces}
use Rattle.pg_tree.proofs.json_text.push_braces.Given as goal

abbrev pub invariant-loop : goal.invariant-loop
invariant-loop l = l.text.items ≡ l.initial.text.items ++ braces l.counter
