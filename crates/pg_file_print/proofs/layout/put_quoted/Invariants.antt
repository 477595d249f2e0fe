use Rattle.std.proofs.Common.{◌≡◌, ◌++◌, ◌∷◌, [], drop}
use Rattle.pg_file_print.specs.Printed.{all_escaped, quoted}
use Rattle.pg_file_print.proofs.layout.put_quoted.Given as goal

abbrev pub invariant-loop-c : goal.invariant-loop-c
invariant-loop-c l = l.out.items ++ (all_escaped (drop l.c-index l.text) ++ 34 ∷ []) ≡ l.fn.out.items ++ quoted l.text
