use Rattle.std.proofs.Common.{◌≡◌, ◌++◌, drop}
use Rattle.pg_corpus.specs.Cases.{updated_cases}
use Rattle.pg_corpus.proofs.corpus.updated.Given as goal

abbrev pub invariant-loop-number : goal.invariant-loop-number
invariant-loop-number l = l.bytes.items ++ updated_cases (drop l.number l.cases) (drop l.number l.wanted) ≡ l.corpus.head.now ++ updated_cases l.cases l.wanted
