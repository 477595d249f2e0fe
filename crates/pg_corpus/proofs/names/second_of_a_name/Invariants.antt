use Rattle.pg_corpus.proofs.Apart.{AreNames}
use Rattle.pg_corpus.proofs.names.second_of_a_name.Given as goal

abbrev pub invariant-loop-case : goal.invariant-loop-case
invariant-loop-case l = AreNames l.cases l.case-index l.names.keys
