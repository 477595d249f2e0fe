use Rattle.pg_sets.specs.Origins.{AreReaders}
use Rattle.pg_sets.proofs.readers.readers_of_words.Given as goal

abbrev pub invariant-loop-number : goal.invariant-loop-number
invariant-loop-number l = AreReaders l.grammar l.number l.readers.items
