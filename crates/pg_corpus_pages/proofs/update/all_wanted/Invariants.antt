use Rattle.std.proofs.Common.{◌≡◌, length}
use Rattle.pg_corpus_pages.proofs.update.all_wanted.Given as goal

abbrev pub invariant-loop-number : goal.invariant-loop-number
invariant-loop-number l = length l.wanted.items ≡ l.number
