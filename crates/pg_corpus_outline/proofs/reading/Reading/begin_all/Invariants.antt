-- The entries stay, and what was read goes on to be.
use Rattle.std.proofs.Common.{◌≡◌, List, vec_len}
use Rattle.pg_corpus_outline.specs.Pieces.{Token}
use Rattle.pg_corpus_outline.specs.Reading.{Reads}
use Rattle.pg_corpus_outline.proofs.reading.Reading.begin_all.Given as goal

abbrev pub invariant-nodes : goal.invariant-nodes
invariant-nodes l = record {
  stays : l.self.entries ≡ l.initial.self.entries;
  reads : (all : List Token) → Reads l.initial.self all → Reads l.self all;
}

abbrev pub decreases-nodes : goal.decreases-nodes
decreases-nodes l = vec_len l.self.opened
