-- What was read goes on to be.
use Rattle.std.proofs.Common.{List, length}
use Rattle.pg_tree.specs.Stored.{entries_of}
use Rattle.pg_corpus_outline.specs.Pieces.{Token}
use Rattle.pg_corpus_outline.specs.Reading.{Reads}
use Rattle.pg_corpus_outline.proofs.reading.pieces_of.Given as goal

abbrev pub invariant-entries : goal.invariant-entries
invariant-entries l = (all : List Token) → Reads l.initial.reading all → Reads l.reading all

abbrev pub decreases-entries : goal.decreases-entries
decreases-entries l = length (entries_of l.reading.entries)
