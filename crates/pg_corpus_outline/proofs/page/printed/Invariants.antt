use Rattle.std.proofs.Common.{◌≡◌, ◌≤◌, ◌++◌, false, drop}
use Rattle.pg_corpus_outline.specs.Pieces.{tokens_of}
use Rattle.pg_corpus_outline.specs.Outlines.{tokens_page}
use Rattle.pg_corpus_outline.proofs.page.printed.Given as goal

abbrev pub invariant-loop-at : goal.invariant-loop-at
invariant-loop-at l = record {
  printed : l.page.items ++ tokens_page l.silent l.depth (tokens_of (drop l.at l.pieces)) ≡ tokens_page false 0 (tokens_of l.pieces);
  deep : l.depth ≤ l.at;
}
