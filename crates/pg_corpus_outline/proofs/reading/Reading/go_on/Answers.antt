use Rattle.std.proofs.Common.{List, length, ap, arith}
use Rattle.pg_tree.specs.Kept.{Kept}
use Rattle.pg_tree.specs.Stored.{entries_of}
use Rattle.pg_corpus_outline.proofs.Steps.{fewer_left}
use Rattle.pg_corpus_outline.proofs.reading.Reading.go_on.Goals as goal

pub returns-in_ok-read-in-Some-clause-fewer : goal.returns-in_ok-read-in-Some-clause-fewer
returns-in_ok-read-in-Some-clause-fewer c =
    λ same.
    let fewer = fewer_left _ _ _ c.in-Some.ensures.last in
    let read = ap (λ (ts : List Kept). length (entries_of ts)) c.in_ok-read-in-Some.ensures.entries in
    let begun = ap (λ (ts : List Kept). length (entries_of ts)) c.in_ok-begin_all.ensures.entries in omega (arith, fewer, read, begun)
