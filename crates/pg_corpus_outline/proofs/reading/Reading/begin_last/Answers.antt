use Rattle.std.proofs.Common.{refl, arith}
use Rattle.pg_corpus_outline.proofs.Steps.{begin_reads}
use Rattle.pg_corpus_outline.proofs.reading.Reading.begin_last.Goals as goal

pub returns-in_ok-push-in-Some-clause-reads : goal.returns-in_ok-push-in-Some-clause-reads
returns-in_ok-push-in-Some-clause-reads c =
    λ same all h. begin_reads _ _ all c.in-Some.node _ refl c.in-Some.ensures.items (omega (arith, c.if-node-count.true)) refl c.in_ok-push-in-Some.ensures.items h
