use Rattle.pg_pred.specs.Offer.{offer_of}
use Rattle.pg_bench_corpus.proofs.starts.loaded.Goals as goal

pub returns-in-Err : goal.returns-in-Err
returns-in-Err g c = c.why_not_loaded.ensures (offer_of c.args.registry.now)
