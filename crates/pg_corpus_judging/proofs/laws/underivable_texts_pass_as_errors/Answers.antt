use Rattle.pg_corpus_judging.proofs.OneEnd.{underivable_passes}
use Rattle.pg_corpus_judging.proofs.laws.underivable_texts_pass_as_errors.Goals as goal

pub returns : goal.returns
returns c = underivable_passes
