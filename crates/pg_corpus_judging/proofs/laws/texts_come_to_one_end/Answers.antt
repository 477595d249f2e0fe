use Rattle.pg_corpus_judging.proofs.OneEnd.{one_end}
use Rattle.pg_corpus_judging.proofs.laws.texts_come_to_one_end.Goals as goal

pub returns : goal.returns
returns c = one_end
