use Rattle.std.proofs.lemmas.Result.{IfErr-weaker}
use Rattle.pg_file.proofs.file.text_read.Goals as goal

pub returns-in-None-clause-refused : goal.returns-in-None-clause-refused
returns-in-None-clause-refused g c = IfErr-weaker c.grammar_in.result _ _ (λ e none fault short. none fault) c.grammar_in.ensures.refused
