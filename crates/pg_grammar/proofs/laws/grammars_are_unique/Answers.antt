use Rattle.pg_grammar.proofs.Unique.{same_grammar}
use Rattle.pg_grammar.proofs.laws.grammars_are_unique.Goals as goal

pub returns : goal.returns
returns c = same_grammar
