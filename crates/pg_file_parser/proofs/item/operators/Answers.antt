use Rattle.pg_file_parser.proofs.ParserLemmas.Rests.{ends_on}
use Rattle.pg_file_parser.proofs.item.operators.Goals as goal

pub returns-clause-rest : goal.returns-clause-rest
returns-clause-rest c = ends_on _ _ _ (ends_on _ _ _ (ends_on _ _ _ c.in_ok-class.ensures.rest c.in_ok-gap.ensures.rest) c.in_ok-reserved.ensures.rest) c.in_ok-most.ensures.rest
