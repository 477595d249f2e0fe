use Rattle.pg_file_parser.proofs.ParserLemmas.Rests.{ends_on}
use Rattle.pg_file_parser.proofs.item.word_item.Goals as goal

pub returns-clause-rest : goal.returns-clause-rest
returns-clause-rest c = ends_on _ _ _ (ends_on _ _ _ (ends_on _ _ _ c.in_ok-name.ensures.rest c.in_ok-head.ensures.rest) c.in_ok-rest.ensures.rest) c.in_ok-reserved.ensures.rest
