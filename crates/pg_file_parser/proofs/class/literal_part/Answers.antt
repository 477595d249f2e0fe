use Rattle.pg_file_parser.proofs.ParserLemmas.Rests.{ends_on, answer_ends}
use Rattle.pg_file_parser.proofs.class.literal_part.Goals as goal

pub returns-in-Some-clause-rest : goal.returns-in-Some-clause-rest
returns-in-Some-clause-rest c = answer_ends _ _ c.range.result (ends_on _ _ _ c.in_ok-text.ensures.rest c.in-Some.ensures.rest) c.range.ensures.rest
