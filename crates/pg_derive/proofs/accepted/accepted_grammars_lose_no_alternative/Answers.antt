use Rattle.pg_derive.proofs.AcceptedTexts.{loses_none}
use Rattle.pg_derive.proofs.accepted.accepted_grammars_lose_no_alternative.Goals as goal

pub returns : goal.returns
returns c = loses_none
