use Rattle.pg_derive.proofs.AcceptedTexts.{refuses_rightly}
use Rattle.pg_derive.proofs.accepted.accepted_grammars_refuse_rightly.Goals as goal

pub returns : goal.returns
returns c = refuses_rightly
