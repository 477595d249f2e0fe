use Rattle.pg_derive.proofs.AcceptedTexts.{derives_once}
use Rattle.pg_derive.proofs.accepted.accepted_grammars_derive_once.Goals as goal

pub returns : goal.returns
returns c = derives_once
