use Rattle.pg_derive.proofs.AcceptedTexts.{accepted_links}
use Rattle.pg_derive.proofs.accepted.accepted_links_consume.Goals as goal

pub returns : goal.returns
returns c = accepted_links
