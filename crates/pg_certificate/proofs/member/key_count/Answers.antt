use Rattle.std.proofs.Common.{◌∙◌}
use Rattle.pg_certificate.proofs.Parts.{counted}
use Rattle.pg_certificate.proofs.member.key_count.Goals as goal

pub returns-in-Some : goal.returns-in-Some
returns-in-Some c = c.len.ensures.len ∙ counted _ _ c.in-Some.ensures
