use Rattle.std.proofs.Common.{◌∙◌}
use Rattle.pg_certificate.proofs.Parts.{text_found}
use Rattle.pg_certificate.proofs.member.read_characters.Goals as goal

pub returns : goal.returns
returns c = text_found c.args.text.now c.new.result c.utf8.text (c.new.ensures ∙ c.in_ok-characters.ensures.value)
