use Rattle.std.proofs.Common.{subst, ap, ◌∙◌, IsUtf8}
use Rattle.std.specs.Str.{encode_utf8_all}
use Rattle.std.proofs.lemmas.Str.{IsUtf8-string_bytes}
use Rattle.pg_certificate.proofs.write_start.push_text.Goals as goal

pub returns-clause-utf8 : goal.returns-clause-utf8
returns-clause-utf8 c =
    subst IsUtf8 (c.in_ok-characters.ensures ∙ ap encode_utf8_all c.as_slice.ensures) (IsUtf8-string_bytes c.in_ok-characters.characters)
