use Rattle.std.proofs.Common.{subst, ap, ◌∙◌, IsUtf8}
use Rattle.std.specs.Str.{encode_utf8_all}
use Rattle.std.proofs.lemmas.Str.{IsUtf8-string_bytes}
use Rattle.pg_trail.proofs.write.push_symbol.Goals as goal

pub returns-clause-storable : goal.returns-clause-storable
returns-clause-storable c = subst IsUtf8 (c.in_ok-symbol.ensures ∙ ap encode_utf8_all c.as_slice.ensures) (IsUtf8-string_bytes c.in_ok-symbol.symbol)
