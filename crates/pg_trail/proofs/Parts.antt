-- Symbols.
use Rattle.std.proofs.Common.{◌≡◌, ℕ, List, ap, sym, ◌∙◌}
use Rattle.std.specs.Str.{encode_utf8_all, IsUtf8, chars}
use Rattle.std.proofs.lemmas.Str.{chars_from_encodes, encodes-chars}
use Rattle.pg_trail.specs.Readings.{IsOnly}

pub symbol_found : (t cs : List ℕ) → IsUtf8 t → cs ≡ chars t → (encode_utf8_all cs ≡ t) × IsOnly encode_utf8_all cs
symbol_found t cs valid is =
    let spells : encode_utf8_all cs ≡ t = ap encode_utf8_all is ∙ encodes-chars t valid in
    (spells, λ other same. chars_from_encodes other t valid (same ∙ spells) ∙ sym is)
