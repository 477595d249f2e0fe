use Rattle.std.proofs.Common.{◌≡◌, ℕ, List, [], ◌∷◌, ◌++◌, flat_map, encode_utf8, encode_utf8_all, refl, ap, ◌∙◌}
use Rattle.std.proofs.lemmas.List.{take_all}
use Rattle.std.proofs.Output.{has_written_of_eq}
use Rattle.pg_text.proofs.characters.CharactersDisplay.fmt.Goals as goal

-- the characters one by one, or all together
flat_map-encode_utf8 : (cs : List ℕ) → flat_map encode_utf8 cs ≡ encode_utf8_all cs
flat_map-encode_utf8 [] = refl
flat_map-encode_utf8 (c ∷ cs) = ap (λ bytes. encode_utf8 c ++ bytes) (flat_map-encode_utf8 cs)

pub returns-clause-writes : goal.returns-clause-writes
returns-clause-writes g c = λ plain _.
    let all = take_all _ _ c.loop-c-test.false ∙ c.as_slice-c-items.ensures in
    has_written_of_eq _ _ _ _ _ (flat_map-encode_utf8 _ ∙ ap encode_utf8_all all) (c.loop-c.invariant plain)
