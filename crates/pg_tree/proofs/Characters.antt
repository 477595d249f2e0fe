-- The bytes of characters, one by one.
use Rattle.std.proofs.Common.{◌≡◌, ◌+◌, ◌<◌, ℕ, List, [], ◌∷◌, ◌++◌, length, take, get_or, ap, sym, ◌∙◌, append_assoc, encode_utf8_all}
use Rattle.std.specs.Char.{encode_utf8}
use Rattle.std.proofs.lemmas.Str.{encodes-append}
use Rattle.std.proofs.lemmas.List.{take_more, append-nil}

-- the bytes of one more character
pub encoded-more : (old queue new bytes cs : List ℕ) (i : ℕ) → i < length cs → queue ≡ old ++ encode_utf8_all (take i cs) → new ≡ queue ++ bytes
    → bytes ≡ encode_utf8 (get_or cs i 0) → new ≡ old ++ encode_utf8_all (take (i + 1) cs)
encoded-more old queue new bytes cs i h so_far e is =
    let own : bytes ≡ encode_utf8_all (get_or cs i 0 ∷ []) = is ∙ sym (append-nil (encode_utf8 (get_or cs i 0))) in
    e ∙ ap (λ xs. xs ++ bytes) so_far ∙ append_assoc old (encode_utf8_all (take i cs)) bytes
    ∙ ap (λ xs. old ++ (encode_utf8_all (take i cs) ++ xs)) own
    ∙ ap (λ xs. old ++ xs) (sym (ap encode_utf8_all (take_more cs i 0 h) ∙ encodes-append (take i cs) (get_or cs i 0 ∷ [])))
