-- What stands for characters and bytes between quotes, one after another.
use Rattle.std.proofs.Common.{◌≡◌, ◌+◌, ◌<◌, ◌≤◌, ℕ, List, [], ◌∷◌, ◌++◌, length, drop, get_or, ap, sym, ◌∙◌, encode_utf8_all}
use Rattle.std.specs.Char.{encode_utf8}
use Rattle.std.proofs.lemmas.List.{drop_more, drop_all}
use Rattle.json.specs.Print.{escape, escape_byte}
use Rattle.pg_tree_placed.proofs.Plain.{escape-append}

pub characters_next : (cs : List ℕ) (i c : ℕ) → i < length cs → c ≡ get_or cs i c
    → escape (encode_utf8_all (drop i cs)) ≡ escape (encode_utf8 c) ++ escape (encode_utf8_all (drop (i + 1) cs))
characters_next cs i c h is =
    ap (λ xs. escape (encode_utf8_all xs)) (drop_more cs i c h ∙ ap (λ x. x ∷ drop (i + 1) cs) (sym is))
    ∙ escape-append (encode_utf8 c) (encode_utf8_all (drop (i + 1) cs))

pub characters_done : (cs : List ℕ) (i : ℕ) → length cs ≤ i → escape (encode_utf8_all (drop i cs)) ≡ []
characters_done cs i h = ap (λ xs. escape (encode_utf8_all xs)) (drop_all i cs h)

pub bytes_next : (bs : List ℕ) (i d : ℕ) → i < length bs → escape (drop i bs) ≡ escape_byte (get_or bs i d) ++ escape (drop (i + 1) bs)
bytes_next bs i d h = ap escape (drop_more bs i d h)

pub bytes_done : (bs : List ℕ) (i : ℕ) → length bs ≤ i → escape (drop i bs) ≡ []
bytes_done bs i h = ap escape (drop_all i bs h)
