-- Going through a list from its end: what was gone through stands after what is left.
use Rattle.std.proofs.Common.{◌≡◌, List, [], ◌∷◌, ◌++◌, length, take, drop, sym, ap, append_assoc, ◌∙◌}
use Rattle.std.proofs.lemmas.List.{take-append-drop}
use Rattle.std.proofs.Math.Seq.{drop-append_seam, take-append_seam}

-- the list is what is left, but for its last element, then that element, and then what was gone through
around : {X : Type 0} (xs rest before : List X) (x : X) → rest ≡ take (length rest) xs → rest ≡ before ++ x ∷ []
    → xs ≡ before ++ (x ∷ drop (length rest) xs)
around xs rest before x front last =
    sym (take-append-drop (length rest) xs) ∙ (ap (λ ys. ys ++ drop (length rest) xs) (sym front ∙ last) ∙ append_assoc before (x ∷ []) (drop (length rest) xs))

-- with the last element of what is left, one element more was gone through
pub drop-last : {X : Type 0} (xs rest before : List X) (x : X) → rest ≡ take (length rest) xs → rest ≡ before ++ x ∷ []
    → drop (length before) xs ≡ x ∷ drop (length rest) xs
drop-last xs rest before x front last =
    ap (drop (length before)) (around xs rest before x front last) ∙ drop-append_seam before (x ∷ drop (length rest) xs)

-- without its last element, what is left is still a prefix of the list
pub take-last : {X : Type 0} (xs rest before : List X) (x : X) → rest ≡ take (length rest) xs → rest ≡ before ++ x ∷ []
    → before ≡ take (length before) xs
take-last xs rest before x front last =
    sym (ap (take (length before)) (around xs rest before x front last) ∙ take-append_seam before (x ∷ drop (length rest) xs))
