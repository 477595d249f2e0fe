-- Forms in preorder, each with the number of its parts.
use Rattle.std.specs.Prelude.{◌≡◌, ◌+◌, ℕ, zero, suc, List, [], ◌∷◌, take, drop}

-- forms with these numbers of parts spell exactly k whole forms, one after another
abbrev pub SpellForms : ℕ → List ℕ → Type 0
SpellForms k [] = k ≡ 0
SpellForms zero (n ∷ ns) = ⊥
SpellForms (suc k) (n ∷ ns) = SpellForms (n + k) ns

-- the numbers of the forms that aren't parts of another; the first form has the number i
abbrev pub roots : ℕ → List ℕ → List ℕ
roots i [] = []
roots i (n ∷ ns) = i ∷ drop n (roots (suc i) ns)

-- for each form the numbers of its parts; the first form has the number i
abbrev pub parts_from : ℕ → List ℕ → List (List ℕ)
parts_from i [] = []
parts_from i (n ∷ ns) = take n (roots (suc i) ns) ∷ parts_from (suc i) ns
