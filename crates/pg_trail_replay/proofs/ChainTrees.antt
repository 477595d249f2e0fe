-- The trees of a chain, as they are made one round after another.
use Rattle.std.proofs.Common.{◌≡◌, ℕ, List, [], ◌∷◌, ◌++◌, length, drop, refl, ap, ◌∙◌, append_assoc}
use Rattle.std.proofs.Math.Seq.{take-append_seam, drop-append_seam}
use Rattle.pg_tree.specs.Trees.{Tree}
use Rattle.pg_tree.specs.Built.{built}
use Rattle.pg_tree.specs.declared.shape.Shape.{Shape}
use Rattle.pg_grammar_form.specs.declared.side.Side.{Side}
use Rattle.pg_grammar_form.specs.declared.side.Side.TheVariants.{Left, Right}
use Rattle.pg_language.specs.Derives.{Link, folded}
use Rattle.pg_trail_replay.specs.Tasks.{folded_after}

-- the trees to be folded after a separator: from the right they begin with the operand
abbrev pub trees_after : Side → (trees later : ℕ) → ℕ
trees_after Left trees later = trees
trees_after Right trees later = later

-- from the left an operand is folded at once
abbrev pub folded_first : Side → Shape → ℕ → List Tree → List Tree
folded_first Left shape trees forest = folded_after shape trees forest
folded_first Right shape trees forest = forest

-- from the right all after it is first
abbrev pub folded_last : Side → Shape → ℕ → List Tree → List Tree
folded_last Left shape trees forest = forest
folded_last Right shape trees forest = folded_after shape trees forest

-- a forest after rounds of a chain, with the trees after the first ones folded
abbrev pub chained : Side → Shape → ℕ → List Tree → List Link → List Tree
chained side shape trees forest [] = forest
chained side shape trees forest (link ∷ links) =
    folded_last side shape trees (chained side shape (trees_after side trees (length (forest ++ link.0))) (folded_first side shape trees (forest ++ link.0 ++ link.1)) links)

-- the same after an operand
abbrev pub chained_from : Side → Shape → (trees later : ℕ) → List Tree → List Link → List Tree
chained_from side shape trees later forest links =
    folded_last side shape trees (chained side shape (trees_after side trees later) (folded_first side shape trees forest) links)

-- and from an operand on
abbrev pub chained_on : Side → Shape → ℕ → List Tree → List Tree → List Link → List Tree
chained_on side shape trees forest operand links = chained_from side shape trees (length forest) (forest ++ operand) links

-- where an idle round is folded, the others are left out
pub chained_idle : (side : Side) (shape : Shape) (trees : ℕ) (forest : List Tree) (link : Link) → chained side shape trees forest (link ∷ []) ≡ folded_after shape trees (forest ++ link.0 ++ link.1)
chained_idle Left shape trees forest link = refl
chained_idle Right shape trees forest link = refl

-- the trees of a chain are folded after those before it
pub folded_seam : (shape : Shape) (v w : List Tree) → folded_after shape (length v) (v ++ w) ≡ v ++ built shape [] w ∷ []
folded_seam shape v w =
    ap (λ x. x ++ built shape [] (drop (length v) (v ++ w)) ∷ []) (take-append_seam v w) ∙ ap (λ x. v ++ built shape [] x ∷ []) (drop-append_seam v w)

pub chained_folded : (side : Side) (shape : Shape) (v x : List Tree) (links : List Link) → chained side shape (length v) (v ++ x) links ≡ v ++ folded side shape x links
chained_folded Left shape v x [] = refl
chained_folded Right shape v x [] = refl
chained_folded Left shape v x (link ∷ links) =
    let joined : v ++ x ++ link.0 ++ link.1 ≡ v ++ (x ++ link.0 ++ link.1) =
    ap (λ w. w ++ link.1) (append_assoc v x link.0) ∙ append_assoc v (x ++ link.0) link.1 in
    ap (λ w. chained Left shape (length v) (folded_after shape (length v) w) links) joined
    ∙ ap (λ w. chained Left shape (length v) w links) (folded_seam shape v (x ++ link.0 ++ link.1))
    ∙ chained_folded Left shape v (built shape [] (x ++ link.0 ++ link.1) ∷ []) links
chained_folded Right shape v x (link ∷ links) =
    let rest : List Tree = folded Right shape link.1 links in
    let joined : v ++ x ++ link.0 ++ rest ≡ v ++ (x ++ link.0 ++ rest) = ap (λ w. w ++ rest) (append_assoc v x link.0) ∙ append_assoc v (x ++ link.0) rest in
    ap (folded_after shape (length v)) (chained_folded Right shape (v ++ x ++ link.0) link.1 links)
    ∙ ap (folded_after shape (length v)) joined
    ∙ folded_seam shape v (x ++ link.0 ++ rest)
