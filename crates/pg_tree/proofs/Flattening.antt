-- Kids after other kids, and the flattened kids of both.
use Rattle.std.proofs.Common.{◌≡◌, ℕ, Bool, true, false, cond, List, [], ◌∷◌, ◌++◌, refl, ap, sym}
use Rattle.std.specs.Str.{bytes_eq}
use Rattle.pg_tree.specs.Trees.{Tree, Trees, leaf, node, no_trees, tree, kids_of}
use Rattle.pg_tree.specs.Built.{with_kids, flattened}

-- no kids after kids
pub with_kids-no_trees : (ts : Trees) → with_kids ts no_trees ≡ ts
with_kids-no_trees no_trees = refl
with_kids-no_trees (tree t ts) = ap (λ us. tree t us) (with_kids-no_trees ts)

-- kids after two rows of kids
pub with_kids-assoc : (ts us vs : Trees) → with_kids (with_kids ts us) vs ≡ with_kids ts (with_kids us vs)
with_kids-assoc no_trees us vs = refl
with_kids-assoc (tree t ts) us vs = ap (λ ws. tree t ws) (with_kids-assoc ts us vs)

-- the kids of two lists joined
pub kids_of-append : (ts us : List Tree) → kids_of (ts ++ us) ≡ with_kids (kids_of ts) (kids_of us)
kids_of-append [] us = refl
kids_of-append (t ∷ ts) us = ap (λ ws. tree t ws) (kids_of-append ts us)

-- `flattened-tree` at a node, by whether it has the label
node_step : (t : Tree) (kids flat : Trees) (b : Bool)
    → cond b (with_kids kids flat) (tree t flat) ≡ with_kids (cond b (with_kids kids no_trees) (tree t no_trees)) flat
node_step t kids flat true = sym (ap (λ ws. with_kids ws flat) (with_kids-no_trees kids))
node_step t kids flat false = refl

-- kids are flattened one by one
pub flattened-tree : (label : List ℕ) (t : Tree) (ts : Trees)
    → flattened label (tree t ts) ≡ with_kids (flattened label (tree t no_trees)) (flattened label ts)
flattened-tree label (leaf text) ts = refl
flattened-tree label (node other kids) ts = node_step (node other kids) kids (flattened label ts) (bytes_eq other label)
