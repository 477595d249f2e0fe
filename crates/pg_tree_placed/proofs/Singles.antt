-- A leaf that becomes the one kid of a node.
use Rattle.std.proofs.Common.{◌≡◌, ◌<◌, ◌≤◌, ◌+◌, ◌-◌, ℕ, Bool, true, false, List, [], ◌∷◌, ◌++◌, length, take, drop, refl, ap, sym, ◌∙◌, arith, subst}
use Rattle.std.specs.Prelude.{Some, reverse, slice_get, slice_set}
use Rattle.std.proofs.lemmas.List.{length-reverse, length-append, reverse-append, drop_at, take_at, take_more, take_all}
use Rattle.std.proofs.lemmas.Option.{get_or_from_slice_get, slice_get_within}
use Rattle.pg_tree.specs.Trees.{Tree, leaf, node, no_trees, tree, kids_of}
use Rattle.pg_tree_placed.specs.declared.entry.Entry.{Entry}
use Rattle.pg_tree_placed.specs.declared.entry.Entry.TheVariants.{Leaf, Node, Flat, Single, Join}
use Rattle.pg_tree_placed.specs.Named.{label_at}
use Rattle.pg_tree_placed.specs.Made.{text_between, with_entry, made_on, kids_if, Fits, AllFit, IsAround, EndsWith}
use Rattle.pg_tree_placed.proofs.Making.{made_more, fit_more, fit_front}

-- what stands last
pub ends_with : (es : List Entry) (e : Entry) → slice_get es (length es - 1) ≡ Some e → EndsWith es e
ends_with es e is =
    let within : length es - 1 < length es = slice_get_within es (length es - 1) e is in
    let all : length es ≤ length es - 1 + 1 = omega (arith, within) in (
      take (length es - 1) es,
      sym (take_all (length es - 1 + 1) es all) ∙ take_more es (length es - 1) e within
          ∙ ap (λ x. take (length es - 1) es ++ x ∷ []) (get_or_from_slice_get es (length es - 1) e e is),
    )

-- a leaf isn't flattened
kids-one : (b : Bool) (label x : List ℕ) → kids_if b label (tree (leaf x) no_trees) ≡ tree (leaf x) no_trees
kids-one true label x = refl
kids-one false label x = refl

made-last : (text : List ℕ) (labels : List (List ℕ)) (before es : List Entry) (e : Entry) → es ≡ before ++ e ∷ []
    → made_on text labels [] es ≡ with_entry text labels (made_on text labels [] before) e
made-last text labels before es e is = ap (λ xs. made_on text labels [] xs) is ∙ made_more text labels [] before e

-- the trees after a step that stands in place of a leaf's
pub single_made : (text : List ℕ) (labels : List (List ℕ)) (before old new : List Entry) (last e : Entry) (number count : ℕ) (b : Bool) → old ≡ before ++ last ∷ []
    → new ≡ before ++ e ∷ [] → IsAround number last e → count + 1 ≡ length (made_on text labels [] old)
    → let ts = reverse (made_on text labels [] old) in
    reverse (made_on text labels [] new) ≡ take count ts ++ node (label_at labels number) (kids_if b (label_at labels number) (kids_of (drop count ts))) ∷ []
single_made text labels before old new (Leaf from to) e number count b was is around size =
    let ts = made_on text labels [] before in
    let x = text_between text from to in
    let l = label_at labels number in
    let first : made_on text labels [] old ≡ leaf x ∷ ts = made-last text labels before old (Leaf from to) was in
    let order : reverse (made_on text labels [] old) ≡ reverse ts ++ leaf x ∷ [] = ap (λ us. reverse us) first ∙ reverse-append (leaf x ∷ []) ts in
    let n : length (reverse ts) ≡ count = length-reverse ts ∙ omega (arith, size, ap length first) in
    let now : made_on text labels [] new ≡ node l (tree (leaf x) no_trees) ∷ ts =
    made-last text labels before new e is ∙ ap (λ d. with_entry text labels ts d) around in
    ap (λ us. reverse us) now ∙ reverse-append (node l (tree (leaf x) no_trees) ∷ []) ts
    ∙ sym (ap (λ us. take count us ++ node l (kids_if b l (kids_of (drop count us))) ∷ []) order
    ∙ ap (λ us. us ++ node l (kids_if b l (kids_of (drop count (reverse ts ++ leaf x ∷ [])))) ∷ []) (take_at (reverse ts) (leaf x ∷ []) count n)
    ∙ ap (λ us. reverse ts ++ node l (kids_if b l (kids_of us)) ∷ []) (drop_at (reverse ts) (leaf x ∷ []) count n)
    ∙ ap (λ ks. reverse ts ++ node l ks ∷ []) (kids-one b l x))
single_made text labels before old new (Node label kids) e number count b was is around size = absurd around
single_made text labels before old new (Flat label kids) e number count b was is around size = absurd around
single_made text labels before old new (Single label from to) e number count b was is around size = absurd around
single_made text labels before old new (Join kids) e number count b was is around size = absurd around

-- it can be made, and there are as many trees
fits-around : (labels : List (List ℕ)) (ts : List Tree) (last e : Entry) (number : ℕ) → IsAround number last e → number < length labels → Fits labels ts e
fits-around labels ts (Leaf from to) e number around there = subst (λ (d : Entry). Fits labels ts d) (sym around) (there, omega arith)
fits-around labels ts (Node label kids) e number around there = absurd around
fits-around labels ts (Flat label kids) e number around there = absurd around
fits-around labels ts (Single label from to) e number around there = absurd around
fits-around labels ts (Join kids) e number around there = absurd around

pub single_fits : (text : List ℕ) (labels : List (List ℕ)) (before old new : List Entry) (last e : Entry) (number : ℕ) → old ≡ before ++ last ∷ []
    → new ≡ before ++ e ∷ [] → IsAround number last e → number < length labels → AllFit text labels [] old → AllFit text labels [] new
single_fits text labels before old new last e number was is around there all =
    let front : AllFit text labels [] before = fit_front text labels [] before last (rw was at all) in
    subst (λ (es : List Entry). AllFit text labels [] es) (sym is) (fit_more text labels [] before e front (fits-around labels (made_on text labels [] before) last e number around there))

pub single_counts : (text : List ℕ) (labels : List (List ℕ)) (before old new : List Entry) (last e : Entry) (number : ℕ) → old ≡ before ++ last ∷ []
    → new ≡ before ++ e ∷ [] → IsAround number last e → length (made_on text labels [] new) ≡ length (made_on text labels [] old)
single_counts text labels before old new (Leaf from to) e number was is around =
    ap length (made-last text labels before new e is ∙ ap (λ d. with_entry text labels (made_on text labels [] before) d) around)
    ∙ sym (ap length (made-last text labels before old (Leaf from to) was))
single_counts text labels before old new (Node label kids) e number was is around = absurd around
single_counts text labels before old new (Flat label kids) e number was is around = absurd around
single_counts text labels before old new (Single label from to) e number was is around = absurd around
single_counts text labels before old new (Join kids) e number was is around = absurd around

-- a list whose last element is another one
pub last_set : (before old : List Entry) (last e : Entry) → old ≡ before ++ last ∷ [] → slice_set old (length old - 1) e ≡ before ++ e ∷ []
last_set before old last e was =
    let place : length old - 1 ≡ length before = omega (arith, ap length was, length-append before (last ∷ [])) in
    ap (λ n. slice_set old n e) place ∙ ap (λ xs. slice_set xs (length before) e) was ∙ at_end before
  where
    at_end : (xs : List Entry) → slice_set (xs ++ last ∷ []) (length xs) e ≡ xs ++ e ∷ []
    at_end [] = refl
    at_end (x ∷ xs) = ap (λ ys. x ∷ ys) (at_end xs)
