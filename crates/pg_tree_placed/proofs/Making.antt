-- What a step more, and a label more, do to the trees that are made.
use Rattle.std.proofs.Common.{◌≡◌, ◌<◌, ◌≤◌, ◌+◌, ◌-◌, ℕ, suc, List, [], ◌∷◌, ◌++◌, length, take, drop, refl, ap, sym, ◌∙◌, arith}
use Rattle.std.proofs.lemmas.List.{get_or_append_left, length-append, length-reverse, length-drop, take-append-drop, reverse-append, drop_at, take_at, drop-drop}
use Rattle.std.specs.Prelude.{reverse, encode_utf8_all}
use Rattle.pg_tree.specs.Trees.{Tree, Trees, leaf, node, no_trees, tree, kids_of}
use Rattle.pg_tree.specs.Built.{flattened}
use Rattle.pg_tree_placed.specs.declared.entry.Entry.{Entry}
use Rattle.pg_tree_placed.specs.declared.entry.Entry.TheVariants.{Leaf, Node, Flat, Single, Join}
use Rattle.pg_tree_placed.specs.Made.{text_between, kids_taken, kids_from, IsPlacedAt, tree_made, with_entry, IsNamed, made_on, Fits, AllFit}

-- one step more
pub made_more : (text : List ℕ) (labels : List (List ℕ)) (ts : List Tree) (es : List Entry) (e : Entry)
    → made_on text labels ts (es ++ e ∷ []) ≡ with_entry text labels (made_on text labels ts es) e
made_more text labels ts [] e = refl
made_more text labels ts (d ∷ es) e = made_more text labels (with_entry text labels ts d) es e

pub fit_more : (text : List ℕ) (labels : List (List ℕ)) (ts : List Tree) (es : List Entry) (e : Entry)
    → AllFit text labels ts es → Fits labels (made_on text labels ts es) e → AllFit text labels ts (es ++ e ∷ [])
fit_more text labels ts [] e all it = (it, tt)
fit_more text labels ts (d ∷ es) e all it = (all.0, fit_more text labels (with_entry text labels ts d) es e all.1 it)

-- one step less
pub fit_front : (text : List ℕ) (labels : List (List ℕ)) (ts : List Tree) (es : List Entry) (e : Entry)
    → AllFit text labels ts (es ++ e ∷ []) → AllFit text labels ts es
fit_front text labels ts [] e all = tt
fit_front text labels ts (d ∷ es) e all = (all.0, fit_front text labels (with_entry text labels ts d) es e all.1)

pub fit_last : (text : List ℕ) (labels : List (List ℕ)) (ts : List Tree) (es : List Entry) (e : Entry)
    → AllFit text labels ts (es ++ e ∷ []) → Fits labels (made_on text labels ts es) e
fit_last text labels ts [] e all = all.0
fit_last text labels ts (d ∷ es) e all = fit_last text labels (with_entry text labels ts d) es e all.1

-- more labels
made-labels-tree : (text : List ℕ) (labels more : List (List ℕ)) (ks : Trees) (e : Entry) → IsNamed labels e
    → tree_made text (labels ++ more) ks e ≡ tree_made text labels ks e
made-labels-tree text labels more ks (Leaf from to) it = refl
made-labels-tree text labels more ks (Node label kids) it = ap (λ l. node l ks) (get_or_append_left labels more [] label it)
made-labels-tree text labels more ks (Flat label kids) it = ap (λ l. node l (flattened l ks)) (get_or_append_left labels more [] label it)
made-labels-tree text labels more ks (Single label from to) it =
    ap (λ l. node l (tree (leaf (text_between text from to)) no_trees)) (get_or_append_left labels more [] label it)
made-labels-tree text labels more ks (Join kids) it = refl

with_entry-labels : (text : List ℕ) (labels more : List (List ℕ)) (ts : List Tree) (e : Entry)
    → Fits labels ts e → with_entry text (labels ++ more) ts e ≡ with_entry text labels ts e
with_entry-labels text labels more ts e it = ap (λ t. t ∷ drop (kids_taken e) ts) (made-labels-tree text labels more (kids_from (kids_taken e) ts) e it.0)

named-labels : (labels more : List (List ℕ)) (e : Entry) → IsNamed labels e → IsNamed (labels ++ more) e
named-labels labels more (Leaf from to) it = tt
named-labels labels more (Node label kids) it = omega (arith, length-append labels more, it)
named-labels labels more (Flat label kids) it = omega (arith, length-append labels more, it)
named-labels labels more (Single label from to) it = omega (arith, length-append labels more, it)
named-labels labels more (Join kids) it = tt

fits-labels : (labels more : List (List ℕ)) (ts : List Tree) (e : Entry) → Fits labels ts e → Fits (labels ++ more) ts e
fits-labels labels more ts e it = (named-labels labels more e it.0, it.1)

pub made_labels : (text : List ℕ) (labels more : List (List ℕ)) (ts : List Tree) (es : List Entry)
    → AllFit text labels ts es → made_on text (labels ++ more) ts es ≡ made_on text labels ts es
made_labels text labels more ts [] all = refl
made_labels text labels more ts (e ∷ es) all =
    ap (λ us. made_on text (labels ++ more) us es) (with_entry-labels text labels more ts e all.0)
    ∙ made_labels text labels more (with_entry text labels ts e) es all.1

pub fit_labels : (text : List ℕ) (labels more : List (List ℕ)) (ts : List Tree) (es : List Entry)
    → AllFit text labels ts es → AllFit text (labels ++ more) ts es
fit_labels text labels more ts [] all = tt
fit_labels text labels more ts (e ∷ es) all =
    (fits-labels labels more ts e all.0, rw (with_entry-labels text labels more ts e all.0) (fit_labels text labels more (with_entry text labels ts e) es all.1))

-- a node's kids are the trees after the first `count`, and those trees stay
pub kids_after : (ts : List Tree) (count kids : ℕ) → count + kids ≡ length ts → reverse (take kids ts) ≡ drop count (reverse ts)
kids_after ts count kids e =
    let split : reverse ts ≡ reverse (drop kids ts) ++ reverse (take kids ts) =
    ap (λ us. reverse us) (sym (take-append-drop kids ts)) ∙ reverse-append (take kids ts) (drop kids ts) in
    sym (ap (λ us. drop count us) split ∙ drop_at (reverse (drop kids ts)) (reverse (take kids ts)) count
    (length-reverse (drop kids ts) ∙ omega (arith, length-drop kids ts, e)))

pub rest_before : (ts : List Tree) (count kids : ℕ) → count + kids ≡ length ts → reverse (drop kids ts) ≡ take count (reverse ts)
rest_before ts count kids e =
    let split : reverse ts ≡ reverse (drop kids ts) ++ reverse (take kids ts) =
    ap (λ us. reverse us) (sym (take-append-drop kids ts)) ∙ reverse-append (take kids ts) (drop kids ts) in
    sym (ap (λ us. take count us) split ∙ take_at (reverse (drop kids ts)) (reverse (take kids ts)) count
    (length-reverse (drop kids ts) ∙ omega (arith, length-drop kids ts, e)))

-- before a step that was made, the trees after the first `count` of them are those that it took and those that it left
pub cut_one : (text : List ℕ) (labels : List (List ℕ)) (ts : List Tree) (e : Entry) (count : ℕ) → Fits labels ts e → count < length (with_entry text labels ts e)
    → (length (with_entry text labels ts e) - 1 + kids_taken e ≡ length ts) × (count ≤ length ts)
    × (drop (length ts - count) ts ≡ drop (length (with_entry text labels ts e) - count) (with_entry text labels ts e))
cut_one text labels ts e count it below =
    let k = kids_taken e in
    let n = length (drop k ts) in
    let is : n ≡ length ts - k = length-drop k ts in (
      omega (arith, it.1, is, below),
      omega (arith, it.1, is, below),
      sym (ap (λ m. drop m (with_entry text labels ts e)) (let s : suc n - count ≡ suc (n - count) = omega (arith, below) in s)
          ∙ drop-drop (n - count) k ts ∙ ap (λ m. drop m ts) (omega (arith, it.1, is, below))),
    )

-- what a step makes of trees in order
pub wrapped : (text : List ℕ) (labels : List (List ℕ)) (e : Entry) (ts : List Tree) (count : ℕ) → count + kids_taken e ≡ length ts
    → reverse (with_entry text labels ts e) ≡ take count (reverse ts) ++ tree_made text labels (kids_of (drop count (reverse ts))) e ∷ []
wrapped text labels e ts count is =
    let k = kids_taken e in
    reverse-append (tree_made text labels (kids_from k ts) e ∷ []) (drop k ts)
    ∙ ap (λ us. us ++ tree_made text labels (kids_from k ts) e ∷ []) (rest_before ts count k is)
    ∙ ap (λ us. take count (reverse ts) ++ tree_made text labels (kids_of us) e ∷ []) (kids_after ts count k is)

-- a leaf more
pub leaf_more : (text characters : List ℕ) (labels : List (List ℕ)) (ts : List Tree) (e : Entry) → IsPlacedAt text characters e
    → reverse (with_entry text labels ts e) ≡ reverse ts ++ leaf (encode_utf8_all characters) ∷ []
leaf_more text characters labels ts (Leaf from to) is =
    reverse-append (leaf (text_between text from to) ∷ []) ts ∙ ap (λ bytes. reverse ts ++ leaf bytes ∷ []) is
leaf_more text characters labels ts (Node label kids) is = absurd is
leaf_more text characters labels ts (Flat label kids) is = absurd is
leaf_more text characters labels ts (Single label from to) is = absurd is
leaf_more text characters labels ts (Join kids) is = absurd is

pub leaf_fits : (text characters : List ℕ) (labels : List (List ℕ)) (ts : List Tree) (e : Entry) → IsPlacedAt text characters e → Fits labels ts e
leaf_fits text characters labels ts (Leaf from to) is = (tt, omega arith)
leaf_fits text characters labels ts (Node label kids) is = absurd is
leaf_fits text characters labels ts (Flat label kids) is = absurd is
leaf_fits text characters labels ts (Single label from to) is = absurd is
leaf_fits text characters labels ts (Join kids) is = absurd is

pub leaf_counts : (text characters : List ℕ) (labels : List (List ℕ)) (ts : List Tree) (e : Entry) → IsPlacedAt text characters e
    → length (with_entry text labels ts e) ≡ length ts + 1
leaf_counts text characters labels ts (Leaf from to) is = omega arith
leaf_counts text characters labels ts (Node label kids) is = absurd is
leaf_counts text characters labels ts (Flat label kids) is = absurd is
leaf_counts text characters labels ts (Single label from to) is = absurd is
leaf_counts text characters labels ts (Join kids) is = absurd is

-- a step that takes no trees
pub with_none : (text : List ℕ) (labels : List (List ℕ)) (ts : List Tree) (e : Entry) → kids_taken e ≡ 0
    → with_entry text labels ts e ≡ tree_made text labels no_trees e ∷ ts
with_none text labels ts e is = ap (λ n. tree_made text labels (kids_from n ts) e ∷ drop n ts) is

-- no more trees than steps
pub made_short : (text : List ℕ) (labels : List (List ℕ)) (ts : List Tree) (es : List Entry) → length (made_on text labels ts es) ≤ length ts + length es
made_short text labels ts [] = omega arith
made_short text labels ts (e ∷ es) = omega (arith, length-drop (kids_taken e) ts, made_short text labels (with_entry text labels ts e) es)

-- the trees after the first `count` of some, from the back
abbrev pub later_than : ℕ → List Tree → List Tree
later_than count ts = drop (length ts - count) ts

-- one step less, where more than `count` trees are there
pub record Uncovered (text : List ℕ) (labels : List (List ℕ)) (old es : List Entry) (count roots : ℕ) : Type 0 where
  pub counted : roots ≡ length (made_on text labels [] es)
  pub all_fit : AllFit text labels [] es
  pub within : count ≤ roots
  pub same : later_than count (made_on text labels [] es) ≡ later_than count (made_on text labels [] old)
  pub short : roots ≤ length es

pub uncovered : (text : List ℕ) (labels : List (List ℕ)) (old es : List Entry) (e : Entry) (count roots : ℕ) → old ≡ es ++ e ∷ [] → AllFit text labels [] old
    → roots ≡ length (made_on text labels [] old) → count < roots → Uncovered text labels old es count (roots - 1 + kids_taken e)
uncovered text labels old es e count roots was all counted below =
    let ts = made_on text labels [] es in
    let m : made_on text labels [] old ≡ with_entry text labels ts e = ap (λ xs. made_on text labels [] xs) was ∙ made_more text labels [] es e in
    let fit : AllFit text labels [] (es ++ e ∷ []) = rw was at all in
    let one = cut_one text labels ts e count (fit_last text labels [] es e fit) (omega (arith, below, counted, ap length m)) in
    let is : roots - 1 + kids_taken e ≡ length ts = ap (λ n. n - 1 + kids_taken e) (counted ∙ ap length m) ∙ one.0 in
    record {
      counted = is;
      all_fit = fit_front text labels [] es e fit;
      within = omega (arith, is, one.1);
      same = one.2 ∙ ap (λ us. later_than count us) (sym m);
      short = omega (arith, is, made_short text labels [] es);
    }

-- the trees that are left in the end are the first `count`
pub cut_down : (us ts : List Tree) (count : ℕ) → length us ≡ count → count ≤ length ts → later_than count us ≡ later_than count ts → reverse us ≡ take count (reverse ts)
cut_down us ts count n within same =
    ap (λ xs. reverse xs) (ap (λ m. drop m us) (let z : 0 ≡ length us - count = omega (arith, n) in z) ∙ same)
    ∙ rest_before ts count (length ts - count) (omega (arith, within))
