-- The trees that kept ones show.
use Rattle.std.proofs.Common.{◌≡◌, ◌+◌, ℕ, zero, suc, Bool, true, false, cond, List, [], ◌∷◌, ◌++◌, length, ◌≤◌, take, drop, refl, ap, sym, ◌∙◌, append_assoc}
use Rattle.std.specs.Str.{bytes_eq}
use Rattle.std.proofs.lemmas.List.{take_at, drop_at, length-take-le}
use Rattle.pg_tree.specs.Trees.{Tree, Trees, leaf, node, no_trees, tree, kids_of}
use Rattle.pg_tree.specs.Built.{with_kids, flattened, tree_text, kids_text}
use Rattle.pg_tree.specs.Kept.{Kept, Kepts, kept_leaf, kept_node, no_kepts, kept, kepts_of, trees_of, tree_of, listed, AreShown, away_if, marked}
use Rattle.pg_tree.specs.Stored.{kept_texts, kepts_texts, texts_of}

-- as many trees
pub length-listed : (ts : List Kept) → length (listed ts) ≡ length ts
length-listed [] = refl
length-listed (t ∷ ts) = ap (λ n. suc n) (length-listed ts)

-- those of two lists, of the first and of the others
pub listed-append : (ts us : List Kept) → listed (ts ++ us) ≡ listed ts ++ listed us
listed-append [] us = refl
listed-append (t ∷ ts) us = ap (λ xs. tree_of t ∷ xs) (listed-append ts us)

pub listed-take : (n : ℕ) (ts : List Kept) → listed (take n ts) ≡ take n (listed ts)
listed-take zero [] = refl
listed-take zero (t ∷ ts) = refl
listed-take (suc n) [] = refl
listed-take (suc n) (t ∷ ts) = ap (λ xs. tree_of t ∷ xs) (listed-take n ts)

pub listed-drop : (n : ℕ) (ts : List Kept) → listed (drop n ts) ≡ drop n (listed ts)
listed-drop zero [] = refl
listed-drop zero (t ∷ ts) = refl
listed-drop (suc n) [] = refl
listed-drop (suc n) (t ∷ ts) = listed-drop n ts

-- none of them is taken away
pub shown-append : (ts us : List Kept) → AreShown ts → AreShown us → AreShown (ts ++ us)
shown-append [] us h k = k
shown-append (kept_leaf text ∷ ts) us h k = shown-append ts us h k
shown-append (kept_node true label kids ∷ ts) us h k = absurd h
shown-append (kept_node false label kids ∷ ts) us h k = shown-append ts us h k

pub shown-take : (n : ℕ) (ts : List Kept) → AreShown ts → AreShown (take n ts)
shown-take zero [] h = tt
shown-take zero (t ∷ ts) h = tt
shown-take (suc n) [] h = tt
shown-take (suc n) (kept_leaf text ∷ ts) h = shown-take n ts h
shown-take (suc n) (kept_node true label kids ∷ ts) h = absurd h
shown-take (suc n) (kept_node false label kids ∷ ts) h = shown-take n ts h

pub shown-drop : (n : ℕ) (ts : List Kept) → AreShown ts → AreShown (drop n ts)
shown-drop zero [] h = tt
shown-drop zero (t ∷ ts) h = h
shown-drop (suc n) [] h = tt
shown-drop (suc n) (kept_leaf text ∷ ts) h = shown-drop n ts h
shown-drop (suc n) (kept_node true label kids ∷ ts) h = absurd h
shown-drop (suc n) (kept_node false label kids ∷ ts) h = shown-drop n ts h

-- so as kids they show the same
pub trees-shown : (ts : List Kept) → AreShown ts → trees_of (kepts_of ts) ≡ kids_of (listed ts)
trees-shown [] h = refl
trees-shown (kept_leaf text ∷ ts) h = ap (λ us. tree (leaf text) us) (trees-shown ts h)
trees-shown (kept_node true label kids ∷ ts) h = absurd h
trees-shown (kept_node false label kids ∷ ts) h = ap (λ us. tree (node label (trees_of kids)) us) (trees-shown ts h)

-- a node that is taken away, or not, before others
away-step : (b : Bool) (label : List ℕ) (kids ts : Kepts) (us : Trees) → trees_of ts ≡ us
    → trees_of (kept (away_if b (kept_node false label kids)) ts) ≡ cond b (with_kids (trees_of kids) us) (tree (node label (trees_of kids)) us)
away-step true label kids ts us e = ap (λ vs. with_kids (trees_of kids) vs) e
away-step false label kids ts us e = ap (λ vs. tree (node label (trees_of kids)) vs) e

-- where the nodes of a label are taken away, the flattened kids are shown
pub trees-marked : (label : List ℕ) (ts : List Kept) → AreShown ts → trees_of (kepts_of (marked label ts)) ≡ flattened label (kids_of (listed ts))
trees-marked label [] h = refl
trees-marked label (kept_leaf text ∷ ts) h = ap (λ us. tree (leaf text) us) (trees-marked label ts h)
trees-marked label (kept_node true other kids ∷ ts) h = absurd h
trees-marked label (kept_node false other kids ∷ ts) h =
    away-step (bytes_eq other label) other kids (kepts_of (marked label ts)) (flattened label (kids_of (listed ts))) (trees-marked label ts h)

-- the texts of kids after others
text-with_kids : (ts us : Trees) → kids_text (with_kids ts us) ≡ kids_text ts ++ kids_text us
text-with_kids no_trees us = refl
text-with_kids (tree t ts) us =
    ap (λ xs. tree_text t ++ xs) (text-with_kids ts us) ∙ sym (append_assoc (tree_text t) (kids_text ts) (kids_text us))

-- the texts are those of what is shown
pub texts-shown : (ts : Kepts) → kids_text (trees_of ts) ≡ kepts_texts ts
texts-shown no_kepts = refl
texts-shown (kept (kept_leaf text) ts) = ap (λ xs. text ++ xs) (texts-shown ts)
texts-shown (kept (kept_node true label kids) ts) =
    text-with_kids (trees_of kids) (trees_of ts) ∙ ap (λ xs. xs ++ kids_text (trees_of ts)) (texts-shown kids) ∙ ap (λ xs. kepts_texts kids ++ xs) (texts-shown ts)
texts-shown (kept (kept_node false label kids) ts) =
    ap (λ xs. xs ++ kids_text (trees_of ts)) (texts-shown kids) ∙ ap (λ xs. kepts_texts kids ++ xs) (texts-shown ts)

-- what is put at the end, and what the first and the others are
pub listed-leaf : (ts : List Kept) (text : List ℕ) → listed (ts ++ kept_leaf text ∷ []) ≡ listed ts ++ leaf text ∷ []
listed-leaf ts text = listed-append ts (kept_leaf text ∷ [])

pub listed-wrapped : (ts : List Kept) (n : ℕ) (label : List ℕ) → AreShown ts
    → listed (take n ts ++ kept_node false label (kepts_of (drop n ts)) ∷ []) ≡ take n (listed ts) ++ node label (kids_of (drop n (listed ts))) ∷ []
listed-wrapped ts n label h =
    listed-append (take n ts) (kept_node false label (kepts_of (drop n ts)) ∷ [])
    ∙ ap (λ us. us ++ node label (trees_of (kepts_of (drop n ts))) ∷ []) (listed-take n ts)
    ∙ ap (λ us. take n (listed ts) ++ node label us ∷ []) (trees-shown (drop n ts) (shown-drop n ts h) ∙ ap kids_of (listed-drop n ts))

pub listed-joined : (ts : List Kept) (n : ℕ) → AreShown ts
    → listed (take n ts ++ kept_leaf (texts_of (drop n ts)) ∷ []) ≡ take n (listed ts) ++ leaf (kids_text (kids_of (drop n (listed ts)))) ∷ []
listed-joined ts n h =
    listed-append (take n ts) (kept_leaf (texts_of (drop n ts)) ∷ [])
    ∙ ap (λ us. us ++ leaf (texts_of (drop n ts)) ∷ []) (listed-take n ts)
    ∙ ap (λ text. take n (listed ts) ++ leaf text ∷ [])
    (sym (texts-shown (kepts_of (drop n ts))) ∙ ap kids_text (trees-shown (drop n ts) (shown-drop n ts h) ∙ ap kids_of (listed-drop n ts)))

-- where those after the first are marked and become kids
pub listed-flattened : (ts us : List Kept) (n : ℕ) (label : List ℕ) → AreShown ts → n ≤ length ts → us ≡ take n ts ++ marked label (drop n ts)
    → listed (take n us ++ kept_node false label (kepts_of (drop n us)) ∷ []) ≡ take n (listed ts) ++ node label (flattened label (kids_of (drop n (listed ts)))) ∷ []
listed-flattened ts us n label h within e =
    let place : length (take n ts) ≡ n = length-take-le n ts within in
    let first : take n us ≡ take n ts = ap (take n) e ∙ take_at (take n ts) (marked label (drop n ts)) n place in
    let rest : drop n us ≡ marked label (drop n ts) = ap (drop n) e ∙ drop_at (take n ts) (marked label (drop n ts)) n place in
    ap (λ vs. listed (vs ++ kept_node false label (kepts_of (drop n us)) ∷ [])) first
    ∙ ap (λ vs. listed (take n ts ++ kept_node false label (kepts_of vs) ∷ [])) rest
    ∙ listed-append (take n ts) (kept_node false label (kepts_of (marked label (drop n ts))) ∷ [])
    ∙ ap (λ vs. vs ++ node label (trees_of (kepts_of (marked label (drop n ts)))) ∷ []) (listed-take n ts)
    ∙ ap (λ vs. take n (listed ts) ++ node label vs ∷ [])
    (trees-marked label (drop n ts) (shown-drop n ts h) ∙ ap (λ vs. flattened label (kids_of vs)) (listed-drop n ts))

-- none is taken away
pub shown-leaf : (ts : List Kept) (text : List ℕ) → AreShown ts → AreShown (ts ++ kept_leaf text ∷ [])
shown-leaf ts text h = shown-append ts (kept_leaf text ∷ []) h tt

pub shown-wrapped-taken : (ts : List Kept) (n : ℕ) (label : List ℕ) (kids : Kepts) → AreShown (take n ts) → AreShown (take n ts ++ kept_node false label kids ∷ [])
shown-wrapped-taken ts n label kids h = shown-append (take n ts) (kept_node false label kids ∷ []) h tt

pub shown-wrapped : (ts : List Kept) (n : ℕ) (label : List ℕ) (kids : Kepts) → AreShown ts → AreShown (take n ts ++ kept_node false label kids ∷ [])
shown-wrapped ts n label kids h = shown-append (take n ts) (kept_node false label kids ∷ []) (shown-take n ts h) tt

-- the first of those of which the others are marked
pub take-marked : (ts us : List Kept) (n : ℕ) (label : List ℕ) → n ≤ length ts → us ≡ take n ts ++ marked label (drop n ts) → take n us ≡ take n ts
take-marked ts us n label within e = ap (take n) e ∙ take_at (take n ts) (marked label (drop n ts)) n (length-take-le n ts within)
