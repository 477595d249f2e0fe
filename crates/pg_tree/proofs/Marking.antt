-- Labels of stored trees, and nodes that are taken away where they lie.
use Rattle.std.proofs.Common.{◌≡◌, ◌+◌, ◌-◌, ◌≤◌, ◌<◌, ℕ, zero, suc, Bool, true, false, List, [], ◌∷◌, ◌++◌, length, take, drop, get_or, set, refl, ap, sym, ◌∙◌, arith, append_assoc}
use Rattle.std.specs.Str.{bytes_eq}
use Rattle.std.proofs.lemmas.List.{append-nil, length-append, set_at, take_at, drop_at, take-append-drop, drop_more, take_more, length-take-le, get_or_at, take-append-le, take-take, length-drop, drop_all, take_all}
use Rattle.pg_tree.specs.declared.entry.Entry.{Entry}
use Rattle.pg_tree.specs.declared.entry.Entry.TheVariants.{Leaf, Node}
use Rattle.pg_tree.specs.declared.entry.Extent.{Extent}
use Rattle.pg_tree.specs.Kept.{Kept, kept_leaf, kept_node, has_label, put_away, away_if, marked}
use Rattle.pg_tree.specs.Stored.{IsStored, kept_texts, kept_labels, kepts_labels, kept_entries, entries_of, texts_of, labels_of, entry_away, IsEndOf}
use Rattle.pg_tree.proofs.Stored.{entries_of-append, texts_of-append, labels_of-append}
use Rattle.pg_tree.proofs.Ends.{top, below_top, top-at, around-top, labels_of-more, labels_of-parts, end_as, end-same}

-- a leaf has no label
pub label-leaf : (t : Kept) (n : ℕ) (label : List ℕ) → Leaf n ≡ top t → false ≡ has_label label t
label-leaf (kept_leaf text) n label e = refl
label-leaf (kept_node away other kids) n label e = let wrong : ⊥ = cc in absurd wrong

-- where the label of a tree stands, whose last entry is a node
own_label : (ts : List Kept) (k : ℕ) (end : Extent) (ls : List ℕ) (t : Kept) (a : Bool) (c n x l : ℕ) → IsEndOf ts (k + 1) end → ls ≡ labels_of ts
    → t ≡ get_or ts k (kept_leaf []) → Node a c n x l ≡ top t
    → (front own rest : List ℕ) × (ls ≡ front ++ (own ++ rest)) × (length own ≡ c) × (end.labels ≡ length front + c)
    × ((label : List ℕ) → bytes_eq own label ≡ has_label label t)
own_label ts k end ls (kept_leaf text) a c n x l h e is top = let wrong : ⊥ = cc in absurd wrong
own_label ts k end ls (kept_node away other kids) a c n x l h e is top =
    let within : k < length ts = omega (arith, h.within) in
    let rest = labels_of (drop (k + 1) ts) in
    let front = labels_of (take k ts) ++ kepts_labels kids in
    let own : c ≡ length other = cc in
    let first : labels_of (take (k + 1) ts) ≡ front ++ other =
    labels_of-more ts k (kept_leaf []) within ∙ ap (λ t. labels_of (take k ts) ++ kept_labels t) (sym is)
    ∙ sym (append_assoc (labels_of (take k ts)) (kepts_labels kids) other) in (
      front,
      other,
      rest,
      e ∙ labels_of-parts ts (k + 1) ∙ ap (λ own. own ++ rest) first ∙ append_assoc front other rest,
      sym own,
      h.labels_are ∙ ap length first ∙ length-append front other ∙ ap (λ n. length front + n) (sym own),
      λ label. refl,
    )

pub label-room : (ts : List Kept) (k : ℕ) (end : Extent) (ls : List ℕ) (a : Bool) (c n x l : ℕ) → IsEndOf ts (k + 1) end → ls ≡ labels_of ts
    → Node a c n x l ≡ top (get_or ts k (kept_leaf [])) → (c ≤ end.labels) × (end.labels ≤ length ls)
label-room ts k end ls a c n x l h e top =
    let (front, own, rest, all, long, size, is) = own_label ts k end ls (get_or ts k (kept_leaf [])) a c n x l h e refl top in
    (omega (arith, size), omega (arith, size, long, ap length all, length-append front (own ++ rest), length-append own rest))

-- it is compared with a label
pub label-same : (ts : List Kept) (k : ℕ) (end : Extent) (ls label : List ℕ) (a : Bool) (c n x l : ℕ) → IsEndOf ts (k + 1) end → ls ≡ labels_of ts
    → Node a c n x l ≡ top (get_or ts k (kept_leaf [])) → bytes_eq (take (end.labels - (end.labels - c)) (drop (end.labels - c) ls)) label ≡ has_label label (get_or ts k (kept_leaf []))
label-same ts k end ls label a c n x l h e top =
    let (front, own, rest, all, long, size, is) = own_label ts k end ls (get_or ts k (kept_leaf [])) a c n x l h e refl top in
    let place : length front ≡ end.labels - c = omega (arith, size) in
    let count : length own ≡ end.labels - (end.labels - c) = omega (arith, size, long) in
    ap (λ xs. bytes_eq (take (end.labels - (end.labels - c)) (drop (end.labels - c) xs)) label) all
    ∙ ap (λ xs. bytes_eq (take (end.labels - (end.labels - c)) xs) label) (drop_at front (own ++ rest) (end.labels - c) place)
    ∙ ap (λ xs. bytes_eq xs label) (take_at own rest (end.labels - (end.labels - c)) count)
    ∙ is label

-- a tree that is taken away has the same entries, but the last, and the same texts and labels
entries-away : (t : Kept) → kept_entries (put_away t) ≡ below_top t ++ entry_away (top t) ∷ []
entries-away (kept_leaf text) = refl
entries-away (kept_node away label kids) = refl

texts-away : (t : Kept) → kept_texts (put_away t) ≡ kept_texts t
texts-away (kept_leaf text) = refl
texts-away (kept_node away label kids) = refl

labels-away : (t : Kept) → kept_labels (put_away t) ≡ kept_labels t
labels-away (kept_leaf text) = refl
labels-away (kept_node away label kids) = refl

-- a list with another tree at a place
pub set-parts : (ts : List Kept) (k : ℕ) (t : Kept) → k < length ts → set ts k t ≡ take k ts ++ t ∷ drop (k + 1) ts
set-parts ts k t h =
    let all : ts ≡ take k ts ++ get_or ts k t ∷ drop (k + 1) ts = sym (take-append-drop k ts) ∙ ap (λ us. take k ts ++ us) (drop_more ts k t h) in
    ap (λ us. set us k t) all ∙ set_at (take k ts) (get_or ts k t) (drop (k + 1) ts) t k (length-take-le k ts (omega (arith, h)))

parts-at : (ts : List Kept) (k : ℕ) → k < length ts → ts ≡ take k ts ++ get_or ts k (kept_leaf []) ∷ drop (k + 1) ts
parts-at ts k h = sym (take-append-drop k ts) ∙ ap (λ us. take k ts ++ us) (drop_more ts k (kept_leaf []) h)

-- where its last entry is changed, the tree is taken away
pub stored-away : (es fs : List Entry) (xs ls : List ℕ) (n : ℕ) (ts : List Kept) (k : ℕ) (end : Extent) (x y d : Entry) → IsStored es xs ls n ts
    → IsEndOf ts (k + 1) end → x ≡ get_or es (end.entries - 1) d → y ≡ entry_away x → fs ≡ set es (end.entries - 1) y
    → IsStored fs xs ls n (set ts k (put_away (get_or ts k (kept_leaf []))))
stored-away es fs xs ls n ts k end x y d h ends is away e =
    let t = get_or ts k (kept_leaf []) in
    let within : k < length ts = omega (arith, ends.within) in
    let front = take k ts in
    let rest = drop (k + 1) ts in
    let parts : set ts k (put_away t) ≡ front ++ put_away t ∷ rest = set-parts ts k (put_away t) within in
    let whole : ts ≡ front ++ t ∷ rest = parts-at ts k within in
    let (all, place) = around-top ts k end es ends h.entries_are in
    let last : x ≡ top t = top-at ts k end es x d ends h.entries_are is in
    record {
      entries_are =
          e ∙ ap (λ own. set own (end.entries - 1) y) all
          ∙ set_at (entries_of front ++ below_top t) (top t) (entries_of rest) y (end.entries - 1) place
          ∙ append_assoc (entries_of front) (below_top t) (y ∷ entries_of rest)
          ∙ ap (λ own. entries_of front ++ own) (sym (append_assoc (below_top t) (y ∷ []) (entries_of rest)))
          ∙ ap (λ own. entries_of front ++ ((below_top t ++ own ∷ []) ++ entries_of rest)) (away ∙ ap entry_away last)
          ∙ ap (λ own. entries_of front ++ (own ++ entries_of rest)) (sym (entries-away t))
          ∙ sym (entries_of-append front (put_away t ∷ rest)) ∙ ap entries_of (sym parts);
      texts_are =
          h.texts_are ∙ ap texts_of whole ∙ texts_of-append front (t ∷ rest) ∙ ap (λ own. texts_of front ++ (own ++ texts_of rest)) (sym (texts-away t))
          ∙ sym (texts_of-append front (put_away t ∷ rest)) ∙ ap texts_of (sym parts);
      labels_are =
          h.labels_are ∙ ap labels_of whole ∙ labels_of-append front (t ∷ rest) ∙ ap (λ own. labels_of front ++ (own ++ labels_of rest)) (sym (labels-away t))
          ∙ sym (labels_of-append front (put_away t ∷ rest)) ∙ ap labels_of (sym parts);
      roots_are = h.roots_are ∙ ap length whole ∙ length-append front (t ∷ rest) ∙ sym (length-append front (put_away t ∷ rest)) ∙ ap length (sym parts);
    }

-- a tree stays that stays
pub stored-same : (es : List Entry) (xs ls : List ℕ) (n : ℕ) (ts : List Kept) (k : ℕ) (end : Extent) → IsStored es xs ls n ts → IsEndOf ts (k + 1) end
    → IsStored es xs ls n (set ts k (get_or ts k (kept_leaf [])))
stored-same es xs ls n ts k end h ends =
    let within : k < length ts = omega (arith, ends.within) in
    let same : set ts k (get_or ts k (kept_leaf [])) ≡ ts = set-parts ts k (get_or ts k (kept_leaf [])) within ∙ sym (parts-at ts k within) in
    rw same h

-- trees of which those after some are marked
pub length-marked : (label : List ℕ) (ts : List Kept) → length (marked label ts) ≡ length ts
length-marked label [] = refl
length-marked label (t ∷ ts) = ap (λ n. suc n) (length-marked label ts)

abbrev pub marked_after : List ℕ → ℕ → List Kept → List Kept
marked_after label k ts = take k ts ++ marked label (drop k ts)

pub length-marked_after : (label : List ℕ) (k : ℕ) (ts : List Kept) → k ≤ length ts → length (marked_after label k ts) ≡ length ts
length-marked_after label k ts h =
    omega (
      arith,
      h,
      length-append (take k ts) (marked label (drop k ts)),
      length-marked label (drop k ts),
      length-drop k ts,
      length-take-le k ts h,
    )

pub take-marked_after : (label : List ℕ) (n k : ℕ) (ts : List Kept) → k ≤ length ts → n ≤ k → take n (marked_after label k ts) ≡ take n ts
take-marked_after label n k ts h within =
    take-append-le n (take k ts) (marked label (drop k ts)) (omega (arith, within, length-take-le k ts h)) ∙ take-take n k ts within

-- none after all of them
pub marked_none : (label : List ℕ) (k : ℕ) (ts : List Kept) → k ≡ length ts → ts ≡ marked_after label k ts
marked_none label k ts e =
    sym (append-nil ts) ∙ ap (λ us. us ++ []) (sym (take_all k ts (omega (arith, e))))
    ∙ ap (λ us. take k ts ++ marked label us) (sym (drop_all k ts (omega (arith, e))))

-- one more
pub marked-more : (label : List ℕ) (k : ℕ) (ts us : List Kept) → k < length ts → us ≡ marked_after label (k + 1) ts
    → set us k (away_if (has_label label (get_or us k (kept_leaf []))) (get_or us k (kept_leaf []))) ≡ marked_after label k ts
marked-more label k ts us h e =
    let t = get_or ts k (kept_leaf []) in
    let rest = marked label (drop (k + 1) ts) in
    let place : length (take k ts) ≡ k = length-take-le k ts (omega (arith, h)) in
    let all : us ≡ take k ts ++ t ∷ rest =
    e ∙ ap (λ vs. vs ++ rest) (take_more ts k (kept_leaf []) h) ∙ append_assoc (take k ts) (t ∷ []) rest in
    let own : get_or us k (kept_leaf []) ≡ t = ap (λ vs. get_or vs k (kept_leaf [])) all ∙ get_or_at (take k ts) t rest (kept_leaf []) k place in
    ap (λ v. set us k (away_if (has_label label v) v)) own
    ∙ ap (λ vs. set vs k (away_if (has_label label t) t)) all
    ∙ set_at (take k ts) t rest (away_if (has_label label t) t) k place
    ∙ ap (λ vs. take k ts ++ marked label vs) (sym (drop_more ts k (kept_leaf []) h))

-- where the marked trees end, and those before them
pub marking-ends : (label : List ℕ) (left k : ℕ) (ts us : List Kept) (end : Extent) → us ≡ marked_after label left ts → left ≤ length ts → left ≡ k + 1
    → IsEndOf ts left end → IsEndOf us (k + 1) end
marking-ends label left k ts us end e within more h =
    let first : take left us ≡ take left ts = ap (λ vs. take left vs) e ∙ take-marked_after label left left ts within (omega arith) in
    let long : left ≤ length us = omega (arith, within, ap length e, length-marked_after label left ts within) in
    end_as us left (k + 1) end (end-same ts us left end h first long) more

pub marking-begins : (label : List ℕ) (left k : ℕ) (ts us : List Kept) (begin : Extent) → us ≡ marked_after label left ts → left ≤ length ts → left ≡ k + 1
    → IsEndOf us k begin → IsEndOf ts k begin
marking-begins label left k ts us begin e within more h =
    let first : take k us ≡ take k ts = ap (λ vs. take k vs) e ∙ take-marked_after label k left ts within (omega (arith, more)) in
    end-same us ts k begin h (sym first) (omega (arith, within, more))

-- one more is marked in the store
pub stored-more : (es : List Entry) (xs ls label : List ℕ) (n left k : ℕ) (ts us : List Kept) → left ≡ k + 1 → left ≤ length ts → us ≡ marked_after label left ts
    → IsStored es xs ls n (set us k (away_if (has_label label (get_or us k (kept_leaf []))) (get_or us k (kept_leaf [])))) → IsStored es xs ls n (marked_after label k ts)
stored-more es xs ls label n left k ts us more within e h =
    let all : us ≡ marked_after label (k + 1) ts = e ∙ ap (λ m. marked_after label m ts) more in
    rw (sym (marked-more label k ts us (omega (arith, more, within)) all)) h

-- a tree that is marked by a test
pub stored-if : (b : Bool) (es fs : List Entry) (xs ls : List ℕ) (n : ℕ) (ts : List Kept) (k : ℕ) → b ≡ true
    → IsStored fs xs ls n (set ts k (put_away (get_or ts k (kept_leaf [])))) → IsStored fs xs ls n (set ts k (away_if b (get_or ts k (kept_leaf []))))
stored-if true es fs xs ls n ts k e h = h
stored-if false es fs xs ls n ts k e h = let wrong : ⊥ = cc in absurd wrong

pub stored-unless : (b : Bool) (es : List Entry) (xs ls : List ℕ) (n : ℕ) (ts : List Kept) (k : ℕ) → b ≡ false
    → IsStored es xs ls n (set ts k (get_or ts k (kept_leaf []))) → IsStored es xs ls n (set ts k (away_if b (get_or ts k (kept_leaf []))))
stored-unless true es xs ls n ts k e h = let wrong : ⊥ = cc in absurd wrong
stored-unless false es xs ls n ts k e h = h
