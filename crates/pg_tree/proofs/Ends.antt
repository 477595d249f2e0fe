-- Where stored trees end, and what stands there.
use Rattle.std.proofs.Common.{◌≡◌, ◌+◌, ◌-◌, ◌≤◌, ◌<◌, ℕ, zero, suc, Bool, false, List, [], ◌∷◌, ◌++◌, length, take, drop, get_or, refl, ap, sym, ◌∙◌, arith, append_assoc}
use Rattle.std.proofs.lemmas.List.{append-nil, get_or_at, length-append, take-append-drop, take_more, length_push, take_at, drop_at, length-take-le, length-drop}
use Rattle.pg_tree.specs.declared.entry.Entry.{Entry}
use Rattle.pg_tree.specs.declared.entry.Entry.TheVariants.{Leaf, Node}
use Rattle.pg_tree.specs.declared.entry.Extent.{Extent}
use Rattle.pg_tree.specs.Kept.{Kept, kept_leaf, kept_node, kepts_of}
use Rattle.pg_tree.specs.Stored.{IsStored, kept_texts, kepts_texts, kept_labels, kepts_labels, kept_entries, kepts_entries, entries_of, texts_of, labels_of, extent_of, IsEndOf}
use Rattle.pg_tree.proofs.Stored.{entries_of-append, texts_of-append, labels_of-append, kept_entries-positive}

-- the last entry of a tree, and those before it
abbrev pub top : Kept → Entry
top (kept_leaf text) = Leaf (length text)
top (kept_node away label kids) = Node away (length label) (length (kepts_texts kids)) (length (kepts_entries kids) + 1) (length (kepts_labels kids ++ label))

abbrev pub below_top : Kept → List Entry
below_top (kept_leaf text) = []
below_top (kept_node away label kids) = kepts_entries kids

pub kept_entries-top : (t : Kept) → kept_entries t ≡ below_top t ++ top t ∷ []
kept_entries-top (kept_leaf text) = refl
kept_entries-top (kept_node away label kids) = refl

-- it says how large the tree is
pub entries-top : (t : Kept) → (extent_of (top t)).entries ≡ length (kept_entries t)
entries-top (kept_leaf text) = refl
entries-top (kept_node away label kids) = sym (length_push (kepts_entries kids) (top (kept_node away label kids)))

pub texts-top : (t : Kept) → (extent_of (top t)).texts ≡ length (kept_texts t)
texts-top (kept_leaf text) = refl
texts-top (kept_node away label kids) = refl

pub labels-top : (t : Kept) → (extent_of (top t)).labels ≡ length (kept_labels t)
labels-top (kept_leaf text) = refl
labels-top (kept_node away label kids) = refl

-- one tree more
pub entries_of-more : (ts : List Kept) (k : ℕ) (d : Kept) → k < length ts
    → entries_of (take (k + 1) ts) ≡ entries_of (take k ts) ++ kept_entries (get_or ts k d)
entries_of-more ts k d h =
    ap entries_of (take_more ts k d h) ∙ entries_of-append (take k ts) (get_or ts k d ∷ [])
    ∙ ap (λ es. entries_of (take k ts) ++ es) (append-nil (kept_entries (get_or ts k d)))

pub texts_of-more : (ts : List Kept) (k : ℕ) (d : Kept) → k < length ts
    → texts_of (take (k + 1) ts) ≡ texts_of (take k ts) ++ kept_texts (get_or ts k d)
texts_of-more ts k d h =
    ap texts_of (take_more ts k d h) ∙ texts_of-append (take k ts) (get_or ts k d ∷ [])
    ∙ ap (λ xs. texts_of (take k ts) ++ xs) (append-nil (kept_texts (get_or ts k d)))

pub labels_of-more : (ts : List Kept) (k : ℕ) (d : Kept) → k < length ts
    → labels_of (take (k + 1) ts) ≡ labels_of (take k ts) ++ kept_labels (get_or ts k d)
labels_of-more ts k d h =
    ap labels_of (take_more ts k d h) ∙ labels_of-append (take k ts) (get_or ts k d ∷ [])
    ∙ ap (λ ls. labels_of (take k ts) ++ ls) (append-nil (kept_labels (get_or ts k d)))

-- the first trees, and the others
pub entries_of-parts : (ts : List Kept) (n : ℕ) → entries_of ts ≡ entries_of (take n ts) ++ entries_of (drop n ts)
entries_of-parts ts n = ap entries_of (sym (take-append-drop n ts)) ∙ entries_of-append (take n ts) (drop n ts)

pub texts_of-parts : (ts : List Kept) (n : ℕ) → texts_of ts ≡ texts_of (take n ts) ++ texts_of (drop n ts)
texts_of-parts ts n = ap texts_of (sym (take-append-drop n ts)) ∙ texts_of-append (take n ts) (drop n ts)

pub labels_of-parts : (ts : List Kept) (n : ℕ) → labels_of ts ≡ labels_of (take n ts) ++ labels_of (drop n ts)
labels_of-parts ts n = ap labels_of (sym (take-append-drop n ts)) ∙ labels_of-append (take n ts) (drop n ts)

-- an end is within what is stored
pub end_entries-le : (ts : List Kept) (n : ℕ) (end : Extent) (es : List Entry) → IsEndOf ts n end → es ≡ entries_of ts → end.entries ≤ length es
end_entries-le ts n end es h e =
    omega (arith, h.entries_are, ap length (e ∙ entries_of-parts ts n), length-append (entries_of (take n ts)) (entries_of (drop n ts)))

pub end_texts-le : (ts : List Kept) (n : ℕ) (end : Extent) (xs : List ℕ) → IsEndOf ts n end → xs ≡ texts_of ts → end.texts ≤ length xs
end_texts-le ts n end xs h e =
    omega (arith, h.texts_are, ap length (e ∙ texts_of-parts ts n), length-append (texts_of (take n ts)) (texts_of (drop n ts)))

pub end_labels-le : (ts : List Kept) (n : ℕ) (end : Extent) (ls : List ℕ) → IsEndOf ts n end → ls ≡ labels_of ts → end.labels ≤ length ls
end_labels-le ts n end ls h e =
    omega (arith, h.labels_are, ap length (e ∙ labels_of-parts ts n), length-append (labels_of (take n ts)) (labels_of (drop n ts)))

-- no trees end at once
pub end-none : (ts : List Kept) (n : ℕ) → n ≡ 0 → IsEndOf ts n record { entries = 0; texts = 0; labels = 0 }
end-none ts n e = record {
  within = omega (arith, e);
  entries_are = ap (λ m. length (entries_of (take m ts))) (sym e);
  texts_are = ap (λ m. length (texts_of (take m ts))) (sym e);
  labels_are = ap (λ m. length (labels_of (take m ts))) (sym e);
}

-- a tree takes up what its last entry says
pub end-more : (ts : List Kept) (k : ℕ) (end size : Extent) → IsEndOf ts (k + 1) end → size ≡ extent_of (top (get_or ts k (kept_leaf [])))
    → (end.entries ≡ length (entries_of (take k ts)) + size.entries) × (end.texts ≡ length (texts_of (take k ts)) + size.texts)
    × (end.labels ≡ length (labels_of (take k ts)) + size.labels)
end-more ts k end size h e =
    let t = get_or ts k (kept_leaf []) in
    let within : k < length ts = omega (arith, h.within) in (
      h.entries_are ∙ ap length (entries_of-more ts k (kept_leaf []) within) ∙ length-append (entries_of (take k ts)) (kept_entries t)
          ∙ ap (λ n. length (entries_of (take k ts)) + n) (sym (ap (λ x. x.entries) e ∙ entries-top t)),
      h.texts_are ∙ ap length (texts_of-more ts k (kept_leaf []) within) ∙ length-append (texts_of (take k ts)) (kept_texts t)
          ∙ ap (λ n. length (texts_of (take k ts)) + n) (sym (ap (λ x. x.texts) e ∙ texts-top t)),
      h.labels_are ∙ ap length (labels_of-more ts k (kept_leaf []) within) ∙ length-append (labels_of (take k ts)) (kept_labels t)
          ∙ ap (λ n. length (labels_of (take k ts)) + n) (sym (ap (λ x. x.labels) e ∙ labels-top t)),
    )

pub end-before : (ts : List Kept) (k : ℕ) (end size : Extent) → IsEndOf ts (k + 1) end → size ≡ extent_of (top (get_or ts k (kept_leaf [])))
    → IsEndOf ts k record { entries = end.entries - size.entries; texts = end.texts - size.texts; labels = end.labels - size.labels }
end-before ts k end size h e =
    let more = end-more ts k end size h e in
    record { within = omega (arith, h.within); entries_are = omega (arith, more.0); texts_are = omega (arith, more.1); labels_are = omega (arith, more.2) }

-- there is an entry before an end
pub end-positive : (ts : List Kept) (k : ℕ) (end : Extent) → IsEndOf ts (k + 1) end → 1 ≤ end.entries
end-positive ts k end h =
    let t = get_or ts k (kept_leaf []) in
    let within : k < length ts = omega (arith, h.within) in
    omega (
      arith,
      h.entries_are,
      ap length (entries_of-more ts k (kept_leaf []) within),
      length-append (entries_of (take k ts)) (kept_entries t),
      kept_entries-positive t,
    )

-- the entries around the last one of a tree
pub around-top : (ts : List Kept) (k : ℕ) (end : Extent) (es : List Entry) → IsEndOf ts (k + 1) end → es ≡ entries_of ts
    → (es ≡ (entries_of (take k ts) ++ below_top (get_or ts k (kept_leaf []))) ++ top (get_or ts k (kept_leaf [])) ∷ entries_of (drop (k + 1) ts))
    × (length (entries_of (take k ts) ++ below_top (get_or ts k (kept_leaf []))) ≡ end.entries - 1)
around-top ts k end es h e =
    let t = get_or ts k (kept_leaf []) in
    let within : k < length ts = omega (arith, h.within) in
    let front = entries_of (take k ts) ++ below_top t in
    let first : entries_of (take (k + 1) ts) ≡ front ++ top t ∷ [] =
    entries_of-more ts k (kept_leaf []) within ∙ ap (λ own. entries_of (take k ts) ++ own) (kept_entries-top t)
    ∙ sym (append_assoc (entries_of (take k ts)) (below_top t) (top t ∷ [])) in
    let all : es ≡ front ++ top t ∷ entries_of (drop (k + 1) ts) =
    e ∙ entries_of-parts ts (k + 1) ∙ ap (λ own. own ++ entries_of (drop (k + 1) ts)) first
    ∙ append_assoc front (top t ∷ []) (entries_of (drop (k + 1) ts)) in
    (all, omega (arith, h.entries_are, ap length first, length_push front (top t)))

-- it is the last of the tree
pub top-at : (ts : List Kept) (k : ℕ) (end : Extent) (es : List Entry) (x d : Entry) → IsEndOf ts (k + 1) end → es ≡ entries_of ts
    → x ≡ get_or es (end.entries - 1) d → x ≡ top (get_or ts k (kept_leaf []))
top-at ts k end es x d h e is =
    let t = get_or ts k (kept_leaf []) in
    let (all, place) = around-top ts k end es h e in
    is ∙ ap (λ own. get_or own (end.entries - 1) d) all
    ∙ get_or_at (entries_of (take k ts) ++ below_top t) (top t) (entries_of (drop (k + 1) ts)) d (end.entries - 1) place

-- so large is a tree whose last entry was read
pub size-at : (ts : List Kept) (k : ℕ) (end size : Extent) (es : List Entry) (x : Entry) → IsEndOf ts (k + 1) end → es ≡ entries_of ts
    → x ≡ get_or es (end.entries - 1) x → size ≡ extent_of x → size ≡ extent_of (top (get_or ts k (kept_leaf [])))
size-at ts k end size es x h e is extent = extent ∙ ap extent_of (top-at ts k end es x x h e is)

pub size-le : (ts : List Kept) (k : ℕ) (end size : Extent) → IsEndOf ts (k + 1) end → size ≡ extent_of (top (get_or ts k (kept_leaf [])))
    → (size.entries ≤ end.entries) × (size.texts ≤ end.texts) × (size.labels ≤ end.labels)
size-le ts k end size h e = let more = end-more ts k end size h e in (omega (arith, more.0), omega (arith, more.1), omega (arith, more.2))

-- the first trees are stored up to their end, and the others after it
pub stored-take : (es fs : List Entry) (xs ys ls ms : List ℕ) (n : ℕ) (ts : List Kept) (count : ℕ) (end : Extent) → IsStored es xs ls n ts → IsEndOf ts count end
    → fs ≡ take end.entries es → ys ≡ take end.texts xs → ms ≡ take end.labels ls → IsStored fs ys ms count (take count ts)
stored-take es fs xs ys ls ms n ts count end h ends e f g = record {
  entries_are = e ∙ ap (λ all. take end.entries all) (h.entries_are ∙ entries_of-parts ts count)
      ∙ take_at (entries_of (take count ts)) (entries_of (drop count ts)) end.entries (sym ends.entries_are);
  texts_are = f ∙ ap (λ all. take end.texts all) (h.texts_are ∙ texts_of-parts ts count)
      ∙ take_at (texts_of (take count ts)) (texts_of (drop count ts)) end.texts (sym ends.texts_are);
  labels_are = g ∙ ap (λ all. take end.labels all) (h.labels_are ∙ labels_of-parts ts count)
      ∙ take_at (labels_of (take count ts)) (labels_of (drop count ts)) end.labels (sym ends.labels_are);
  roots_are = sym (length-take-le count ts ends.within);
}

pub stored-drop : (es fs : List Entry) (xs ys ls ms : List ℕ) (n : ℕ) (ts : List Kept) (count : ℕ) (end : Extent) → IsStored es xs ls n ts → IsEndOf ts count end
    → fs ≡ drop end.entries es → ys ≡ drop end.texts xs → ms ≡ drop end.labels ls → IsStored fs ys ms (n - count) (drop count ts)
stored-drop es fs xs ys ls ms n ts count end h ends e f g = record {
  entries_are = e ∙ ap (λ all. drop end.entries all) (h.entries_are ∙ entries_of-parts ts count)
      ∙ drop_at (entries_of (take count ts)) (entries_of (drop count ts)) end.entries (sym ends.entries_are);
  texts_are = f ∙ ap (λ all. drop end.texts all) (h.texts_are ∙ texts_of-parts ts count)
      ∙ drop_at (texts_of (take count ts)) (texts_of (drop count ts)) end.texts (sym ends.texts_are);
  labels_are = g ∙ ap (λ all. drop end.labels all) (h.labels_are ∙ labels_of-parts ts count)
      ∙ drop_at (labels_of (take count ts)) (labels_of (drop count ts)) end.labels (sym ends.labels_are);
  roots_are = ap (λ m. m - count) h.roots_are ∙ sym (length-drop count ts);
}

-- a node in place of the trees after the first ones, which become its kids
pub stored-wrap : (es fs : List Entry) (xs ls ms label : List ℕ) (n : ℕ) (ts : List Kept) (count : ℕ) (end : Extent) → IsStored es xs ls n ts → IsEndOf ts count end
    → ms ≡ ls ++ label → fs ≡ es ++ Node false (length label) (length xs - end.texts) (length es + 1 - end.entries) (length ls - end.labels + length label) ∷ []
    → IsStored fs xs ms (count + 1) (take count ts ++ kept_node false label (kepts_of (drop count ts)) ∷ [])
stored-wrap es fs xs ls ms label n ts count end h ends e f =
    let t = kept_node false label (kepts_of (drop count ts)) in
    let kept = entries_of (take count ts) in
    let rest = entries_of (drop count ts) in
    let entries = h.entries_are ∙ entries_of-parts ts count in
    let texts = h.texts_are ∙ texts_of-parts ts count in
    let labels = h.labels_are ∙ labels_of-parts ts count in
    let size : length es + 1 - end.entries ≡ length rest + 1 = omega (arith, ends.entries_are, ap length entries, length-append kept rest) in
    let long : length xs - end.texts ≡ length (texts_of (drop count ts)) =
    omega (arith, ends.texts_are, ap length texts, length-append (texts_of (take count ts)) (texts_of (drop count ts))) in
    let wide : length ls - end.labels + length label ≡ length (labels_of (drop count ts) ++ label) =
    omega (
      arith,
      ends.labels_are,
      ap length labels,
      length-append (labels_of (take count ts)) (labels_of (drop count ts)),
      length-append (labels_of (drop count ts)) label,
    ) in
    record {
      entries_are =
          f ∙ ap (λ m. es ++ Node false (length label) (length xs - end.texts) m (length ls - end.labels + length label) ∷ []) size
          ∙ ap (λ m. es ++ Node false (length label) m (length rest + 1) (length ls - end.labels + length label) ∷ []) long
          ∙ ap (λ m. es ++ Node false (length label) (length (texts_of (drop count ts))) (length rest + 1) m ∷ []) wide
          ∙ ap (λ own. own ++ top t ∷ []) entries ∙ append_assoc kept rest (top t ∷ [])
          ∙ ap (λ own. kept ++ own) (sym (append-nil (kept_entries t))) ∙ sym (entries_of-append (take count ts) (t ∷ []));
      texts_are = texts ∙ ap (λ own. texts_of (take count ts) ++ own) (sym (append-nil (texts_of (drop count ts)))) ∙ sym (texts_of-append (take count ts) (t ∷ []));
      labels_are =
          e ∙ ap (λ own. own ++ label) labels ∙ append_assoc (labels_of (take count ts)) (labels_of (drop count ts)) label
          ∙ ap (λ own. labels_of (take count ts) ++ own) (sym (append-nil (kept_labels t))) ∙ sym (labels_of-append (take count ts) (t ∷ []));
      roots_are = omega (arith, length_push (take count ts) t, length-take-le count ts ends.within);
    }

-- a leaf of their texts in place of the trees after the first ones
pub stored-join : (es fs gs : List Entry) (xs ls ms : List ℕ) (n m : ℕ) (ts : List Kept) (count : ℕ) (end : Extent) → IsStored es xs ls n ts → IsEndOf ts count end
    → m ≡ length xs - end.texts → fs ≡ take end.entries es → gs ≡ fs ++ Leaf m ∷ [] → ms ≡ take end.labels ls
    → IsStored gs xs ms (count + 1) (take count ts ++ kept_leaf (texts_of (drop count ts)) ∷ [])
stored-join es fs gs xs ls ms n m ts count end h ends size e f g =
    let text = texts_of (drop count ts) in
    let first = stored-take es fs xs (take end.texts xs) ls ms n ts count end h ends e refl g in
    let texts = h.texts_are ∙ texts_of-parts ts count in
    let long : m ≡ length text = omega (arith, size, ends.texts_are, ap length texts, length-append (texts_of (take count ts)) text) in
    record {
      entries_are =
          f ∙ ap (λ k. fs ++ Leaf k ∷ []) long ∙ ap (λ own. own ++ Leaf (length text) ∷ []) first.entries_are
          ∙ sym (entries_of-append (take count ts) (kept_leaf text ∷ []));
      texts_are = texts ∙ ap (λ own. texts_of (take count ts) ++ own) (sym (append-nil text)) ∙ sym (texts_of-append (take count ts) (kept_leaf text ∷ []));
      labels_are = first.labels_are ∙ sym (append-nil (labels_of (take count ts))) ∙ sym (labels_of-append (take count ts) (kept_leaf text ∷ []));
      roots_are = omega (arith, length_push (take count ts) (kept_leaf text), length-take-le count ts ends.within);
    }

-- an end at an equal count
pub end_as : (ts : List Kept) (n m : ℕ) (end : Extent) → IsEndOf ts n end → n ≡ m → IsEndOf ts m end
end_as ts n m end h e = rw e at h

-- an end among trees of which the first are the same
pub end-same : (ts us : List Kept) (n : ℕ) (end : Extent) → IsEndOf ts n end → take n us ≡ take n ts → n ≤ length us → IsEndOf us n end
end-same ts us n end h e within = record {
  within = within;
  entries_are = h.entries_are ∙ ap (λ own. length (entries_of own)) (sym e);
  texts_are = h.texts_are ∙ ap (λ own. length (texts_of own)) (sym e);
  labels_are = h.labels_are ∙ ap (λ own. length (labels_of own)) (sym e);
}
