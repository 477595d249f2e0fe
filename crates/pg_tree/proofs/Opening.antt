-- The last entry of stored trees is gone over.
use Rattle.std.proofs.Common.{◌≡◌, ◌+◌, ◌-◌, ◌≤◌, ℕ, true, false, List, [], ◌∷◌, ◌++◌, length, take, drop, get_or, refl, ap, sym, ◌∙◌, arith, append_assoc, subst}
use Rattle.std.proofs.lemmas.List.{append-nil, get_or_at, length-append, length_push, take_at, drop_at}
use Rattle.pg_tree.specs.declared.entry.Entry.{Entry}
use Rattle.pg_tree.specs.declared.entries.Seen.{Seen}
use Rattle.pg_tree.specs.declared.entries.Seen.TheVariants.{Leaf, Node, Away}
use Rattle.pg_tree.specs.Kept.{Kept, Kepts, kept_leaf, kept_node, no_kepts, kept, kepts_of}
use Rattle.pg_tree.specs.Stored.{IsStored, kept_texts, kepts_texts, kept_labels, kepts_labels, kept_entries, kepts_entries, entries_of, texts_of, labels_of, own_text, own_label, shown}
use Rattle.pg_tree.specs.Entries.{list_of, kids_in, IsSeen, IsSeenAs, Opens}
use Rattle.pg_tree.proofs.Stored.{entries_of-append, texts_of-append, labels_of-append, shown-stored}
use Rattle.pg_tree.proofs.Ends.{top, below_top, kept_entries-top}

-- the kids of a node as a list are its kids
kepts_of-list : (kids : Kepts) → kepts_of (list_of kids) ≡ kids
kepts_of-list no_kepts = refl
kepts_of-list (kept t ts) = ap (λ us. kept t us) (kepts_of-list ts)

-- the last of some trees, and those before it
last_of : (t : Kept) (ts : List Kept) → (before : List Kept) × (own : Kept) × (t ∷ ts ≡ before ++ own ∷ [])
last_of t [] = ([], t, refl)
last_of t (u ∷ ts) = let (before, own, e) = last_of u ts in (t ∷ before, own, ap (λ us. t ∷ us) e)

-- what stands at the end, and before it
take-end : {A : Type 0} (all front own : List A) (n : ℕ) → all ≡ front ++ own → n ≡ length own → take (length all - n) all ≡ front
take-end all front own n e long =
    let place : length front ≡ length all - n = omega (arith, ap length e, length-append front own, long) in
    ap (λ xs. take (length all - n) xs) e ∙ take_at front own (length all - n) place

drop-end : {A : Type 0} (all front own : List A) (n : ℕ) → all ≡ front ++ own → n ≡ length own → drop (length all - n) all ≡ own
drop-end all front own n e long =
    let place : length front ≡ length all - n = omega (arith, ap length e, length-append front own, long) in
    ap (λ xs. drop (length all - n) xs) e ∙ drop_at front own (length all - n) place

-- the text of a leaf, or the label of a node
abbrev IsOwn : Kept → List ℕ → List ℕ → Type 0
IsOwn (kept_leaf own) text label = text ≡ own
IsOwn (kept_node away own kids) text label = label ≡ own

seen_as : (seen : Seen) (t : Kept) (text label : List ℕ) → IsSeenAs seen (top t) text label → IsOwn t text label → IsSeen seen t
seen_as (Leaf own) (kept_leaf x) text label h is = h ∙ is
seen_as (Leaf own) (kept_node true l kids) text label h is = absurd h
seen_as (Leaf own) (kept_node false l kids) text label h is = absurd h
seen_as (Node own n) (kept_leaf x) text label h is = absurd h
seen_as (Node own n) (kept_node true l kids) text label h is = absurd h
seen_as (Node own n) (kept_node false l kids) text label h is = (h.0 ∙ is, h.1)
seen_as Away (kept_leaf x) text label h is = absurd h
seen_as Away (kept_node true l kids) text label h is = tt
seen_as Away (kept_node false l kids) text label h is = absurd h

-- what is stored before the last entry of a tree, and what stands at the end
opened-tree : (t : Kept) (before : List Kept) (fs : List Entry) (xs ys ls ms : List ℕ) → fs ≡ entries_of before ++ below_top t
    → xs ≡ texts_of before ++ kept_texts t → ls ≡ labels_of before ++ kept_labels t → ys ≡ take (length xs - own_text (top t)) xs
    → ms ≡ take (length ls - own_label (top t)) ls
    → IsOwn t (drop (length xs - own_text (top t)) xs) (drop (length ls - own_label (top t)) ls)
    × IsStored fs ys ms (length (before ++ kids_in t)) (before ++ kids_in t)
opened-tree (kept_leaf text) before fs xs ys ls ms e f g is are =
    let stays : ls ≡ labels_of before = g ∙ append-nil (labels_of before) in
    let stored : IsStored fs ys ms (length before) before = record {
      entries_are = e ∙ append-nil (entries_of before);
      texts_are = is ∙ take-end xs (texts_of before) text (length text) f refl;
      labels_are = are ∙ take-end ls ls [] 0 (sym (append-nil ls)) refl ∙ stays;
      roots_are = refl;
    } in
    (drop-end xs (texts_of before) text (length text) f refl, rw (append-nil before) stored)
opened-tree (kept_node away label kids) before fs xs ys ls ms e f g is are =
    let same : kepts_of (list_of kids) ≡ kids = kepts_of-list kids in
    let all : ls ≡ (labels_of before ++ kepts_labels kids) ++ label = g ∙ sym (append_assoc (labels_of before) (kepts_labels kids) label) in
    let stored : IsStored fs ys ms (length (before ++ list_of kids)) (before ++ list_of kids) = record {
      entries_are =
          e ∙ ap (λ ks. entries_of before ++ kepts_entries ks) (sym same) ∙ sym (entries_of-append before (list_of kids));
      texts_are =
          is ∙ take-end xs xs [] 0 (sym (append-nil xs)) refl ∙ f ∙ ap (λ ks. texts_of before ++ kepts_texts ks) (sym same)
          ∙ sym (texts_of-append before (list_of kids));
      labels_are =
          are ∙ take-end ls (labels_of before ++ kepts_labels kids) label (length label) all refl
          ∙ ap (λ ks. labels_of before ++ kepts_labels ks) (sym same) ∙ sym (labels_of-append before (list_of kids));
      roots_are = refl;
    } in
    (drop-end ls (labels_of before ++ kepts_labels kids) label (length label) all refl, stored)

-- the trees after the last entry was seen
opened-last : (es fs : List Entry) (xs ys ls ms : List ℕ) (n : ℕ) (before : List Kept) (t : Kept) (x d : Entry) (seen : Seen)
    → IsStored es xs ls n (before ++ t ∷ []) → x ≡ get_or es (length es - 1) d → fs ≡ take (length es - 1) es
    → ys ≡ take (length xs - own_text x) xs → ms ≡ take (length ls - own_label x) ls
    → IsSeenAs seen x (drop (length xs - own_text x) xs) (drop (length ls - own_label x) ls)
    → IsSeen seen t × IsStored fs ys ms (length (before ++ kids_in t)) (before ++ kids_in t)
opened-last es fs xs ys ls ms n before t x d seen h is f g k saw =
    let front = entries_of before ++ below_top t in
    let entries : es ≡ front ++ top t ∷ [] =
    h.entries_are ∙ entries_of-append before (t ∷ []) ∙ ap (λ own. entries_of before ++ own) (append-nil (kept_entries t) ∙ kept_entries-top t)
    ∙ sym (append_assoc (entries_of before) (below_top t) (top t ∷ [])) in
    let texts : xs ≡ texts_of before ++ kept_texts t =
    h.texts_are ∙ texts_of-append before (t ∷ []) ∙ ap (λ own. texts_of before ++ own) (append-nil (kept_texts t)) in
    let labels : ls ≡ labels_of before ++ kept_labels t =
    h.labels_are ∙ labels_of-append before (t ∷ []) ∙ ap (λ own. labels_of before ++ own) (append-nil (kept_labels t)) in
    let place : length front ≡ length es - 1 = omega (arith, ap length entries, length_push front (top t)) in
    let last : x ≡ top t = is ∙ ap (λ own. get_or own (length es - 1) d) entries ∙ get_or_at front (top t) [] d (length es - 1) place in
    let less : fs ≡ front = f ∙ take-end es front (top t ∷ []) 1 entries refl in
    let (own, stored) =
    opened-tree t before fs xs ys ls ms less texts labels (g ∙ ap (λ e. take (length xs - own_text e) xs) last)
    (k ∙ ap (λ e. take (length ls - own_label e) ls) last) in
    let seen_last = subst (λ (e : Entry). IsSeenAs seen e (drop (length xs - own_text e) xs) (drop (length ls - own_label e) ls)) last saw in
    (seen_as seen t (drop (length xs - own_text (top t)) xs) (drop (length ls - own_label (top t)) ls) seen_last own, stored)

pub opens : (es fs : List Entry) (xs ys ls ms : List ℕ) (n : ℕ) (ts : List Kept) (x d : Entry) (seen : Seen) → IsStored es xs ls n ts → 1 ≤ length es
    → x ≡ get_or es (length es - 1) d → fs ≡ take (length es - 1) es → ys ≡ take (length xs - own_text x) xs
    → ms ≡ take (length ls - own_label x) ls → IsSeenAs seen x (drop (length xs - own_text x) xs) (drop (length ls - own_label x) ls)
    → Opens ts seen (shown fs ys ms) × IsStored fs ys ms (length (shown fs ys ms)) (shown fs ys ms)
opens es fs xs ys ls ms n [] x d seen h some is f g k saw = absurd (omega (arith, ap length h.entries_are))
opens es fs xs ys ls ms n (t ∷ ts) x d seen h some is f g k saw =
    let (before, last, parts) = last_of t ts in
    let stored : IsStored es xs ls n (before ++ last ∷ []) = rw parts at h in
    let (sees, rest) = opened-last es fs xs ys ls ms n before last x d seen stored is f g k saw in
    let same : shown fs ys ms ≡ before ++ kids_in last = shown-stored fs ys ms (length (before ++ kids_in last)) (before ++ kids_in last) rest in
    let again : IsStored fs ys ms (length (shown fs ys ms)) (shown fs ys ms) = rw same rest in
    (record { before = before; last = last; was = parts; is = sees; becomes = same }, again)

-- the same of what was read one by one
pub opens_read : (es fs : List Entry) (xs ys ls ms text label : List ℕ) (n a b i j : ℕ) (ts : List Kept) (x d : Entry) (seen : Seen) → IsStored es xs ls n ts
    → 1 ≤ length es → x ≡ get_or es (length es - 1) d → fs ≡ take (length es - 1) es → a ≡ own_text x → ys ≡ take (length xs - a) xs
    → b ≡ own_label x → ms ≡ take (length ls - b) ls → i ≡ own_text x → text ≡ drop (length xs - i) xs → j ≡ own_label x
    → label ≡ drop (length ls - j) ls → IsSeenAs seen x text label
    → Opens ts seen (shown fs ys ms) × IsStored fs ys ms (length (shown fs ys ms)) (shown fs ys ms)
opens_read es fs xs ys ls ms text label n a b i j ts x d seen h some is f ea g eb k ei t ej l saw =
    let own = t ∙ ap (λ m. drop (length xs - m) xs) ei in
    let named = l ∙ ap (λ m. drop (length ls - m) ls) ej in
    let first : IsSeenAs seen x (drop (length xs - own_text x) xs) label = subst (λ (bytes : List ℕ). IsSeenAs seen x bytes label) own saw in
    let sees : IsSeenAs seen x (drop (length xs - own_text x) xs) (drop (length ls - own_label x) ls) =
    subst (λ (bytes : List ℕ). IsSeenAs seen x (drop (length xs - own_text x) xs) bytes) named first in
    opens es fs xs ys ls ms n ts x d seen h some is f (g ∙ ap (λ m. take (length xs - m) xs) ea) (k ∙ ap (λ m. take (length ls - m) ls) eb) sees
