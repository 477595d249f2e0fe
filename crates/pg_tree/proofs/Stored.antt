-- Stored trees show themselves, also where they are joined.
use Rattle.std.proofs.Common.{◌≡◌, ◌+◌, ◌-◌, ◌≤◌, ℕ, zero, suc, Bool, true, false, List, [], ◌∷◌, ◌++◌, length, take, drop, reverse, refl, ap, sym, ◌∙◌, arith, append_assoc, zero-add, Result, Ok, Err, if◌then◌else◌}
use Rattle.std.proofs.lemmas.List.{append-nil, take_at, drop_at, reverse-append, reverse-reverse, length-append, nil_from_length}
use Rattle.std.specs.Result.{OnOk, OnErr, is_ok, is_err}
use Rattle.pg_tree.specs.declared.entry.Entry.{Entry}
use Rattle.pg_tree.specs.declared.entry.Entry.TheVariants.{Leaf, Node}
use Rattle.pg_tree.specs.Kept.{Kept, Kepts, kept_leaf, kept_node, no_kepts, kept, kepts_of, listed, AreShown}
use Rattle.pg_tree.specs.Stored.{kept_texts, kepts_texts, kept_labels, kepts_labels, kept_entries, kepts_entries, entries_of, texts_of, labels_of, kids_before, rest_before, shown_on, shown, IsStored}

-- the entries, the texts and the labels of two lists
pub entries_of-append : (ts us : List Kept) → entries_of (ts ++ us) ≡ entries_of ts ++ entries_of us
entries_of-append [] us = refl
entries_of-append (t ∷ ts) us = ap (λ es. kept_entries t ++ es) (entries_of-append ts us) ∙ sym (append_assoc (kept_entries t) (entries_of ts) (entries_of us))

pub texts_of-append : (ts us : List Kept) → texts_of (ts ++ us) ≡ texts_of ts ++ texts_of us
texts_of-append [] us = refl
texts_of-append (t ∷ ts) us = ap (λ xs. kept_texts t ++ xs) (texts_of-append ts us) ∙ sym (append_assoc (kept_texts t) (texts_of ts) (texts_of us))

pub labels_of-append : (ts us : List Kept) → labels_of (ts ++ us) ≡ labels_of ts ++ labels_of us
labels_of-append [] us = refl
labels_of-append (t ∷ ts) us = ap (λ ls. kept_labels t ++ ls) (labels_of-append ts us) ∙ sym (append_assoc (kept_labels t) (labels_of ts) (labels_of us))

-- each tree has an entry
pub kept_entries-positive : (t : Kept) → 1 ≤ length (kept_entries t)
kept_entries-positive (kept_leaf text) = omega arith
kept_entries-positive (kept_node away label kids) = omega (
  arith,
  length-append (kepts_entries kids)
      (Node away (length label) (length (kepts_texts kids)) (length (kepts_entries kids) + 1) (length (kepts_labels kids ++ label)) ∷ []),
)

-- kids after kids, and kids put on a stack, from the first to the last
abbrev pub kepts_with : Kepts → Kepts → Kepts
kepts_with no_kepts more = more
kepts_with (kept t ts) more = kept t (kepts_with ts more)

kepts_with-none : (ts : Kepts) → kepts_with ts no_kepts ≡ ts
kepts_with-none no_kepts = refl
kepts_with-none (kept t ts) = ap (λ us. kept t us) (kepts_with-none ts)

abbrev pub on_stack : Kepts → List Kept → List Kept
on_stack no_kepts stack = stack
on_stack (kept t ts) stack = on_stack ts (t ∷ stack)

-- they are taken from it again, with more of the stack
kids_before-on_stack : (ts : Kepts) (n : ℕ) (after : Kepts) (stack : List Kept)
    → kids_before (length (kepts_entries ts) + n) after (on_stack ts stack) ≡ kids_before n (kepts_with ts after) stack
kids_before-on_stack no_kepts n after stack = ap (λ m. kids_before m after stack) (zero-add n)
kids_before-on_stack (kept t ts) n after stack =
    let m = length (kept_entries t) + n - 1 in
    let e : length (kept_entries t ++ kepts_entries ts) + n ≡ length (kepts_entries ts) + suc m =
    omega (arith, length-append (kept_entries t) (kepts_entries ts), kept_entries-positive t) in
    let f : suc m - length (kept_entries t) ≡ n = omega (arith, kept_entries-positive t) in
    ap (λ k. kids_before k after (on_stack ts (t ∷ stack))) e ∙ kids_before-on_stack ts (suc m) after (t ∷ stack)
    ∙ ap (λ k. kids_before k (kept t (kepts_with ts after)) stack) f

rest_before-on_stack : (ts : Kepts) (n : ℕ) (stack : List Kept) → rest_before (length (kepts_entries ts) + n) (on_stack ts stack) ≡ rest_before n stack
rest_before-on_stack no_kepts n stack = ap (λ m. rest_before m stack) (zero-add n)
rest_before-on_stack (kept t ts) n stack =
    let m = length (kept_entries t) + n - 1 in
    let e : length (kept_entries t ++ kepts_entries ts) + n ≡ length (kepts_entries ts) + suc m =
    omega (arith, length-append (kept_entries t) (kepts_entries ts), kept_entries-positive t) in
    let f : suc m - length (kept_entries t) ≡ n = omega (arith, kept_entries-positive t) in
    ap (λ k. rest_before k (on_stack ts (t ∷ stack))) e ∙ rest_before-on_stack ts (suc m) (t ∷ stack) ∙ ap (λ k. rest_before k stack) f

-- a node takes its kids from the stack, and leaves the rest
node_kids : (ts : Kepts) (stack : List Kept) → kids_before (length (kepts_entries ts) + 1 - 1) no_kepts (on_stack ts stack) ≡ ts
node_kids ts stack =
    let e : length (kepts_entries ts) + 1 - 1 ≡ length (kepts_entries ts) + 0 = omega arith in
    ap (λ m. kids_before m no_kepts (on_stack ts stack)) e ∙ kids_before-on_stack ts 0 no_kepts stack ∙ kepts_with-none ts

node_rest : (ts : Kepts) (stack : List Kept) → rest_before (length (kepts_entries ts) + 1 - 1) (on_stack ts stack) ≡ stack
node_rest ts stack =
    let e : length (kepts_entries ts) + 1 - 1 ≡ length (kepts_entries ts) + 0 = omega arith in
    ap (λ m. rest_before m (on_stack ts stack)) e ∙ rest_before-on_stack ts 0 stack

-- entries, texts and labels of a tree, or of kids, show them
mutual
  pub shown_on-tree : (t : Kept) (stack : List Kept) (es : List Entry) (xs ls : List ℕ)
      → shown_on stack (kept_entries t ++ es) (kept_texts t ++ xs) (kept_labels t ++ ls) ≡ shown_on (t ∷ stack) es xs ls
  shown_on-tree (kept_leaf text) stack es xs ls =
      ap (λ own. shown_on (kept_leaf own ∷ stack) es (drop (length text) (text ++ xs)) ls) (take_at text xs (length text) refl)
      ∙ ap (λ rest. shown_on (kept_leaf text ∷ stack) es rest ls) (drop_at text xs (length text) refl)
  shown_on-tree (kept_node away label kids) stack es xs ls =
      let size = length (kepts_entries kids) + 1 in
      let n = Node away (length label) (length (kepts_texts kids)) size (length (kepts_labels kids ++ label)) in
      let all = on_stack kids stack in
      ap (λ own. shown_on stack own (kepts_texts kids ++ xs) ((kepts_labels kids ++ label) ++ ls)) (append_assoc (kepts_entries kids) (n ∷ []) es)
      ∙ ap (λ own. shown_on stack (kepts_entries kids ++ n ∷ es) (kepts_texts kids ++ xs) own) (append_assoc (kepts_labels kids) label ls)
      ∙ shown_on-kids kids stack (n ∷ es) xs (label ++ ls)
      ∙ ap (λ own. shown_on (kept_node away own (kids_before (size - 1) no_kepts all) ∷ rest_before (size - 1) all) es xs (drop (length label) (label ++ ls)))
      (take_at label ls (length label) refl)
      ∙ ap (λ ks. shown_on (kept_node away label ks ∷ rest_before (size - 1) all) es xs (drop (length label) (label ++ ls))) (node_kids kids stack)
      ∙ ap (λ below. shown_on (kept_node away label kids ∷ below) es xs (drop (length label) (label ++ ls))) (node_rest kids stack)
      ∙ ap (λ rest. shown_on (kept_node away label kids ∷ stack) es xs rest) (drop_at label ls (length label) refl)

  pub shown_on-kids : (ts : Kepts) (stack : List Kept) (es : List Entry) (xs ls : List ℕ)
      → shown_on stack (kepts_entries ts ++ es) (kepts_texts ts ++ xs) (kepts_labels ts ++ ls) ≡ shown_on (on_stack ts stack) es xs ls
  shown_on-kids no_kepts stack es xs ls = refl
  shown_on-kids (kept t ts) stack es xs ls =
      ap (λ all. shown_on stack all ((kept_texts t ++ kepts_texts ts) ++ xs) ((kept_labels t ++ kepts_labels ts) ++ ls)) (append_assoc (kept_entries t) (kepts_entries ts) es)
      ∙ ap (λ all. shown_on stack (kept_entries t ++ (kepts_entries ts ++ es)) all ((kept_labels t ++ kepts_labels ts) ++ ls)) (append_assoc (kept_texts t) (kepts_texts ts) xs)
      ∙ ap (λ all. shown_on stack (kept_entries t ++ (kepts_entries ts ++ es)) (kept_texts t ++ (kepts_texts ts ++ xs)) all) (append_assoc (kept_labels t) (kepts_labels ts) ls)
      ∙ shown_on-tree t stack (kepts_entries ts ++ es) (kepts_texts ts ++ xs) (kepts_labels ts ++ ls)
      ∙ shown_on-kids ts (t ∷ stack) es xs ls

-- a list put on a stack
on_stack-kepts_of : (ts stack : List Kept) → on_stack (kepts_of ts) stack ≡ reverse ts ++ stack
on_stack-kepts_of [] stack = refl
on_stack-kepts_of (t ∷ ts) stack =
    on_stack-kepts_of ts (t ∷ stack) ∙ sym (append_assoc (reverse ts) (t ∷ []) stack)
    ∙ ap (λ us. us ++ stack) (sym (reverse-append (t ∷ []) ts))

-- the entries, texts and labels of a list show it
pub shown-of : (ts : List Kept) → shown (entries_of ts) (texts_of ts) (labels_of ts) ≡ ts
shown-of ts =
    ap (λ es. shown es (texts_of ts) (labels_of ts)) (sym (append-nil (entries_of ts)))
    ∙ ap (λ xs. shown (entries_of ts ++ []) xs (labels_of ts)) (sym (append-nil (texts_of ts)))
    ∙ ap (λ ls. shown (entries_of ts ++ []) (texts_of ts ++ []) ls) (sym (append-nil (labels_of ts)))
    ∙ ap reverse (shown_on-kids (kepts_of ts) [] [] [] [] ∙ on_stack-kepts_of ts [] ∙ append-nil (reverse ts))
    ∙ reverse-reverse ts

-- what is stored is shown
pub shown-stored : (es : List Entry) (xs ls : List ℕ) (n : ℕ) (ts : List Kept) → IsStored es xs ls n ts → shown es xs ls ≡ ts
shown-stored es xs ls n ts h =
    ap (λ all. shown all xs ls) h.entries_are ∙ ap (λ all. shown (entries_of ts) all ls) h.texts_are
    ∙ ap (λ all. shown (entries_of ts) (texts_of ts) all) h.labels_are ∙ shown-of ts

-- so what is shown is stored
pub stored-shown : (es : List Entry) (xs ls : List ℕ) (n : ℕ) (ts : List Kept) → IsStored es xs ls n ts → IsStored es xs ls n (shown es xs ls)
stored-shown es xs ls n ts h = rw (shown-stored es xs ls n ts h) h

-- trees behind trees
pub stored-append : (es fs : List Entry) (xs ys ls ms : List ℕ) (n m : ℕ) (ts us : List Kept) → IsStored es xs ls n ts → IsStored fs ys ms m us
    → IsStored (es ++ fs) (xs ++ ys) (ls ++ ms) (n + m) (ts ++ us)
stored-append es fs xs ys ls ms n m ts us h k = record {
  entries_are = cc (h.entries_are, k.entries_are, entries_of-append ts us);
  texts_are = cc (h.texts_are, k.texts_are, texts_of-append ts us);
  labels_are = cc (h.labels_are, k.labels_are, labels_of-append ts us);
  roots_are = ap (λ x. x + m) h.roots_are ∙ ap (λ x. length ts + x) k.roots_are ∙ sym (length-append ts us);
}

-- a leaf
pub stored-leaf : (text : List ℕ) → IsStored (Leaf (length text) ∷ []) text [] 1 (kept_leaf text ∷ [])
stored-leaf text = record { entries_are = refl; texts_are = sym (append-nil text); labels_are = refl; roots_are = refl }

-- a leaf behind trees, whose text was put behind their texts
pub stored-push_leaf : (es fs : List Entry) (xs ys text ls : List ℕ) (n m : ℕ) (ts : List Kept) → IsStored es xs ls n ts → ys ≡ xs ++ text
    → m ≡ length ys - length xs → fs ≡ es ++ Leaf m ∷ [] → IsStored fs ys ls (n + 1) (ts ++ kept_leaf text ∷ [])
stored-push_leaf es fs xs ys text ls n m ts h e size f =
    let long : m ≡ length text = omega (arith, size, ap length e, length-append xs text) in
    let all : fs ≡ es ++ Leaf (length text) ∷ [] = f ∙ ap (λ k. es ++ Leaf k ∷ []) long in
    let both = stored-append es (Leaf (length text) ∷ []) xs text ls [] n 1 ts (kept_leaf text ∷ []) h (stored-leaf text) in
    record { entries_are = all ∙ both.entries_are; texts_are = e ∙ both.texts_are; labels_are = sym (append-nil ls) ∙ both.labels_are; roots_are = both.roots_are }

-- there are no more trees than entries
kept-le : (ts : List Kept) → length ts ≤ length (entries_of ts)
kept-le [] = omega arith
kept-le (t ∷ ts) = omega (arith, kept-le ts, kept_entries-positive t, length-append (kept_entries t) (entries_of ts))

pub stored-roots : (es : List Entry) (xs ls : List ℕ) (n : ℕ) (ts : List Kept) → IsStored es xs ls n ts → n ≤ length es
stored-roots es xs ls n ts h = omega (arith, h.roots_are, ap length h.entries_are, kept-le ts)

-- none before others
pub stored-after_none : (es : List Entry) (xs ls : List ℕ) (n : ℕ) (ts us : List Kept) → IsStored es xs ls n ts → n ≡ 0 → us ≡ ts ++ us
stored-after_none es xs ls n ts us h e = ap (λ vs. vs ++ us) (sym (nil_from_length ts (sym h.roots_are ∙ e)))

-- what holds of an answer that is no error
pub on_ok : {T E P : Type 0} (r : Result T E) → is_err r ≡ false → OnOk r P → P
on_ok (Ok x) e h = h
on_ok (Err x) e h = let wrong : ⊥ = cc in absurd wrong

pub ok_side : {T E X : Type 0} (r : Result T E) (x a b : X) → is_err r ≡ false → x ≡ (if is_ok r then a else b) → x ≡ a
ok_side (Ok y) x a b e h = h
ok_side (Err y) x a b e h = let wrong : ⊥ = cc in absurd wrong

-- and of one that is
pub on_err : {T E P : Type 0} (r : Result T E) → is_err r ≡ true → OnErr r P → P
on_err (Ok x) e h = let wrong : ⊥ = cc in absurd wrong
on_err (Err x) e h = h

-- stored trees of which none is taken away
pub keeps-shown : (es : List Entry) (xs ls : List ℕ) (n : ℕ) (ts : List Kept) → IsStored es xs ls n ts → AreShown ts
    → IsStored es xs ls n (shown es xs ls) × AreShown (shown es xs ls)
keeps-shown es xs ls n ts h k = (stored-shown es xs ls n ts h, rw (shown-stored es xs ls n ts h) k)

pub listed-in : (es : List Entry) (xs ls : List ℕ) (n : ℕ) (ts : List Kept) → IsStored es xs ls n ts → listed (shown es xs ls) ≡ listed ts
listed-in es xs ls n ts h = ap listed (shown-stored es xs ls n ts h)
