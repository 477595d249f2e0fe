-- How many nodes that are shown begin at each entry of stored trees.
use Rattle.std.proofs.Common.{◌≡◌, ◌+◌, ◌-◌, ◌≤◌, ◌<◌, ℕ, suc, Bool, true, false, List, [], ◌∷◌, ◌++◌, length, get_or, refl, ap, sym, ◌∙◌, arith, append_assoc}
use Rattle.std.specs.Prelude.{sum}
use Rattle.std.proofs.lemmas.List.{append-nil, length-append, length_push, length-set}
use Rattle.std.proofs.lemmas.List.Sums.{sum_by-set, sum_by_push}
use Rattle.pg_tree.specs.declared.entry.Entry.{Entry}
use Rattle.pg_tree.specs.declared.entry.Entry.TheVariants.{Leaf, Node}
use Rattle.pg_tree.specs.Kept.{Kept, Kepts, kept_leaf, kept_node, no_kepts, kept, kepts_of}
use Rattle.pg_tree.specs.Stored.{kepts_texts, kepts_labels, kept_entries, kepts_entries, entries_of, extent_of}
use Rattle.pg_tree.specs.Written.{openings_with, node_openings, kids_openings, raised, opening, with_opening, openings_on, IsWithin, AreWithin}
use Rattle.pg_tree.proofs.Ends.{top}

-- as many openings as entries
mutual
  pub length-openings_with : (more : ℕ) (t : Kept) → length (openings_with more t) ≡ length (kept_entries t)
  length-openings_with more (kept_leaf text) = refl
  length-openings_with more (kept_node true label kids) = length-node_openings more true label kids
  length-openings_with more (kept_node false label kids) = length-node_openings (suc more) false label kids

  length-node_openings : (more : ℕ) (away : Bool) (label : List ℕ) (kids : Kepts) → length (node_openings more kids) ≡ length (kept_entries (kept_node away label kids))
  length-node_openings more away label no_kepts = refl
  length-node_openings more away label (kept t ts) =
      omega (
        arith,
        length-openings_with more t,
        length-kids_openings ts,
        length-append (openings_with more t) (kids_openings ts ++ 0 ∷ []),
        length_push (kids_openings ts) 0,
        length_push (kept_entries t ++ kepts_entries ts) (top (kept_node away label (kept t ts))),
        length-append (kept_entries t) (kepts_entries ts),
      )

  pub length-kids_openings : (ts : Kepts) → length (kids_openings ts) ≡ length (kepts_entries ts)
  length-kids_openings no_kepts = refl
  length-kids_openings (kept t ts) =
      omega (
        arith,
        length-openings_with 0 t,
        length-kids_openings ts,
        length-append (openings_with 0 t) (kids_openings ts),
        length-append (kept_entries t) (kepts_entries ts),
      )

-- more behind others
raised-behind : (n : ℕ) (counts more : List ℕ) → raised n (counts ++ more) (length counts) ≡ counts ++ raised n more 0
raised-behind n [] more = refl
raised-behind n (c ∷ counts) more = ap (λ ns. c ∷ ns) (raised-behind n counts more)

-- more at the first entry
mutual
  raised-first : (n : ℕ) (t : Kept) (more : ℕ) (others : List ℕ) → raised n (openings_with more t ++ others) 0 ≡ openings_with (more + n) t ++ others
  raised-first n (kept_leaf text) more others = refl
  raised-first n (kept_node true label kids) more others = raised-node n kids more others
  raised-first n (kept_node false label kids) more others =
      let e : suc more + n ≡ suc (more + n) = omega arith in
      raised-node n kids (suc more) others ∙ ap (λ m. node_openings m kids ++ others) e

  raised-node : (n : ℕ) (kids : Kepts) (more : ℕ) (others : List ℕ) → raised n (node_openings more kids ++ others) 0 ≡ node_openings (more + n) kids ++ others
  raised-node n no_kepts more others = refl
  raised-node n (kept t ts) more others =
      ap (λ ns. raised n ns 0) (append_assoc (openings_with more t) (kids_openings ts ++ 0 ∷ []) others)
      ∙ raised-first n t more ((kids_openings ts ++ 0 ∷ []) ++ others)
      ∙ sym (append_assoc (openings_with (more + n) t) (kids_openings ts ++ 0 ∷ []) others)

raised-kids : (n : ℕ) (ts : Kepts) → raised n (kids_openings ts ++ 0 ∷ []) 0 ≡ node_openings n ts
raised-kids n no_kepts = ap (λ m. m ∷ []) (omega arith)
raised-kids n (kept t ts) =
    let e : 0 + n ≡ n = omega arith in
    ap (λ ns. raised n ns 0) (append_assoc (openings_with 0 t) (kids_openings ts) (0 ∷ [])) ∙ raised-first n t 0 (kids_openings ts ++ 0 ∷ [])
    ∙ ap (λ m. openings_with m t ++ (kids_openings ts ++ 0 ∷ [])) e

-- a node's own opening
own-openings : (away : Bool) (label : List ℕ) (kids : Kepts) → node_openings (opening (top (kept_node away label kids))) kids ≡ openings_with 0 (kept_node away label kids)
own-openings true label kids = refl
own-openings false label kids = refl

-- the openings that are noted are those of the trees
mutual
  openings_on-tree : (t : Kept) (counts : List ℕ) (es : List Entry) → openings_on counts (kept_entries t ++ es) ≡ openings_on (counts ++ openings_with 0 t) es
  openings_on-tree (kept_leaf text) counts es =
      let place : length counts + 1 - 1 ≡ length counts = omega arith in
      ap (λ i. openings_on (raised 0 (counts ++ 0 ∷ []) i) es) place ∙ ap (λ ns. openings_on ns es) (raised-behind 0 counts (0 ∷ []))
  openings_on-tree (kept_node away label kids) counts es =
      let n = top (kept_node away label kids) in
      let before = counts ++ kids_openings kids in
      let place : length before + 1 - (length (kepts_entries kids) + 1) ≡ length counts =
      omega (arith, length-append counts (kids_openings kids), length-kids_openings kids) in
      ap (λ all. openings_on counts all) (append_assoc (kepts_entries kids) (n ∷ []) es)
      ∙ openings_on-kids kids counts (n ∷ es)
      ∙ ap (λ i. openings_on (raised (opening n) (before ++ 0 ∷ []) i) es) place
      ∙ ap (λ ns. openings_on (raised (opening n) ns (length counts)) es) (append_assoc counts (kids_openings kids) (0 ∷ []))
      ∙ ap (λ ns. openings_on ns es) (raised-behind (opening n) counts (kids_openings kids ++ 0 ∷ []))
      ∙ ap (λ ns. openings_on (counts ++ ns) es) (raised-kids (opening n) kids ∙ own-openings away label kids)

  openings_on-kids : (ts : Kepts) (counts : List ℕ) (es : List Entry) → openings_on counts (kepts_entries ts ++ es) ≡ openings_on (counts ++ kids_openings ts) es
  openings_on-kids no_kepts counts es = ap (λ ns. openings_on ns es) (sym (append-nil counts))
  openings_on-kids (kept t ts) counts es =
      ap (λ all. openings_on counts all) (append_assoc (kept_entries t) (kepts_entries ts) es)
      ∙ openings_on-tree t counts (kepts_entries ts ++ es)
      ∙ openings_on-kids ts (counts ++ openings_with 0 t) es
      ∙ ap (λ ns. openings_on ns es) (append_assoc counts (openings_with 0 t) (kids_openings ts))

pub openings_on-stored : (es : List Entry) (ts : List Kept) → es ≡ entries_of ts → openings_on [] es ≡ kids_openings (kepts_of ts)
openings_on-stored es ts e =
    ap (λ all. openings_on [] all) (e ∙ sym (append-nil (entries_of ts))) ∙ openings_on-kids (kepts_of ts) [] []

-- each tree begins among the entries before it
within_as : (n m : ℕ) (es : List Entry) → n ≡ m → AreWithin n es → AreWithin m es
within_as n m es e h = rw e at h

mutual
  within-tree : (t : Kept) (n : ℕ) (es : List Entry) → AreWithin (n + length (kept_entries t)) es → AreWithin n (kept_entries t ++ es)
  within-tree (kept_leaf text) n es h = ((omega arith, omega arith), h)
  within-tree (kept_node away label kids) n es h =
      let own = top (kept_node away label kids) in
      let rest = within_as (n + length (kepts_entries kids ++ own ∷ [])) (n + length (kepts_entries kids) + 1) es
      (omega (arith, length_push (kepts_entries kids) own)) h in
      rw (append_assoc (kepts_entries kids) (own ∷ []) es) (within-kids kids n (own ∷ es) ((omega arith, omega arith), rest))

  within-kids : (ts : Kepts) (n : ℕ) (es : List Entry) → AreWithin (n + length (kepts_entries ts)) es → AreWithin n (kepts_entries ts ++ es)
  within-kids no_kepts n es h = within_as (n + 0) n es (omega arith) h
  within-kids (kept t ts) n es h =
      let rest = within_as (n + length (kept_entries t ++ kepts_entries ts)) (n + length (kept_entries t) + length (kepts_entries ts)) es
      (omega (arith, length-append (kept_entries t) (kepts_entries ts))) h in
      rw (append_assoc (kept_entries t) (kepts_entries ts) es) (within-tree t n (kepts_entries ts ++ es) (within-kids ts (n + length (kept_entries t)) es rest))

pub within-stored : (es : List Entry) (ts : List Kept) → es ≡ entries_of ts → AreWithin 0 es
within-stored es ts e = rw (e ∙ sym (append-nil (entries_of ts))) (within-kids (kepts_of ts) 0 [] tt)

-- a noted entry adds one number, and at most one node
pub length-with_opening : (counts : List ℕ) (e : Entry) → length (with_opening counts e) ≡ length counts + 1
length-with_opening counts e = length-set (counts ++ 0 ∷ []) (length counts + 1 - (extent_of e).entries) _ ∙ length_push counts 0

opening-small : (e : Entry) → opening e ≤ 1
opening-small (Leaf n) = omega arith
opening-small (Node true l k s b) = omega arith
opening-small (Node false l k s b) = omega arith

pub sum-with_opening : (counts : List ℕ) (e : Entry) → IsWithin (length counts) e → sum (with_opening counts e) ≤ sum counts + 1
sum-with_opening counts e h =
    let i = length counts + 1 - (extent_of e).entries in
    let all = counts ++ 0 ∷ [] in
    let within : i < length all = omega (arith, length_push counts 0, h.0) in
    omega (arith, opening-small e, sum_by-set (λ (x : ℕ). x) all i (get_or all i 0 + opening e) 0 within, sum_by_push (λ (x : ℕ). x) counts 0)
