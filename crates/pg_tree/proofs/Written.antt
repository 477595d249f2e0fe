-- The text in JSON of entries is that of the trees that they show.
use Rattle.std.proofs.Common.{◌≡◌, ◌+◌, ◌<◌, ℕ, zero, suc, Bool, true, false, List, [], ◌∷◌, ◌++◌, length, take, drop, get_or, codes, refl, ap, sym, ◌∙◌, append_assoc, if◌then◌else◌, ◌&&◌}
use Rattle.std.proofs.lemmas.List.{append-nil, take_at, drop_at, drop_more, get_or_read}
use Rattle.pg_tree.specs.declared.entry.Entry.{Entry}
use Rattle.pg_tree.specs.declared.entry.Entry.TheVariants.{Leaf, Node}
use Rattle.pg_tree.specs.Trees.{Tree, Trees, leaf, node, no_trees, tree}
use Rattle.pg_tree.specs.Built.{with_kids}
use Rattle.pg_tree.specs.Json.{quoted, json_tree, json_kids, json_rest}
use Rattle.pg_tree.specs.Kept.{Kept, Kepts, kept_leaf, kept_node, no_kepts, kept, kepts_of, trees_of}
use Rattle.pg_tree.specs.Stored.{kept_texts, kepts_texts, kept_labels, kepts_labels, kept_entries, kepts_entries, entries_of, texts_of, labels_of, own_text, own_label}
use Rattle.pg_tree.specs.Written.{openings_with, node_openings, kids_openings, braces, has_some, separator, still, ended, own_json, entries_json}
use Rattle.pg_tree.proofs.Ends.{top}

-- the comma where a tree ends before
abbrev comma_if : Bool → List ℕ
comma_if later = if later then codes "," else []

separator-leaf : (later : Bool) (n m : ℕ) → separator later n (Leaf m) ≡ comma_if later
separator-leaf true n m = refl
separator-leaf false n m = refl

separator-none : (later a : Bool) (l t e s : ℕ) → separator later 0 (Node a l t e s) ≡ []
separator-none true a l t e s = refl
separator-none false a l t e s = refl

separator-some : (later a : Bool) (n l t e s : ℕ) → separator later (suc n) (Node a l t e s) ≡ comma_if later
separator-some true a n l t e s = refl
separator-some false a n l t e s = refl

-- what is written before the first texts of so many nodes
abbrev opened : Bool → ℕ → List ℕ
opened later zero = []
opened later (suc n) = comma_if later ++ braces (suc n)

-- trees with commas between them, and before them where one ends before; and whether one ends then
abbrev row : Bool → Trees → List ℕ
row later no_trees = []
row later (tree t ts) = comma_if later ++ (json_tree t ++ json_rest ts)

abbrev after : Bool → Trees → Bool
after later no_trees = later
after later (tree t ts) = true

row-rest : (ts : Trees) → row true ts ≡ json_rest ts
row-rest no_trees = refl
row-rest (tree t ts) = refl

row-first : (ts : Trees) → row false ts ≡ json_kids ts
row-first no_trees = refl
row-first (tree t ts) = refl

rest-with_kids : (ts us : Trees) → json_rest (with_kids ts us) ≡ json_rest ts ++ json_rest us
rest-with_kids no_trees us = refl
rest-with_kids (tree t ts) us =
    ap (λ xs. codes "," ++ (json_tree t ++ xs)) (rest-with_kids ts us)
    ∙ ap (λ xs. codes "," ++ xs) (sym (append_assoc (json_tree t) (json_rest ts) (json_rest us)))
    ∙ sym (append_assoc (codes ",") (json_tree t ++ json_rest ts) (json_rest us))

row-with_kids : (later : Bool) (ts us : Trees) → row later (with_kids ts us) ≡ row later ts ++ row (after later ts) us
row-with_kids later no_trees us = refl
row-with_kids later (tree t ts) us =
    ap (λ xs. comma_if later ++ (json_tree t ++ xs)) (rest-with_kids ts us ∙ ap (λ xs. json_rest ts ++ xs) (sym (row-rest us)))
    ∙ ap (λ xs. comma_if later ++ xs) (sym (append_assoc (json_tree t) (json_rest ts) (row true us)))
    ∙ sym (append_assoc (comma_if later) (json_tree t ++ json_rest ts) (row true us))

after-with_kids : (later : Bool) (ts us : Trees) → after later (with_kids ts us) ≡ after (after later ts) us
after-with_kids later no_trees us = refl
after-with_kids later (tree t ts) no_trees = refl
after-with_kids later (tree t ts) (tree u us) = refl

-- what one shows, before what others show
abbrev trees_in : Kept → Trees
trees_in t = trees_of (kept t no_kepts)

with-none : (ts : Trees) → with_kids ts no_trees ≡ ts
with-none no_trees = refl
with-none (tree t ts) = ap (λ us. tree t us) (with-none ts)

trees-more : (t : Kept) (ts : Kepts) → trees_of (kept t ts) ≡ with_kids (trees_in t) (trees_of ts)
trees-more (kept_leaf text) ts = refl
trees-more (kept_node true label kids) ts = ap (λ us. with_kids us (trees_of ts)) (sym (with-none (trees_of kids)))
trees-more (kept_node false label kids) ts = refl

-- what is written of a row, and what follows
abbrev written : Bool → ℕ → Trees → (Bool → List ℕ) → List ℕ
written later more ts rest = opened later more ++ (row (still later more) ts ++ rest (after (still later more) ts))

-- a leaf after so many openings
leaf-written : (later : Bool) (more : ℕ) (own rest : List ℕ)
    → comma_if later ++ (braces more ++ (own ++ rest)) ≡ opened later more ++ ((comma_if (still later more) ++ (own ++ [])) ++ rest)
leaf-written later zero own rest = simp append_assoc
leaf-written later (suc n) own rest = simp append_assoc

-- a node opens one more
node-written : (later : Bool) (more : ℕ) (kids own rest : List ℕ)
    → opened later (suc more) ++ (kids ++ (own ++ rest))
    ≡ opened later more ++ ((comma_if (still later more) ++ ((codes "{\"kids\":[" ++ (kids ++ own)) ++ [])) ++ rest)
node-written later zero kids own rest = simp append_assoc
node-written later (suc n) kids own rest = simp append_assoc

-- what is written of a node behind its kids
abbrev behind : Bool → List ℕ → List ℕ
behind true label = []
behind false label = codes "],\"node\":" ++ (quoted label ++ codes "}")

own-behind : (away : Bool) (label xs ls : List ℕ) (t e s : ℕ) → own_json (Node away (length label) t e s) xs (label ++ ls) ≡ behind away label
own-behind true label xs ls t e s = refl
own-behind false label xs ls t e s = ap (λ own. codes "],\"node\":" ++ (quoted own ++ codes "}")) (take_at label ls (length label) refl)

-- the entry of a node, at which so many nodes begin
json-top : (away : Bool) (label : List ℕ) (t e s : ℕ) (later : Bool) (more : ℕ) (es : List Entry) (counts xs ls : List ℕ)
    → entries_json later (Node away (length label) t e s ∷ es) (more ∷ counts) xs (label ++ ls)
    ≡ opened later more ++ (behind away label ++ entries_json (ended (still later more) (Node away (length label) t e s)) es counts xs ls)
json-top away label t e s later zero es counts xs ls =
    ap (λ comma. comma ++ (own_json (Node away (length label) t e s) xs (label ++ ls) ++ entries_json (ended later (Node away (length label) t e s)) es counts xs (drop (length label) (label ++ ls))))
    (separator-none later away (length label) t e s)
    ∙ ap (λ own. own ++ entries_json (ended later (Node away (length label) t e s)) es counts xs (drop (length label) (label ++ ls))) (own-behind away label xs ls t e s)
    ∙ ap (λ rest. behind away label ++ entries_json (ended later (Node away (length label) t e s)) es counts xs rest) (drop_at label ls (length label) refl)
json-top away label t e s later (suc n) es counts xs ls =
    ap (λ comma. comma ++ (braces (suc n) ++ (own_json (Node away (length label) t e s) xs (label ++ ls) ++ entries_json (ended false (Node away (length label) t e s)) es counts xs (drop (length label) (label ++ ls)))))
    (separator-some later away n (length label) t e s)
    ∙ ap (λ own. comma_if later ++ (braces (suc n) ++ (own ++ entries_json (ended false (Node away (length label) t e s)) es counts xs (drop (length label) (label ++ ls))))) (own-behind away label xs ls t e s)
    ∙ ap (λ rest. comma_if later ++ (braces (suc n) ++ (behind away label ++ entries_json (ended false (Node away (length label) t e s)) es counts xs rest))) (drop_at label ls (length label) refl)
    ∙ sym (append_assoc (comma_if later) (braces (suc n)) (behind away label ++ entries_json (ended false (Node away (length label) t e s)) es counts xs ls))

-- the entries of a tree are written as what it shows
mutual
  json-tree : (t : Kept) (later : Bool) (more : ℕ) (es : List Entry) (counts xs ls : List ℕ)
      → entries_json later (kept_entries t ++ es) (openings_with more t ++ counts) (kept_texts t ++ xs) (kept_labels t ++ ls)
      ≡ written later more (trees_in t) (λ b. entries_json b es counts xs ls)
  json-tree (kept_leaf text) later more es counts xs ls =
      ap (λ comma. comma ++ (braces more ++ (quoted (take (length text) (text ++ xs)) ++ entries_json true es counts (drop (length text) (text ++ xs)) ls)))
      (separator-leaf later more (length text))
      ∙ ap (λ own. comma_if later ++ (braces more ++ (quoted own ++ entries_json true es counts (drop (length text) (text ++ xs)) ls)))
      (take_at text xs (length text) refl)
      ∙ ap (λ rest. comma_if later ++ (braces more ++ (quoted text ++ entries_json true es counts rest ls))) (drop_at text xs (length text) refl)
      ∙ leaf-written later more (quoted text) (entries_json true es counts xs ls)
  json-tree (kept_node true label kids) later more es counts xs ls =
      json-node kids true label later more es counts xs ls
      ∙ ap (λ us. written later more us (λ b. entries_json b es counts xs ls)) (sym (with-none (trees_of kids)))
  json-tree (kept_node false label kids) later more es counts xs ls =
      let own = codes "],\"node\":" ++ (quoted label ++ codes "}") in
      let rest = entries_json true es counts xs ls in
      json-node kids false label later (suc more) es counts xs ls
      ∙ ap (λ ks. opened later (suc more) ++ (ks ++ (own ++ rest))) (row-first (trees_of kids))
      ∙ node-written later more (json_kids (trees_of kids)) own rest

  -- a node's kids, and what is written behind them
  json-node : (kids : Kepts) (away : Bool) (label : List ℕ) (later : Bool) (more : ℕ) (es : List Entry) (counts xs ls : List ℕ)
      → entries_json later (kept_entries (kept_node away label kids) ++ es) (node_openings more kids ++ counts) (kepts_texts kids ++ xs) ((kepts_labels kids ++ label) ++ ls)
      ≡ written later more (trees_of kids) (λ b. behind away label ++ entries_json (ended b (top (kept_node away label kids))) es counts xs ls)
  json-node no_kepts away label later more es counts xs ls = json-top away label 0 1 (length label) later more es counts xs ls
  json-node (kept t ts) away label later more es counts xs ls =
      let n = top (kept_node away label (kept t ts)) in
      let es' = kepts_entries ts ++ n ∷ es in
      let counts' = kids_openings ts ++ 0 ∷ counts in
      let ls' = kepts_labels ts ++ (label ++ ls) in
      let one = trees_in t in
      let first = still later more in
      let next = λ (b : Bool). behind away label ++ entries_json (ended b n) es counts xs ls in
      let entries : ((kept_entries t ++ kepts_entries ts) ++ n ∷ []) ++ es ≡ kept_entries t ++ es' = simp append_assoc in
      let openings : (openings_with more t ++ (kids_openings ts ++ 0 ∷ [])) ++ counts ≡ openings_with more t ++ counts' = simp append_assoc in
      let labels : ((kept_labels t ++ kepts_labels ts) ++ label) ++ ls ≡ kept_labels t ++ ls' = simp append_assoc in
      ap (λ own. entries_json later own ((openings_with more t ++ (kids_openings ts ++ 0 ∷ [])) ++ counts) ((kept_texts t ++ kepts_texts ts) ++ xs) (((kept_labels t ++ kepts_labels ts) ++ label) ++ ls)) entries
      ∙ ap (λ own. entries_json later (kept_entries t ++ es') own ((kept_texts t ++ kepts_texts ts) ++ xs) (((kept_labels t ++ kepts_labels ts) ++ label) ++ ls)) openings
      ∙ ap (λ own. entries_json later (kept_entries t ++ es') (openings_with more t ++ counts') own (((kept_labels t ++ kepts_labels ts) ++ label) ++ ls)) (append_assoc (kept_texts t) (kepts_texts ts) xs)
      ∙ ap (λ own. entries_json later (kept_entries t ++ es') (openings_with more t ++ counts') (kept_texts t ++ (kepts_texts ts ++ xs)) own) labels
      ∙ json-tree t later more es' counts' (kepts_texts ts ++ xs) ls'
      ∙ ap (λ own. opened later more ++ (row first one ++ own))
      (json-kids ts (after first one) (n ∷ es) (0 ∷ counts) xs (label ++ ls)
      ∙ ap (λ own. row (after first one) (trees_of ts) ++ own)
      (json-top away label (length (kept_texts t ++ kepts_texts ts)) (length (kept_entries t ++ kepts_entries ts) + 1) (length ((kept_labels t ++ kepts_labels ts) ++ label))
      (after (after first one) (trees_of ts)) 0 es counts xs ls))
      ∙ ap (λ own. opened later more ++ own) (sym (append_assoc (row first one) (row (after first one) (trees_of ts)) (next (after (after first one) (trees_of ts)))))
      ∙ ap (λ own. opened later more ++ (own ++ next (after (after first one) (trees_of ts)))) (sym (row-with_kids first one (trees_of ts)))
      ∙ ap (λ b. opened later more ++ (row first (with_kids one (trees_of ts)) ++ next b)) (sym (after-with_kids first one (trees_of ts)))
      ∙ ap (λ us. opened later more ++ (row first us ++ next (after first us))) (sym (trees-more t ts))

  json-kids : (ts : Kepts) (later : Bool) (es : List Entry) (counts xs ls : List ℕ)
      → entries_json later (kepts_entries ts ++ es) (kids_openings ts ++ counts) (kepts_texts ts ++ xs) (kepts_labels ts ++ ls)
      ≡ row later (trees_of ts) ++ entries_json (after later (trees_of ts)) es counts xs ls
  json-kids no_kepts later es counts xs ls = refl
  json-kids (kept t ts) later es counts xs ls =
      let next = λ (b : Bool). entries_json b es counts xs ls in
      ap (λ own. entries_json later own ((openings_with 0 t ++ kids_openings ts) ++ counts) ((kept_texts t ++ kepts_texts ts) ++ xs) ((kept_labels t ++ kepts_labels ts) ++ ls))
      (append_assoc (kept_entries t) (kepts_entries ts) es)
      ∙ ap (λ own. entries_json later (kept_entries t ++ (kepts_entries ts ++ es)) own ((kept_texts t ++ kepts_texts ts) ++ xs) ((kept_labels t ++ kepts_labels ts) ++ ls))
      (append_assoc (openings_with 0 t) (kids_openings ts) counts)
      ∙ ap (λ own. entries_json later (kept_entries t ++ (kepts_entries ts ++ es)) (openings_with 0 t ++ (kids_openings ts ++ counts)) own ((kept_labels t ++ kepts_labels ts) ++ ls))
      (append_assoc (kept_texts t) (kepts_texts ts) xs)
      ∙ ap (λ own. entries_json later (kept_entries t ++ (kepts_entries ts ++ es)) (openings_with 0 t ++ (kids_openings ts ++ counts)) (kept_texts t ++ (kepts_texts ts ++ xs)) own)
      (append_assoc (kept_labels t) (kepts_labels ts) ls)
      ∙ json-tree t later 0 (kepts_entries ts ++ es) (kids_openings ts ++ counts) (kepts_texts ts ++ xs) (kepts_labels ts ++ ls)
      ∙ ap (λ own. row later (trees_in t) ++ own) (json-kids ts (after later (trees_in t)) es counts xs ls)
      ∙ sym (append_assoc (row later (trees_in t)) (row (after later (trees_in t)) (trees_of ts)) (next (after (after later (trees_in t)) (trees_of ts))))
      ∙ ap (λ own. own ++ next (after (after later (trees_in t)) (trees_of ts))) (sym (row-with_kids later (trees_in t) (trees_of ts)))
      ∙ ap (λ b. row later (with_kids (trees_in t) (trees_of ts)) ++ next b) (sym (after-with_kids later (trees_in t) (trees_of ts)))
      ∙ ap (λ us. row later us ++ next (after later us)) (sym (trees-more t ts))

-- those of a list are written as what they show, with commas between
pub json-stored : (es : List Entry) (counts xs ls : List ℕ) (ts : List Kept) → es ≡ entries_of ts → counts ≡ kids_openings (kepts_of ts) → xs ≡ texts_of ts
    → ls ≡ labels_of ts → entries_json false es counts xs ls ≡ json_kids (trees_of (kepts_of ts))
json-stored es counts xs ls ts e f g h =
    let ks = kepts_of ts in
    ap (λ own. entries_json false own counts xs ls) (e ∙ sym (append-nil (entries_of ts)))
    ∙ ap (λ own. entries_json false (entries_of ts ++ []) own xs ls) (f ∙ sym (append-nil (kids_openings ks)))
    ∙ ap (λ own. entries_json false (entries_of ts ++ []) (kids_openings ks ++ []) own ls) (g ∙ sym (append-nil (texts_of ts)))
    ∙ ap (λ own. entries_json false (entries_of ts ++ []) (kids_openings ks ++ []) (texts_of ts ++ []) own) (h ∙ sym (append-nil (labels_of ts)))
    ∙ json-kids ks false [] [] [] [] ∙ append-nil (row false (trees_of ks)) ∙ row-first (trees_of ks)

regrouped : (a b c d e : List ℕ) → (((a ++ b) ++ c) ++ d) ++ e ≡ a ++ (b ++ (c ++ (d ++ e)))
regrouped a b c d e = simp append_assoc

-- one entry more is written
pub json-more : (es : List Entry) (counts xs ls text one two three all : List ℕ) (later : Bool) (i n : ℕ) (e : Entry) → i < length es → i < length counts
    → e ≡ get_or es i e → n ≡ get_or counts i n → one ≡ text ++ separator later n e → two ≡ one ++ braces n → three ≡ two ++ own_json e xs ls
    → text ++ entries_json later (drop i es) (drop i counts) xs ls ≡ all
    → three ++ entries_json (ended (still later n) e) (drop (i + 1) es) (drop (i + 1) counts) (drop (own_text e) xs) (drop (own_label e) ls) ≡ all
json-more es counts xs ls text one two three all later i n e h k is number f g p done =
    let next = entries_json (ended (still later n) e) (drop (i + 1) es) (drop (i + 1) counts) (drop (own_text e) xs) (drop (own_label e) ls) in
    let entries : drop i es ≡ e ∷ drop (i + 1) es = drop_more es i e h ∙ ap (λ x. x ∷ drop (i + 1) es) (sym is) in
    let openings : drop i counts ≡ n ∷ drop (i + 1) counts = drop_more counts i 0 k ∙ ap (λ x. x ∷ drop (i + 1) counts) (sym (get_or_read counts i n k number 0)) in
    let texts : three ≡ ((text ++ separator later n e) ++ braces n) ++ own_json e xs ls = p ∙ ap (λ own. own ++ own_json e xs ls) (g ∙ ap (λ own. own ++ braces n) f) in
    ap (λ own. own ++ next) texts
    ∙ regrouped text (separator later n e) (braces n) (own_json e xs ls) next
    ∙ ap (λ own. text ++ entries_json later own (n ∷ drop (i + 1) counts) xs ls) (sym entries)
    ∙ ap (λ own. text ++ entries_json later (drop i es) own xs ls) (sym openings)
    ∙ done
