-- How trees are stored: their leaves and nodes in postorder, the texts of the leaves and the labels of the nodes in the same order.
use Rattle.std.specs.Prelude.{◌≡◌, ◌+◌, ◌-◌, ◌≤◌, ℕ, zero, suc, Bool, true, false, List, [], ◌∷◌, ◌++◌, length, take, drop, reverse}
use Rattle.pg_tree.specs.Kept.{Kept, Kepts, kept_leaf, kept_node, no_kepts, kept, kepts_of}
use Rattle.pg_tree.specs.declared.entry.Entry.{Entry}
use Rattle.pg_tree.specs.declared.entry.Entry.TheVariants.{Leaf, Node}
use Rattle.pg_tree.specs.declared.entry.Extent.{Extent}
use Rattle.pg_tree.specs.declared.store.Store.{Store}

-- the texts of the leaves, joined
abbrev mutual
  pub kept_texts : Kept → List ℕ
  kept_texts (kept_leaf text) = text
  kept_texts (kept_node away label kids) = kepts_texts kids

  pub kepts_texts : Kepts → List ℕ
  kepts_texts no_kepts = []
  kepts_texts (kept t ts) = kept_texts t ++ kepts_texts ts

-- the labels of the nodes, joined; a node's label comes after those of its kids
abbrev mutual
  pub kept_labels : Kept → List ℕ
  kept_labels (kept_leaf text) = []
  kept_labels (kept_node away label kids) = kepts_labels kids ++ label

  pub kepts_labels : Kepts → List ℕ
  kepts_labels no_kepts = []
  kepts_labels (kept t ts) = kept_labels t ++ kepts_labels ts

-- the entries; a node's entry comes after those of its kids
abbrev mutual
  pub kept_entries : Kept → List Entry
  kept_entries (kept_leaf text) = Leaf (length text) ∷ []
  kept_entries (kept_node away label kids) = kepts_entries kids
      ++ Node away (length label) (length (kepts_texts kids)) (length (kepts_entries kids) + 1) (length (kepts_labels kids ++ label)) ∷ []

  pub kepts_entries : Kepts → List Entry
  kepts_entries no_kepts = []
  kepts_entries (kept t ts) = kept_entries t ++ kepts_entries ts

-- the entries of a list of trees
abbrev pub entries_of : List Kept → List Entry
entries_of ts = kepts_entries (kepts_of ts)

-- the texts of the leaves of a list of trees, joined
abbrev pub texts_of : List Kept → List ℕ
texts_of ts = kepts_texts (kepts_of ts)

-- the labels of the nodes of a list of trees, joined
abbrev pub labels_of : List Kept → List ℕ
labels_of ts = kepts_labels (kepts_of ts)

-- the size of the tree whose last entry this is
abbrev pub extent_of : Entry → Extent
extent_of (Leaf n) = record { entries = 1; texts = n; labels = 0 }
extent_of (Node away label texts entries labels) = record { entries = entries; texts = texts; labels = labels }

-- the length of an entry's own text, and that of its own label
abbrev pub own_text : Entry → ℕ
own_text (Leaf n) = n
own_text (Node away label texts entries labels) = 0

abbrev pub own_label : Entry → ℕ
own_label (Leaf n) = 0
own_label (Node away label texts entries labels) = label

-- the entry with its node marked as taken away
abbrev pub entry_away : Entry → Entry
entry_away (Leaf n) = Leaf n
entry_away (Node away label texts entries labels) = Node true label texts entries labels

-- takes trees off the stack until they have this many entries, and puts them before the kids; the trees, and what is left of the stack
abbrev pub kids_before : ℕ → Kepts → List Kept → Kepts
kids_before zero after stack = after
kids_before (suc n) after [] = after
kids_before (suc n) after (t ∷ stack) = kids_before (suc n - length (kept_entries t)) (kept t after) stack

abbrev pub rest_before : ℕ → List Kept → List Kept
rest_before zero stack = stack
rest_before (suc n) [] = []
rest_before (suc n) (t ∷ stack) = rest_before (suc n - length (kept_entries t)) stack

-- the trees that entries, texts and labels stand for, on top of those of a stack (the last first); a node takes its kids off the stack
abbrev pub shown_on : List Kept → List Entry → List ℕ → List ℕ → List Kept
shown_on stack [] texts labels = stack
shown_on stack (Leaf n ∷ es) texts labels = shown_on (kept_leaf (take n texts) ∷ stack) es (drop n texts) labels
shown_on stack (Node away label _ entries _ ∷ es) texts labels =
    shown_on (kept_node away (take label labels) (kids_before (entries - 1) no_kepts stack) ∷ rest_before (entries - 1) stack) es texts (drop label labels)

-- the trees that entries, texts and labels stand for
abbrev pub shown : List Entry → List ℕ → List ℕ → List Kept
shown entries texts labels = reverse (shown_on [] entries texts labels)

-- the entries, texts, labels and number of roots are those of these trees
pub record IsStored (entries : List Entry) (texts labels : List ℕ) (roots : ℕ) (ts : List Kept) : Type 0 where
  pub entries_are : entries ≡ entries_of ts
  pub texts_are : texts ≡ texts_of ts
  pub labels_are : labels ≡ labels_of ts
  pub roots_are : roots ≡ length ts

-- the trees in a store
abbrev pub kept_in : Store → List Kept
kept_in s = shown s.entries.items s.texts.items s.labels.items

-- the store keeps these trees
abbrev pub Keeps : Store → List Kept → Type 0
Keeps s ts = IsStored s.entries.items s.texts.items s.labels.items s.roots ts

-- the first `count` trees end here: they have this many entries, and this many bytes of texts and labels
pub record IsEndOf (ts : List Kept) (count : ℕ) (end : Extent) : Type 0 where
  pub within : count ≤ length ts
  pub entries_are : end.entries ≡ length (entries_of (take count ts))
  pub texts_are : end.texts ≡ length (texts_of (take count ts))
  pub labels_are : end.labels ≡ length (labels_of (take count ts))
