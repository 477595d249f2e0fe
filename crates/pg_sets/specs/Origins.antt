-- Which sets hold which starts by themselves, as a map from starts to the numbers of sets.
use Rattle.std.specs.Prelude.{◌≡◌, ◌↔◌, ◌⊎◌, ◌<◌, ℕ, true, List, [], Option, Some, slice_get, length, unwrap_or, is_some}
use Rattle.std.specs.BTreeMap.{BTreeMap, get}
use Rattle.std.specs.List.Sorted.{IsStrictlySortedBy}
use Rattle.pg_grammar_value.specs.Grammar.{Grammar}
use Rattle.pg_grammar_form.specs.Contents.{word_in}
use Rattle.pg_grammar_form.specs.Forms.{Node}
use Rattle.pg_grammar_form.specs.declared.form.Form.TheVariants as form
use Rattle.pg_grammar_form.specs.declared.form.Leaf.TheVariants as leaf
use Rattle.pg_grammar_form.specs.declared.used.OperatorBuilders.{OperatorBuilders}
use Rattle.pg_start.specs.declared.kind.StartKind.{StartKind}
use Rattle.pg_sets.specs.Flows.{follow_of}
use Rattle.pg_graph.specs.Graphs.{has, numbers_at}
use Rattle.pg_sets_own.specs.Listed.{IsListed, start_order}
use Rattle.pg_sets_own.specs.Own.{IsPlain}
use Rattle.pg_sets_own.specs.OwnStarts.{OwnStart, IsOperatorStart}
use Rattle.pg_sets.specs.Sources.{IsSource}
use Rattle.pg_sets_own.specs.declared.listed.ListedStart.{ListedStart}

-- for each start the numbers of some sets
abbrev pub Origins : Type 0
Origins = BTreeMap ListedStart (List ℕ)

-- the sets of a start; none for a start that isn't there
abbrev pub sets_of : Origins → ListedStart → List ℕ
sets_of origins listed = unwrap_or (get start_order origins listed) []

-- the set with this number is one of a start's
abbrev pub HoldsIt : Origins → ListedStart → ℕ → Type 0
HoldsIt origins listed v = has (sets_of origins listed) v ≡ true

-- the start is there
abbrev pub IsThere : Origins → ListedStart → Type 0
IsThere origins listed = is_some (get start_order origins listed) ≡ true

-- the set with this number holds the start by itself because of the node p: it is the node's own first set, or the
-- follow set of an expression's term, which holds the operators
pub data SourceAt (g : Grammar) (p : ℕ) : Node → StartKind → ℕ → Type 0 where
  own : {n : Node} {start : StartKind} → OwnStart g n start → SourceAt g p n start p
  operator : {builders : OperatorBuilders} {term v : ℕ} {start : StartKind} → IsOperatorStart g start → follow_of (length g.nodes) term ≡ v
      → SourceAt g p (form.Expression builders term) start v

-- as `SourceAt`, for one of the first `count` nodes
pub record SourceBelow (g : Grammar) (count : ℕ) (start : StartKind) (v : ℕ) : Type 0 where
  pub place : ℕ
  pub node : Node
  pub below : place < count
  pub there : slice_get g.nodes place ≡ Some node
  pub source : SourceAt g place node start v

-- the starts with the sets that hold them by themselves, for the first `count` nodes
pub record AreSoManyOrigins (g : Grammar) (count : ℕ) (origins : Origins) : Type 0 where
  pub held : (listed : ListedStart) (v : ℕ) → HoldsIt origins listed v ↔ (SourceBelow g count listed.start v × IsListed g listed)
  pub listed : (listed : ListedStart) → IsThere origins listed → IsListed g listed
  pub plain : (p : ℕ) (n : Node) → p < count → slice_get g.nodes p ≡ Some n → IsPlain g n → (start : StartKind) × OwnStart g n start

-- ---- words, item by item

-- the number of the word item whose words the node reads
abbrev pub item_read : Node → Option ℕ
item_read n = word_in n

-- the node with this number reads the words of the item
abbrev pub ReadsItem : Grammar → ℕ → ℕ → Type 0
ReadsItem g w v = slice_get g.nodes v ≡ Some (form.Leaf (leaf.Word w))

-- for each word item, which of the first `count` nodes read its words
pub record AreReaders (g : Grammar) (count : ℕ) (readers : List (List ℕ)) : Type 0 where
  pub long : length readers ≡ length g.words
  pub members : (w v : ℕ) → w < length g.words → (has (numbers_at readers w) v ≡ true) ↔ ((v < count) × ReadsItem g w v)

-- the node with this number reads words of one of the first `items` items, and the start is theirs
pub record ReadBelow (g : Grammar) (items : ℕ) (start : StartKind) (v : ℕ) : Type 0 where
  pub item : ℕ
  pub below : item < items
  pub there : ReadsItem g item v
  pub own : OwnStart g (form.Leaf (leaf.Word item)) start

-- the starts of the first `items` word items, with the nodes that read them
pub record AreItemOrigins (g : Grammar) (items : ℕ) (origins : Origins) : Type 0 where
  pub held : (listed : ListedStart) (v : ℕ) → HoldsIt origins listed v ↔ (ReadBelow g items listed.start v × IsListed g listed)
  pub listed : (listed : ListedStart) → IsThere origins listed → IsListed g listed

-- the starts of all word items, and those of the first `count` nodes
pub record AreMixedOrigins (g : Grammar) (count : ℕ) (origins : Origins) : Type 0 where
  pub held : (listed : ListedStart) (v : ℕ) → HoldsIt origins listed v ↔ ((SourceBelow g count listed.start v ⊎ ReadBelow g (length g.words) listed.start v) × IsListed g listed)
  pub listed : (listed : ListedStart) → IsThere origins listed → IsListed g listed
  pub plain : (p : ℕ) (n : Node) → p < count → slice_get g.nodes p ≡ Some n → IsPlain g n → (start : StartKind) × OwnStart g n start

-- ---- all nodes

-- as `AreSoManyOrigins`, for all nodes and for the end
pub record AreOrigins (g : Grammar) (origins : Origins) : Type 0 where
  pub held : (listed : ListedStart) (v : ℕ) → HoldsIt origins listed v ↔ (IsSource g listed.start v × IsListed g listed)
  pub listed : (listed : ListedStart) → IsThere origins listed → IsListed g listed
  pub plain : (p : ℕ) (n : Node) → slice_get g.nodes p ≡ Some n → IsPlain g n → (start : StartKind) × OwnStart g n start

-- the start is in the list, under its name
pub record IsAt (starts : List ListedStart) (start : StartKind) : Type 0 where
  pub place : ℕ
  pub listed : ListedStart
  pub there : slice_get starts place ≡ Some listed
  pub same : listed.start ≡ start

-- the starts in their order, each with the sets that hold it by themselves
pub record AreListed (g : Grammar) (starts : List ListedStart) (roots : List (List ℕ)) : Type 0 where
  pub ordered : IsStrictlySortedBy start_order starts
  pub long : length roots ≡ length starts
  pub listed : (k : ℕ) (listed : ListedStart) → slice_get starts k ≡ Some listed → IsListed g listed
  pub sources : (k v : ℕ) (listed : ListedStart) → slice_get starts k ≡ Some listed → (has (numbers_at roots k) v ≡ true) ↔ IsSource g listed.start v
  pub all : (start : StartKind) (v : ℕ) → IsSource g start v → IsAt starts start
  pub plain : (p : ℕ) (n : Node) → slice_get g.nodes p ≡ Some n → IsPlain g n → (start : StartKind) × OwnStart g n start
