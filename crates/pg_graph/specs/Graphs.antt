-- Graphs as lists of numbers: for each vertex the numbers of its successors.
use Rattle.std.specs.Prelude.{◌≡◌, ◌↔◌, ◌<◌, ◌==◌, ℕ, Bool, true, false, List, [], ◌∷◌, ◌++◌, length, slice_set, slice_index_or}
use Rattle.std.specs.List.{list_any}
use Rattle.std.specs.List.Sorted.{IsStrictlyIncreasing}
use Rattle.pg_graph_bits.specs.Numbers.{contains, set_at}

-- whether a number is among these
abbrev pub has : List ℕ → ℕ → Bool
has numbers n = list_any (λ m. m == n) numbers

-- no number occurs twice
abbrev pub AreOnce : List ℕ → Type 0
AreOnce [] = Unit {0}
AreOnce (n ∷ ns) = (has ns n ≡ false) × AreOnce ns

-- the list with this index; empty if there is none
abbrev pub numbers_at : List (List ℕ) → ℕ → List ℕ
numbers_at lists k = slice_index_or lists k []

-- the lists, with a number appended to one of them
abbrev pub joined : List (List ℕ) → ℕ → ℕ → List (List ℕ)
joined lists k n = slice_set lists k (numbers_at lists k ++ n ∷ [])

-- the lists, with a number appended to each of these
abbrev pub joined_each : List (List ℕ) → List ℕ → ℕ → List (List ℕ)
joined_each lists [] n = lists
joined_each lists (k ∷ ks) n = joined_each (joined lists k n) ks n

-- a vertex is reached if it is a root, or if an edge leads to it from a reached vertex
pub data IsReached (graph : List (List ℕ)) (roots : List ℕ) : ℕ → Type 0 where
  root : {v : ℕ} → has roots v ≡ true → v < length graph → IsReached graph roots v
  onward : {w v : ℕ} → IsReached graph roots w → has (numbers_at graph w) v ≡ true → v < length graph → IsReached graph roots v

-- for each vertex, in ascending order, the numbers below `count` of the lists of roots from which it is reached
pub record IsGathered (graph roots : List (List ℕ)) (count : ℕ) (sets : List (List ℕ)) : Type 0 where
  pub long : length sets ≡ length graph
  pub members : (v k : ℕ) → v < length graph → (has (numbers_at sets v) k ≡ true) ↔ ((k < count) × IsReached graph (numbers_at roots k) v)
  pub ascending : (v : ℕ) → IsStrictlyIncreasing (numbers_at sets v)

-- for each vertex the set of the numbers of those lists of roots from which it is reached
pub record AreSpread (graph roots : List (List ℕ)) (sets : List (List Bool)) : Type 0 where
  pub long : length sets ≡ length graph
  pub limit : (v : ℕ) → v < length graph → length (set_at sets v) ≡ length roots
  pub members : (v k : ℕ) → v < length graph → (contains (set_at sets v) k ≡ true) ↔ ((k < length roots) × IsReached graph (numbers_at roots k) v)
