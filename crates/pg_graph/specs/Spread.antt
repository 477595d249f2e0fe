-- How sets of numbers are handed on from vertex to vertex of a graph.
use Rattle.std.specs.Prelude.{◌≡◌, ◌⊎◌, ◌<◌, ◌≤◌, ◌+◌, ◌*◌, ◌/◌, ◌-◌, nat_lt, ℕ, Bool, true, false, not, if◌then◌else◌, List, [], ◌∷◌, length, slice_set}
use Rattle.std.specs.List.{sum_by, count_by}
use Rattle.pg_graph_bits.specs.Numbers.{contains, set_at}
use Rattle.pg_graph.specs.Graphs.{has}
use Rattle.pg_graph.specs.Marks.{is_marked}

-- the sets, with a number added to one of them
abbrev pub with_number : List (List Bool) → ℕ → ℕ → List (List Bool)
with_number sets k n = slice_set sets k (slice_set (set_at sets k) n true)

-- the sets, with a number added to each of these
abbrev pub with_number_each : List (List Bool) → List ℕ → ℕ → List (List Bool)
with_number_each sets [] n = sets
with_number_each sets (k ∷ ks) n = with_number_each (with_number sets k n) ks n

-- the vertex whose turn it is: first the lower half of the vertices in descending order, then the upper half in ascending order, then the upper half
-- in descending order
abbrev pub vertex_at : ℕ → ℕ → ℕ
vertex_at count at = if nat_lt at (count / 2) then count / 2 - 1 - at else (if nat_lt at count then at else count - 1 - (at - count))

-- a bound on the work left: each number that isn't in a set may still be added and make that set wait
abbrev pub left_to_do : List (List Bool) → List Bool → ℕ
left_to_do sets waits = 2 * sum_by (count_by not) sets + count_by (λ wait. wait) waits

-- a set is handed on along its edges; sets that grow by that then wait
pub record IsHandedOn (edges : List ℕ) (from : ℕ) (sets : List (List Bool)) (waits : List Bool) (new : List (List Bool)) (waiting : List Bool) : Type 0 where
  pub long : length new ≡ length sets
  pub marks : length waiting ≡ length waits
  pub limit : (v : ℕ) → length (set_at new v) ≡ length (set_at sets v)
  pub kept : (v k : ℕ) → contains (set_at sets v) k ≡ true → contains (set_at new v) k ≡ true
  pub given : (v k : ℕ) → has edges v ≡ true → v < length sets → contains (set_at sets from) k ≡ true → contains (set_at new v) k ≡ true
  pub only : (v k : ℕ) → contains (set_at new v) k ≡ true → (contains (set_at sets v) k ≡ true) ⊎ ((has edges v ≡ true) × (contains (set_at sets from) k ≡ true))
  pub still : (v : ℕ) → is_marked waiting v ≡ false → (is_marked waits v ≡ false) × ((k : ℕ) → contains (set_at new v) k ≡ true → contains (set_at sets v) k ≡ true)
  pub fewer : left_to_do new waiting ≤ left_to_do sets waits
