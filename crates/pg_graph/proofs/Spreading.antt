-- How far sets have been handed on, and what they are when nobody waits.
use Rattle.std.proofs.Common.{◌≡◌, ℕ, ◌+◌, ◌-◌, ◌/◌, ◌<◌, ◌≤◌, Bool, true, false, cond, ltb, ◌⊎◌, inl, inr, List, [], ◌∷◌, length, slice_set, replicate, refl, sym, ap, subst, ◌∙◌, arith, length-set}
use Rattle.std.specs.Prelude.{◌↔◌}
use Rattle.std.proofs.lemmas.Bool.{cases_eq, cases_lt, true≢false, lt-ltb, le-ltb}
use Rattle.std.proofs.lemmas.List.{get_or-set_same, get_or-set_other, get_or-replicate, get_or_past, length-replicate}
use Rattle.pg_graph_bits.specs.Numbers.{contains, set_at}
use Rattle.pg_graph.specs.Graphs.{has, numbers_at, IsReached, root, onward, AreSpread}
use Rattle.pg_graph.specs.Marks.{is_marked}
use Rattle.pg_graph.specs.Spread.{with_number, with_number_each, vertex_at, IsHandedOn}
use Rattle.pg_graph_bits.proofs.Inside.{contains_below}
use Rattle.pg_graph.proofs.Growing.{set_below}
use Rattle.pg_graph.proofs.Lists.{has_first, has_after, has_cases}

-- ---- a number more

with_long : (sets : List (List Bool)) (k n : ℕ) → length (with_number sets k n) ≡ length sets
with_long sets k n = length-set sets k (slice_set (set_at sets k) n true)

with_limit : (sets : List (List Bool)) (k n v : ℕ) → length (set_at (with_number sets k n) v) ≡ length (set_at sets v)
with_limit sets k n v =
    elim (cases_eq v k) [
      | inr ne ↦ ap length (get_or-set_other sets k v (slice_set (set_at sets k) n true) [] ne)
      | inl e ↦
          elim (cases_lt k (length sets)) [
            | inl below ↦
                ap (λ u. length (set_at (with_number sets k n) u)) e
                ∙ (ap length (get_or-set_same sets k (slice_set (set_at sets k) n true) [] below) ∙ (length-set (set_at sets k) n true ∙ ap (λ u. length (set_at sets u)) (sym e)))
            | inr past ↦
                let long = with_long sets k n in
                ap length (get_or_past (with_number sets k n) v [] (omega arith)) ∙ sym (ap length (get_or_past sets v [] (omega arith)))
          ]
    ]

with_kept : (sets : List (List Bool)) (k n v m : ℕ) → contains (set_at sets v) m ≡ true → contains (set_at (with_number sets k n) v) m ≡ true
with_kept sets k n v m h =
    elim (cases_eq v k) [
      | inr ne ↦ ap (λ set. contains set m) (get_or-set_other sets k v (slice_set (set_at sets k) n true) [] ne) ∙ h
      | inl e ↦
          let below : k < length sets = subst (λ u. u < length sets) e (set_below sets v m h) in
          let at : contains (set_at sets k) m ≡ true = subst (λ u. contains (set_at sets u) m ≡ true) e h in
          ap (λ u. contains (set_at (with_number sets k n) u) m) e
          ∙ (ap (λ set. contains set m) (get_or-set_same sets k (slice_set (set_at sets k) n true) [] below) ∙ elim (cases_eq m n) [
            | inl same ↦ subst (λ j. contains (slice_set (set_at sets k) n true) j ≡ true) (sym same)
                (get_or-set_same (set_at sets k) n true false (subst (λ j. j < length (set_at sets k)) same (contains_below (set_at sets k) m at)))
            | inr other ↦ get_or-set_other (set_at sets k) n m true false other ∙ at
          ])
    ]

with_new : (sets : List (List Bool)) (k n : ℕ) → k < length sets → n < length (set_at sets k) → contains (set_at (with_number sets k n) k) n ≡ true
with_new sets k n below few =
    ap (λ set. contains set n) (get_or-set_same sets k (slice_set (set_at sets k) n true) [] below) ∙ get_or-set_same (set_at sets k) n true false few

with_cases : (sets : List (List Bool)) (k n v m : ℕ) → contains (set_at (with_number sets k n) v) m ≡ true → (contains (set_at sets v) m ≡ true) ⊎ ((k ≡ v) × (n ≡ m))
with_cases sets k n v m h =
    elim (cases_eq v k) [
      | inr ne ↦ inl (ap (λ set. contains set m) (sym (get_or-set_other sets k v (slice_set (set_at sets k) n true) [] ne)) ∙ h)
      | inl e ↦
          let long = with_long sets k n in
          let inside = set_below (with_number sets k n) v m h in
          let below : k < length sets = omega arith in
          elim (cases_eq m n) [
            | inl same ↦ inr (sym e, sym same)
            | inr other ↦
                inl (subst (λ u. contains (set_at sets u) m ≡ true) (sym e)
                (sym (get_or-set_other (set_at sets k) n m true false other)
                ∙ (sym (ap (λ set. contains set m) (get_or-set_same sets k (slice_set (set_at sets k) n true) [] below)) ∙ subst (λ u. contains (set_at (with_number sets k n) u) m ≡ true) e h)))
          ]
    ]

pub each_long : (sets : List (List Bool)) (ks : List ℕ) (n : ℕ) → length (with_number_each sets ks n) ≡ length sets
each_long sets [] n = refl
each_long sets (k ∷ ks) n = each_long (with_number sets k n) ks n ∙ with_long sets k n

pub each_limit : (sets : List (List Bool)) (ks : List ℕ) (n v : ℕ) → length (set_at (with_number_each sets ks n) v) ≡ length (set_at sets v)
each_limit sets [] n v = refl
each_limit sets (k ∷ ks) n v = each_limit (with_number sets k n) ks n v ∙ with_limit sets k n v

each_kept : (sets : List (List Bool)) (ks : List ℕ) (n v m : ℕ) → contains (set_at sets v) m ≡ true → contains (set_at (with_number_each sets ks n) v) m ≡ true
each_kept sets [] n v m h = h
each_kept sets (k ∷ ks) n v m h = each_kept (with_number sets k n) ks n v m (with_kept sets k n v m h)

each_new : (sets : List (List Bool)) (ks : List ℕ) (n v : ℕ) → has ks v ≡ true → v < length sets → n < length (set_at sets v) → contains (set_at (with_number_each sets ks n) v) n ≡ true
each_new sets [] n v h below few = absurd (true≢false (sym h))
each_new sets (k ∷ ks) n v h below few =
    elim (has_cases ks k v h) [
      | inl e ↦ each_kept (with_number sets k n) ks n v n (subst (λ u. contains (set_at (with_number sets k n) u) n ≡ true) e (with_new sets k n (omega arith) (subst (λ u. n < length (set_at sets u)) (sym e) few)))
      | inr later ↦ each_new (with_number sets k n) ks n v later (subst (λ j. v < j) (sym (with_long sets k n)) below) (subst (λ j. n < j) (sym (with_limit sets k n v)) few)
    ]

each_cases : (sets : List (List Bool)) (ks : List ℕ) (n v m : ℕ) → contains (set_at (with_number_each sets ks n) v) m ≡ true
    → (contains (set_at sets v) m ≡ true) ⊎ ((has ks v ≡ true) × (n ≡ m))
each_cases sets [] n v m h = inl h
each_cases sets (k ∷ ks) n v m h =
    elim (each_cases (with_number sets k n) ks n v m h) [
      | inr later ↦ inr (has_after ks k v later.0, later.1)
      | inl old ↦
          elim (with_cases sets k n v m old) [
            | inl before ↦ inl before
            | inr new ↦ inr (subst (λ u. has (k ∷ ks) u ≡ true) new.0 (has_first ks k), new.1)
          ]
    ]

-- ---- the roots

-- each set has the numbers, below some, of the lists of roots that it stands in
pub record AreRooted (graph roots : List (List ℕ)) (count : ℕ) (sets : List (List Bool)) : Type 0 where
  pub long : length sets ≡ length graph
  pub limit : (v : ℕ) → v < length graph → length (set_at sets v) ≡ length roots
  pub members : (v k : ℕ) → v < length graph → (contains (set_at sets v) k ≡ true) ↔ ((k < count) × (has (numbers_at roots k) v ≡ true))

pub rooted_more : (graph roots : List (List ℕ)) (n : ℕ) (sets : List (List Bool)) → n < length roots → AreRooted graph roots n sets
    → AreRooted graph roots (n + 1) (with_number_each sets (numbers_at roots n) n)
rooted_more graph roots n sets inside rooted = record {
  long = each_long sets (numbers_at roots n) n ∙ rooted.long;
  limit = λ v below. each_limit sets (numbers_at roots n) n v ∙ rooted.limit v below;
  members = λ v k below.
      let here : v < length sets = subst (λ m. v < m) (sym rooted.long) below in
      let few : n < length (set_at sets v) = subst (λ m. n < m) (sym (rooted.limit v below)) inside in
      let old = rooted.members v k below in (
        λ h.
            elim (each_cases sets (numbers_at roots n) n v k h) [
              | inl before ↦ let was = old.0 before in let less = was.0 in (omega arith, was.1)
              | inr new ↦ (let e = new.1 in omega arith, subst (λ m. has (numbers_at roots m) v ≡ true) new.1 new.0)
            ],
        λ h.
            elim (cases_eq k n) [
              | inl e ↦
                  subst (λ m. contains (set_at (with_number_each sets (numbers_at roots n) n) v) m ≡ true) (sym e)
                  (each_new sets (numbers_at roots n) n v (subst (λ m. has (numbers_at roots m) v ≡ true) e h.1) here few)
              | inr ne ↦ let less = h.0 in let lower : k < n = omega arith in each_kept sets (numbers_at roots n) n v k (old.1 (lower, h.1))
            ],
      );
}

-- ---- handing on

-- whoever doesn't wait has handed on what it has
pub record IsSpreading (graph roots : List (List ℕ)) (sets : List (List Bool)) (waits : List Bool) : Type 0 where
  pub long : length sets ≡ length graph
  pub marks : length waits ≡ length graph
  pub limit : (v : ℕ) → v < length graph → length (set_at sets v) ≡ length roots
  pub reached : (v k : ℕ) → contains (set_at sets v) k ≡ true → IsReached graph (numbers_at roots k) v
  pub rooted : (v k : ℕ) → v < length graph → k < length roots → has (numbers_at roots k) v ≡ true → contains (set_at sets v) k ≡ true
  pub handed : (v w k : ℕ) → is_marked waits v ≡ false → has (numbers_at graph v) w ≡ true → w < length graph → contains (set_at sets v) k ≡ true → contains (set_at sets w) k ≡ true

-- at first everybody waits
pub spreading_starts : (graph roots : List (List ℕ)) (sets : List (List Bool)) (waits : List Bool) → AreRooted graph roots (length roots) sets
    → waits ≡ replicate (length graph) true → IsSpreading graph roots sets waits
spreading_starts graph roots sets waits rooted all =
    let long : length waits ≡ length graph = ap length all ∙ length-replicate {A = Bool} (length graph) true in
    record {
      long = rooted.long;
      marks = long;
      limit = rooted.limit;
      reached = λ v k h.
          let below = subst (λ m. v < m) rooted.long (set_below sets v k h) in
          root ((rooted.members v k below).0 h).1 below;
      rooted = λ v k below few h. (rooted.members v k below).1 (few, h);
      handed = λ v w k out edge inside h.
          let below = subst (λ m. v < m) rooted.long (set_below sets v k h) in
          absurd (true≢false (sym (ap (λ ws. is_marked ws v) all ∙ get_or-replicate (length graph) v true false below) ∙ out));
    }

module _ (graph roots : List (List ℕ)) (sets : List (List Bool)) (waits : List Bool) (spreading : IsSpreading graph roots sets waits) where
  -- one vertex hands its set on
  pub spreading_on : (vertex : ℕ) (new : List (List Bool)) (waiting : List Bool) → vertex < length graph
      → IsHandedOn (numbers_at graph vertex) vertex sets (slice_set waits vertex false) new waiting → IsSpreading graph roots new waiting
  spreading_on vertex new waiting inside handed = record {
    long = handed.long ∙ spreading.long;
    marks = handed.marks ∙ (length-set waits vertex false ∙ spreading.marks);
    limit = λ v below. handed.limit v ∙ spreading.limit v below;
    reached = λ v k h.
        let below : v < length graph = subst (λ m. v < m) (handed.long ∙ spreading.long) (set_below new v k h) in
        elim (handed.only v k h) [ inl had ↦ spreading.reached v k had | inr edge ↦ onward (spreading.reached vertex k edge.1) edge.0 below ];
    rooted = λ v k below few h. handed.kept v k (spreading.rooted v k below few h);
    handed = λ v w k out edge below h.
        let was = handed.still v out in
        let had = was.1 k h in
        elim (cases_eq v vertex) [
          | inl e ↦
              handed.given w k (subst (λ u. has (numbers_at graph u) w ≡ true) e edge) (subst (λ m. w < m) (sym spreading.long) below) (subst (λ u. contains (set_at sets u) k ≡ true) e had)
          | inr ne ↦ handed.kept w k (spreading.handed v w k (sym (get_or-set_other waits vertex v false false ne) ∙ was.0) edge below had)
        ];
  }

  -- when nobody waits, each set has all numbers from which it is reached
  pub spreading_ends : ((v : ℕ) → is_marked waits v ≡ false) → AreSpread graph roots sets
  spreading_ends nobody = record {
    long = spreading.long;
    limit = spreading.limit;
    members = λ v k below. (
      λ h. (subst (λ m. k < m) (spreading.limit v below) (contains_below (set_at sets v) k h), spreading.reached v k h),
      λ h. all h.0 h.1,
    );
  }
    where
      all : {k v : ℕ} → k < length roots → IsReached graph (numbers_at roots k) v → contains (set_at sets v) k ≡ true
      all {k} {v} few (root is below) = spreading.rooted v k below few is
      all {k} {v} few (onward {w} from edge below) = spreading.handed w v k (nobody w) edge below (all few from)

-- ---- the order

in_first : (count at : ℕ) → at < count / 2 → vertex_at count at ≡ count / 2 - 1 - at
in_first count at first = ap (λ b. cond b (count / 2 - 1 - at) (cond (ltb at count) at (count - 1 - (at - count)))) (lt-ltb at (count / 2) first)

in_second : (count at : ℕ) → count / 2 ≤ at → at < count → vertex_at count at ≡ at
in_second count at second below =
    ap (λ b. cond b (count / 2 - 1 - at) (cond (ltb at count) at (count - 1 - (at - count)))) (le-ltb at (count / 2) second)
    ∙ ap (λ b. cond b at (count - 1 - (at - count))) (lt-ltb at count below)

-- each vertex has a place in the order
pub vertex_there : (count v : ℕ) → v < count → (vertex_at count v < count) × (vertex_at count (vertex_at count v) ≡ v)
vertex_there count v below =
    elim (cases_lt v (count / 2)) [
      | inl first ↦
          let there = in_first count v first in
          let turned : count / 2 - 1 - v < count / 2 = omega arith in
          let back = in_first count (count / 2 - 1 - v) turned in
          (omega arith, ap (vertex_at count) there ∙ (back ∙ omega arith))
      | inr second ↦
          let there = in_second count v second below in
          (omega arith, ap (vertex_at count) there ∙ there)
    ]

pub nobody_waits : (waits : List Bool) → ((k : ℕ) → k < length waits → is_marked waits (vertex_at (length waits) k) ≡ false) → (v : ℕ) → is_marked waits v ≡ false
nobody_waits waits none v =
    elim (cases_lt v (length waits)) [
      | inr past ↦ get_or_past waits v false past
      | inl below ↦ let there = vertex_there (length waits) v below in subst (λ u. is_marked waits u ≡ false) there.1 (none (vertex_at (length waits) v) there.0)
    ]
