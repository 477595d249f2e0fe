-- What lists hold after the numbers of nodes were added to those that the nodes name.
use Rattle.std.proofs.Common.{◌≡◌, ℕ, zero, suc, ◌+◌, ◌<◌, true, ◌⊎◌, inl, inr, List, [], ◌∷◌, Some, slice_get, length, refl, sym, subst, ◌∙◌, arith}
use Rattle.pg_grammar_form.specs.Forms.{Node}
use Rattle.pg_graph.specs.Graphs.{has, numbers_at, joined_each}
use Rattle.pg_graph.proofs.Joining.{each_length, each_cases, each_kept, each_new}
use Rattle.pg_sets_nullable.specs.Parts.{all_joined}

-- a node with this number names a list
pub record Names (names : Node → List ℕ) (p : ℕ) (nodes : List Node) (u x : ℕ) : Type 0 where
  pub place : ℕ
  pub node : Node
  pub there : slice_get nodes place ≡ Some node
  pub is : x ≡ p + place
  pub named : has (names node) u ≡ true

later_names : (names : Node → List ℕ) (p : ℕ) (n : Node) (ns : List Node) (u x : ℕ) → Names names (suc p) ns u x → Names names p (n ∷ ns) u x
later_names names p n ns u x named = record {
  place = suc named.place;
  node = named.node;
  there = named.there;
  is = (let e = named.is in omega arith);
  named = named.named;
}

pub all_length : (names : Node → List ℕ) (p : ℕ) (nodes : List Node) (lists : List (List ℕ)) → length (all_joined names p nodes lists) ≡ length lists
all_length names p [] lists = refl
all_length names p (n ∷ ns) lists = all_length names (suc p) ns (joined_each lists (names n) p) ∙ each_length lists (names n) p

pub all_cases : (names : Node → List ℕ) (p : ℕ) (nodes : List Node) (lists : List (List ℕ)) (u x : ℕ) → has (numbers_at (all_joined names p nodes lists) u) x ≡ true
    → (has (numbers_at lists u) x ≡ true) ⊎ Names names p nodes u x
all_cases names p [] lists u x h = inl h
all_cases names p (n ∷ ns) lists u x h =
    elim (all_cases names (suc p) ns (joined_each lists (names n) p) u x h) [
      | inr later ↦ inr (later_names names p n ns u x later)
      | inl old ↦
          elim (each_cases lists (names n) p u x old) [
            | inl before ↦ inl before
            | inr new ↦ inr (record { place = zero; node = n; there = refl; is = (let e = new.1 in omega arith); named = new.0 })
          ]
    ]

all_kept : (names : Node → List ℕ) (p : ℕ) (nodes : List Node) (lists : List (List ℕ)) (u x : ℕ) → has (numbers_at lists u) x ≡ true
    → has (numbers_at (all_joined names p nodes lists) u) x ≡ true
all_kept names p [] lists u x h = h
all_kept names p (n ∷ ns) lists u x h = all_kept names (suc p) ns (joined_each lists (names n) p) u x (each_kept lists (names n) p u x h)

pub all_new : (names : Node → List ℕ) (p : ℕ) (nodes : List Node) (lists : List (List ℕ)) (u k : ℕ) (node : Node) → slice_get nodes k ≡ Some node
    → has (names node) u ≡ true → u < length lists → has (numbers_at (all_joined names p nodes lists) u) (p + k) ≡ true
all_new names p [] lists u zero node e named below = absurd cc
all_new names p [] lists u (suc k) node e named below = absurd cc
all_new names p (n ∷ ns) lists u zero node e named below =
    let same : ◌≡◌ {A = Node} n node = cc in
    let zeroth : p ≡ p + zero = omega arith in
    let at : has (numbers_at (joined_each lists (names n) p) u) p ≡ true = each_new lists (names n) p u (subst (λ m. has (names m) u ≡ true) (sym same) named) below in
    subst (λ x. has (numbers_at (all_joined names p (n ∷ ns) lists) u) x ≡ true) zeroth (all_kept names (suc p) ns (joined_each lists (names n) p) u p at)
all_new names p (n ∷ ns) lists u (suc k) node e named below =
    let next : suc p + k ≡ p + suc k = omega arith in
    subst (λ x. has (numbers_at (all_joined names p (n ∷ ns) lists) u) x ≡ true) next
    (all_new names (suc p) ns (joined_each lists (names n) p) u k node e named (subst (λ m. u < m) (sym (each_length lists (names n) p)) below))
