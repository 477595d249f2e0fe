-- What a graph has when edges were added to it.
use Rattle.std.proofs.Common.{◌≡◌, ℕ, zero, suc, ◌+◌, ◌<◌, Bool, true, ◌⊎◌, inl, inr, List, [], ◌∷◌, ◌++◌, Some, slice_get, length, refl, sym, subst, ◌∙◌, arith, length-set}
use Rattle.pg_grammar_form.specs.Forms.{Node}
use Rattle.pg_grammar_value.specs.declared.grammar.Rule.{Rule}
use Rattle.pg_graph.specs.Graphs.{has, numbers_at, joined}
use Rattle.pg_sets.specs.Flows.{Flow, with_flows, node_flows, all_flows}
use Rattle.pg_graph.proofs.Lists.{has_first, only_one}
use Rattle.pg_graph.proofs.Joining.{each_cases, each_kept, each_new}

-- one list of edges after another
pub with_flows-append : (graph : List (List ℕ)) (flows others : List Flow) → with_flows graph (flows ++ others) ≡ with_flows (with_flows graph flows) others
with_flows-append graph [] others = refl
with_flows-append graph (flow ∷ flows) others = with_flows-append (joined graph flow.0 flow.1) flows others

-- an edge is among these
pub data IsIn (u x : ℕ) : List Flow → Type 0 where
  here : {flows : List Flow} → IsIn u x ((u, x) ∷ flows)
  further : {flow : Flow} {flows : List Flow} → IsIn u x flows → IsIn u x (flow ∷ flows)

pub in_left : {u x : ℕ} {flows : List Flow} (others : List Flow) → IsIn u x flows → IsIn u x (flows ++ others)
in_left others here = here
in_left others (further is) = further (in_left others is)

pub in_right : {u x : ℕ} (flows : List Flow) {others : List Flow} → IsIn u x others → IsIn u x (flows ++ others)
in_right [] is = is
in_right (flow ∷ flows) is = further (in_right flows is)

pub in_cases : (u x : ℕ) (flows others : List Flow) → IsIn u x (flows ++ others) → IsIn u x flows ⊎ IsIn u x others
in_cases u x [] others is = inr is
in_cases u x (flow ∷ flows) others here = inl here
in_cases u x (flow ∷ flows) others (further is) = elim (in_cases u x flows others is) [ inl left ↦ inl (further left) | inr right ↦ inr right ]

-- what an edge of the graph then is
pub edge_cases : (graph : List (List ℕ)) (flows : List Flow) (u x : ℕ) → has (numbers_at (with_flows graph flows) u) x ≡ true
    → (has (numbers_at graph u) x ≡ true) ⊎ IsIn u x flows
edge_cases graph [] u x h = inl h
edge_cases graph (flow ∷ flows) u x h =
    elim (edge_cases (joined graph flow.0 flow.1) flows u x h) [
      | inr later ↦ inr (further later)
      | inl old ↦
          elim (each_cases graph (flow.0 ∷ []) flow.1 u x old) [
            | inl before ↦ inl before
            | inr new ↦ inr (same flow u x (only_one flow.0 u new.0) new.1)
          ]
    ]
  where
    same : (flow : Flow) (u x : ℕ) → flow.0 ≡ u → flow.1 ≡ x → IsIn u x (flow ∷ flows)
    same flow u x e f = subst (λ a. IsIn a x (flow ∷ flows)) e (subst (λ b. IsIn flow.0 b (flow ∷ flows)) f here)

edge_kept : (graph : List (List ℕ)) (flows : List Flow) (u x : ℕ) → has (numbers_at graph u) x ≡ true → has (numbers_at (with_flows graph flows) u) x ≡ true
edge_kept graph [] u x h = h
edge_kept graph (flow ∷ flows) u x h = edge_kept (joined graph flow.0 flow.1) flows u x (each_kept graph (flow.0 ∷ []) flow.1 u x h)

pub flows_length : (graph : List (List ℕ)) (flows : List Flow) → length (with_flows graph flows) ≡ length graph
flows_length graph [] = refl
flows_length graph (flow ∷ flows) = flows_length (joined graph flow.0 flow.1) flows ∙ length-set graph flow.0 (numbers_at graph flow.0 ++ flow.1 ∷ [])

pub edge_new : {u x : ℕ} (graph : List (List ℕ)) {flows : List Flow} → IsIn u x flows → u < length graph → has (numbers_at (with_flows graph flows) u) x ≡ true
edge_new {u} {x} graph (here {flows}) below = edge_kept (joined graph u x) flows u x (each_new graph (u ∷ []) x u (has_first [] u) below)
edge_new {u} graph (further {flow} {flows} is) below =
    edge_new (joined graph flow.0 flow.1) is (subst (λ n. u < n) (sym (length-set graph flow.0 (numbers_at graph flow.0 ++ flow.1 ∷ []))) below)

-- ---- the edges of all nodes

-- a node gives an edge
pub record Tells (rules : List Rule) (nullable keys : List Bool) (count p : ℕ) (nodes : List Node) (u x : ℕ) : Type 0 where
  pub place : ℕ
  pub node : Node
  pub there : slice_get nodes place ≡ Some node
  pub told : IsIn u x (node_flows rules nullable keys count (p + place) node)

pub all_told : (rules : List Rule) (nullable keys : List Bool) (count p : ℕ) (nodes : List Node) (u x : ℕ) → IsIn u x (all_flows rules nullable keys count p nodes)
    → Tells rules nullable keys count p nodes u x
all_told rules nullable keys count p [] u x is = elim is [ ]
all_told rules nullable keys count p (n ∷ ns) u x is =
    elim (in_cases u x (node_flows rules nullable keys count p n) (all_flows rules nullable keys count (suc p) ns) is) [
      | inl own ↦
          let zeroth : p ≡ p + zero = omega arith in
          record { place = zero; node = n; there = refl; told = subst (λ q. IsIn u x (node_flows rules nullable keys count q n)) zeroth own }
      | inr later ↦
          let rest = all_told rules nullable keys count (suc p) ns u x later in
          let next : suc p + rest.place ≡ p + suc rest.place = omega arith in
          record { place = suc rest.place; node = rest.node; there = rest.there; told = subst (λ q. IsIn u x (node_flows rules nullable keys count q rest.node)) next rest.told }
    ]

pub all_in : (rules : List Rule) (nullable keys : List Bool) (count p : ℕ) (nodes : List Node) (k : ℕ) (n : Node) (u x : ℕ) → slice_get nodes k ≡ Some n
    → IsIn u x (node_flows rules nullable keys count (p + k) n) → IsIn u x (all_flows rules nullable keys count p nodes)
all_in rules nullable keys count p [] zero n u x at is = absurd cc
all_in rules nullable keys count p [] (suc k) n u x at is = absurd cc
all_in rules nullable keys count p (m ∷ ns) zero n u x at is =
    let same : ◌≡◌ {A = Node} n m = cc in
    let zeroth : p + zero ≡ p = omega arith in
    in_left (all_flows rules nullable keys count (suc p) ns)
    (subst (λ q. IsIn u x (node_flows rules nullable keys count q m)) zeroth (subst (λ o. IsIn u x (node_flows rules nullable keys count (p + zero) o)) same is))
all_in rules nullable keys count p (m ∷ ns) (suc k) n u x at is =
    let next : p + suc k ≡ suc p + k = omega arith in
    in_right (node_flows rules nullable keys count p m)
    (all_in rules nullable keys count (suc p) ns k n u x at (subst (λ q. IsIn u x (node_flows rules nullable keys count q n)) next is))
