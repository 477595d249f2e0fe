-- Numbers of nodes found from the last node to the first.
use Rattle.std.proofs.Common.{◌≡◌, ℕ, ◌<◌, ◌≤◌, List, Some, slice_get, slice_set, length, sym, ap, subst, ◌∙◌, inl, inr, arith}
use Rattle.std.specs.List.{slice_index_or}
use Rattle.std.proofs.lemmas.Bool.{cases_eq}
use Rattle.std.proofs.lemmas.List.{get_or-set_same, get_or-set_other}
use Rattle.std.proofs.lemmas.Option.{same_Some}
use Rattle.pg_grammar_form.specs.Forms.{Node, parts_of, InPreorder}
use Rattle.pg_grammar_value.specs.Follows.{PartsFollow}
use Rattle.pg_grammar_value.specs.Grammar.{Grammar}
use Rattle.pg_grammar_value.proofs.Numbers.{parts_are_after}

-- what is found of a node by those of other nodes is found by its parts alone, which stand after it
abbrev pub IsLocal : {V : Type 0} → ((ℕ → V) → Node → V) → Type 0
IsLocal {V} found = (f h : ℕ → V) (k count : ℕ) (n : Node) → ((q : ℕ) → k < q → f q ≡ h q) → PartsFollow k count (parts_of n) → found f n ≡ found h n

-- what is kept for the node is what is found of it
abbrev pub IsKept : {V : Type 0} → V → ((ℕ → V) → Node → V) → Grammar → List V → ℕ → Type 0
IsKept d found g kept p = (n : Node) → slice_get g.nodes p ≡ Some n → slice_index_or kept p d ≡ found (λ q. slice_index_or kept q d) n

-- one node more
pub still_kept : {V : Type 0} (d : V) (found : (ℕ → V) → Node → V) (g : Grammar) (kept : List V) (i : ℕ) (n : Node) → IsLocal found
    → InPreorder 0 g.nodes → i < length kept → slice_get g.nodes i ≡ Some n → ((p : ℕ) → i < p → IsKept d found g kept p)
    → (p : ℕ) → i ≤ p → IsKept d found g (slice_set kept i (found (λ q. slice_index_or kept q d) n)) p
still_kept d found g kept i n local preorder inside at before p least m known =
    let new = found (λ q. slice_index_or kept q d) n in
    let changed = slice_set kept i new in
    let others : (k : ℕ) → i ≤ k → (q : ℕ) → k < q → slice_index_or changed q d ≡ slice_index_or kept q d =
    λ k behind q after. get_or-set_other kept i q new d (λ e. omega (arith, e, behind, after)) in
    elim (cases_eq p i) [
      | inl same ↦
          let one : n ≡ m = same_Some n m (sym at ∙ (ap (slice_get g.nodes) (sym same) ∙ known)) in
          let unchanged = local (λ q. slice_index_or changed q d) (λ q. slice_index_or kept q d) i (length g.nodes) n (others i (omega arith)) (parts_are_after g.nodes i n preorder at) in
          let put = get_or-set_same kept i new d inside in
          subst (λ q. slice_index_or changed q d ≡ found (λ q. slice_index_or changed q d) m) (sym same)
          (subst (λ x. slice_index_or changed i d ≡ found (λ q. slice_index_or changed q d) x) one (put ∙ sym unchanged))
      | inr other ↦
          let unchanged = local (λ q. slice_index_or changed q d) (λ q. slice_index_or kept q d) p (length g.nodes) m (others p least) (parts_are_after g.nodes p m preorder known) in
          get_or-set_other kept i p new d other ∙ (before p (omega (arith, least, other)) m known ∙ sym unchanged)
    ]
