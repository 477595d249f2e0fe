-- Starts that are listed in their order: each stands there once.
use Rattle.std.proofs.Common.{◌≡◌, ◌<◌, inl, inr, ℕ, zero, suc, List, [], ◌∷◌, Less, Some, slice_get, sym, ap, ◌∙◌, subst, arith}
use Rattle.std.specs.List.Sorted.{IsStrictlySortedBy}
use Rattle.std.proofs.lemmas.Bool.{cases_order}
use Rattle.std.proofs.lemmas.Cmp.{tied_itself}
use Rattle.std.proofs.lemmas.Map.Keys.{sorted_head, sorted_tail}
use Rattle.std.proofs.lemmas.Option.{same_Some}
use Rattle.pg_sets_own.specs.Listed.{start_order, start_order_total}
use Rattle.pg_sets_own.specs.declared.listed.ListedStart.{ListedStart}
use Rattle.pg_grammar_form.proofs.Each.{all-get}
use Rattle.pg_sets_own.proofs.Ordered.{less-equal}

-- of two places the earlier has the lesser start
ordered_at : (starts : List ListedStart) → IsStrictlySortedBy start_order starts → (i j : ℕ) (x y : ListedStart) → slice_get starts i ≡ Some x → slice_get starts j ≡ Some y →
    i < j → start_order x y ≡ Less
ordered_at [] h i j x y e f l = absurd cc
ordered_at (s ∷ ss) h zero zero x y e f l = absurd (omega arith)
ordered_at (s ∷ ss) h zero (suc j) x y e f l = let same : s ≡ x = cc in subst (λ z. start_order z y ≡ Less) same (all-get (λ z. start_order s z ≡ Less) ss j y (sorted_head start_order s ss h) f)
ordered_at (s ∷ ss) h (suc i) zero x y e f l = absurd (omega arith)
ordered_at (s ∷ ss) h (suc i) (suc j) x y e f l = ordered_at ss (sorted_tail start_order s ss h) i j x y e f (omega arith)

no_less_itself : (x : ListedStart) → start_order x x ≡ Less → ⊥
no_less_itself x e = less-equal (sym e ∙ tied_itself start_order_total x)

-- a lesser start has an earlier place
pub earlier : (starts : List ListedStart) → IsStrictlySortedBy start_order starts → (i j : ℕ) (x y : ListedStart) → slice_get starts i ≡ Some x → slice_get starts j ≡ Some y →
    start_order x y ≡ Less → i < j
earlier starts sorted i j x y e f l =
    elim (cases_order i j) [
      | inl same ↦
          let one : x ≡ y = same_Some x y (sym e ∙ (ap (slice_get starts) same ∙ f)) in
          absurd (no_less_itself y (subst (λ z. start_order z y ≡ Less) one l))
      | inr differ ↦
          elim differ [
            | inl less ↦ less
            | inr more ↦ absurd (no_less_itself x (start_order_total.trans x y x l (ordered_at starts sorted j i y x f e more)))
          ]
    ]
