-- What a map from starts to sets holds when one is added.
use Rattle.std.proofs.Common.{◌≡◌, ℕ, true, false, ◌||◌, ◌⊎◌, inl, inr, List, [], ◌∷◌, ◌++◌, Some, unwrap_or, is_some, refl, sym, ap, subst, ◌∙◌}
use Rattle.std.specs.Prelude.{◌↔◌, ◌==◌}
use Rattle.std.specs.BTreeMap.{get}
use Rattle.std.specs.Ordering.{is_eq}
use Rattle.std.proofs.lemmas.Bool.{cases_Bool, both_ways, eqb-true, eq-eqb, or_cases, or_left, or_right}
use Rattle.std.proofs.lemmas.Cmp.{tied_itself}
use Rattle.pg_graph.specs.Graphs.{has}
use Rattle.pg_sets_own.specs.Listed.{start_order, start_order_total}
use Rattle.pg_sets.specs.Origins.{Origins, sets_of, HoldsIt, IsThere}
use Rattle.pg_sets_own.specs.Own.{IsAmong}
use Rattle.pg_sets_own.specs.declared.listed.ListedStart.{ListedStart}
use Rattle.pg_graph.proofs.Lists.{has_push}
use Rattle.pg_sets_own.proofs.Ordered.{equal_is, same_start}

pub same_if_tied : (one other : ListedStart) → is_eq (start_order one other) ≡ true → one ≡ other
same_if_tied one other e = same_start one other (equal_is (start_order one other) e)

pub tied_if_same : (one other : ListedStart) → one ≡ other → is_eq (start_order one other) ≡ true
tied_if_same one other same = subst (λ x. is_eq (start_order one x) ≡ true) same (ap is_eq (tied_itself start_order_total one))

-- one start has one more set, and the others have the sets that they had
pub record IsAdded (before after : Origins) (listed : ListedStart) (v : ℕ) : Type 0 where
  pub here : get start_order after listed ≡ Some (sets_of before listed ++ v ∷ [])
  pub others : (other : ListedStart) → is_eq (start_order listed other) ≡ false → get start_order after other ≡ get start_order before other

module _ (before after : Origins) (listed : ListedStart) (set : ℕ) (added : IsAdded before after listed set) where
  here_holds : (v : ℕ) → has (sets_of after listed) v ≡ (has (sets_of before listed) v || (set == v))
  here_holds v = ap (λ found. has (unwrap_or found []) v) added.here ∙ has_push (sets_of before listed) set v

  pub held_more : (other : ListedStart) (v : ℕ) → HoldsIt after other v ↔ (HoldsIt before other v ⊎ ((listed ≡ other) × (set ≡ v)))
  held_more other v =
      elim (cases_Bool (is_eq (start_order listed other))) [
        | inl tied ↦
            let same = same_if_tied listed other tied in
            subst (λ x. HoldsIt after x v ↔ (HoldsIt before x v ⊎ ((listed ≡ x) × (set ≡ v)))) same (
              λ h. elim (or_cases (has (sets_of before listed) v) (set == v) (sym (here_holds v) ∙ h)) [ inl old ↦ inl old | inr new ↦ inr (refl, eqb-true set v new) ],
              λ is. here_holds v ∙ (elim is [ inl old ↦ or_left (has (sets_of before listed) v) (set == v) old | inr new ↦ or_right (has (sets_of before listed) v) (set == v) (eq-eqb set v new.1) ]),
            )
        | inr apart ↦
            let kept : has (sets_of after other) v ≡ has (sets_of before other) v = ap (λ found. has (unwrap_or found []) v) (added.others other apart) in (
              λ h. inl (sym kept ∙ h),
              λ is. elim is [ inl old ↦ kept ∙ old | inr new ↦ absurd (both_ways (is_eq (start_order listed other)) apart (tied_if_same listed other new.0)) ],
            )
      ]

  pub there_more : (other : ListedStart) → IsThere after other → IsThere before other ⊎ (listed ≡ other)
  there_more other is =
      elim (cases_Bool (is_eq (start_order listed other))) [
        | inl tied ↦ inr (same_if_tied listed other tied)
        | inr apart ↦ inl (ap is_some (sym (added.others other apart)) ∙ is)
      ]

-- ---- several starts

pub among_push : (starts : List ListedStart) (added other : ListedStart) → IsAmong (starts ++ added ∷ []) other ↔ (IsAmong starts other ⊎ (added ≡ other))
among_push [] added other = (λ is. elim is [ inl same ↦ inr same | inr none ↦ absurd none ], λ is. elim is [ inl none ↦ absurd none | inr same ↦ inl same ])
among_push (s ∷ ss) added other =
    let rest = among_push ss added other in (
      λ is. elim is [ inl first ↦ inl (inl first) | inr later ↦ elim (rest.0 later) [ inl old ↦ inl (inr old) | inr new ↦ inr new ] ],
      λ is. elim is [ inl old ↦ elim old [ inl first ↦ inl first | inr later ↦ inr (rest.1 (inl later)) ] | inr new ↦ inr (rest.1 (inr new)) ],
    )
