-- The starts of sets stand in a list in their order, and of each that stands there it is decided whether it is in a set.
use Rattle.std.proofs.Common.{◌≡◌, inl, inr, ℕ, List, Bool, true, Some, slice_get, refl, ap, ◌∙◌, subst, ◌⊎◌}
use Rattle.std.specs.List.Sorted.{IsStrictlySortedBy}
use Rattle.pg_graph_bits.specs.Numbers.{contains}
use Rattle.pg_sets_own.specs.Listed.{IsListed, start_order}
use Rattle.pg_sets_own.specs.declared.listed.ListedStart.{ListedStart}
use Rattle.pg_predict.proofs.Numbered.{listed_once}
use Rattle.pg_sets.specs.Sets.{HasStart}
use Rattle.pg_grammar_value.specs.Grammar.{Grammar}
use Rattle.pg_derive.proofs.Least.{Decided, decided_true, decided_as, decided_either, decided_both}
use Rattle.pg_derive.proofs.Meetings.{IsListable}
use Rattle.pg_predict_conditions.proofs.Numbered.{same_numbers}

module _ (g : Grammar) (starts : List ListedStart) (sorted : IsStrictlySortedBy start_order starts)
    (named : (k : ℕ) (x : ListedStart) → slice_get starts k ≡ Some x → IsListed g x) where
  one_listed : (set : List Bool) (k : ℕ) (x : ListedStart) → slice_get starts k ≡ Some x → Decided (HasStart starts set x.start)
  one_listed set k x e = decided_as (λ m. record { number = k; listed = x; member = m; there = e; same = refl }) back (decided_true (contains set k))
    where
      back : HasStart starts set x.start → contains set k ≡ true
      back h =
          let same : h.listed ≡ x = listed_once g h.listed x (named h.number h.listed h.there) (named k x e) h.same in
          let place : h.number ≡ k = same_numbers starts h.number k x sorted (h.there ∙ ap Some same) e in
          subst (λ n. contains set n ≡ true) place h.member

  pub set_listable : (set : List Bool) → IsListable starts (HasStart starts set)
  set_listable set = record {
    decide = one_listed set;
    stands = λ s h. record { place = h.number; listed = h.listed; there = h.there; same = h.same };
  }

  -- and in the one set, or in the other where something is so
  pub either_listable : (set other : List Bool) (So : Type 0) → Decided So → IsListable starts (λ s. HasStart starts set s ⊎ (So × HasStart starts other s))
  either_listable set other So so = record {
    decide = λ k x e. decided_either (one_listed set k x e) (decided_both so (one_listed other k x e));
    stands = λ s h. elim h [ inl here ↦ (set_listable set).stands s here | inr there ↦ (set_listable other).stands s there.1 ];
  }
