-- What the least sets of a grammar hold.
use Rattle.std.proofs.Common.{◌≡◌, ◌<◌, ◌⊎◌, inl, inr, ℕ, List, [], ◌∷◌, Bool, true, false, Some, slice_get, length, refl, ap, ◌∙◌, subst}
use Rattle.pg_predict.proofs.Numbered.{listed_once}
use Rattle.std.specs.List.{Contains}
use Rattle.std.proofs.lemmas.Bool.{cases_Bool}
use Rattle.pg_grammar_value.specs.Grammar.{Grammar}
use Rattle.pg_start.specs.Apart.{Apart}
use Rattle.pg_start.specs.declared.kind.StartKind.{StartKind}
use Rattle.pg_sets.specs.First.{IsFirst, IsFirstOf}
use Rattle.pg_sets.specs.First as of
use Rattle.pg_sets.specs.Follow.{IsFollow}
use Rattle.pg_graph_bits.specs.Numbers.{contains, set_at}
use Rattle.pg_graph.specs.Marks.{is_marked}
use Rattle.pg_sets_nullable.specs.Nullable.{Nullable}
use Rattle.pg_sets.specs.Sets.{Sets, AreSets, HasStart}
use Rattle.pg_sets_own.specs.declared.listed.ListedStart.{ListedStart}
use Rattle.pg_predict.specs.Conditions.{BeginsLink, AreFirstToMeet, least_facts}
use Rattle.pg_derive.specs.ClosedSets.{Covers}
use Rattle.pg_derive.specs.LeastSets.{node_sets}
use Rattle.pg_derive.proofs.Begins.{contained_covers}
use Rattle.pg_derive.proofs.Least.{Decided, decided_true, decided_as, decided_both, decided_either}
use Rattle.pg_derive.proofs.Meetings.{IsListable, Stands, apart_all}
use Rattle.pg_derive.proofs.StartLists.{start_from_list, list_from_start}
use Rattle.pg_predict_conditions.proofs.Numbered.{same_numbers}

module _ (g : Grammar) (sets : Sets) (are : AreSets g sets) where
  -- ---- starts

  pub first_is : (p : ℕ) → p < length g.nodes → (s : StartKind) → Contains ((node_sets g sets).first p) s → IsFirst g s p
  first_is p below s h = (are.start_sets.first p s below).0 (start_from_list sets.starts (set_at sets.firsts p) s h)

  pub first_in : (p : ℕ) → p < length g.nodes → (s : StartKind) → IsFirst g s p → Contains ((node_sets g sets).first p) s
  first_in p below s h = list_from_start sets.starts (set_at sets.firsts p) s ((are.start_sets.first p s below).1 h)

  pub first_covers : (p : ℕ) → p < length g.nodes → (s : StartKind) → IsFirst g s p → Covers ((node_sets g sets).first p) s
  first_covers p below s h = contained_covers ((node_sets g sets).first p) s (first_in p below s h)

  pub follow_is : (p : ℕ) → p < length g.nodes → (s : StartKind) → Contains ((node_sets g sets).follow p) s → IsFollow g s p
  follow_is p below s h = (are.start_sets.follow p s below).0 (start_from_list sets.starts (set_at sets.follows p) s h)

  pub follow_covers : (p : ℕ) → p < length g.nodes → (s : StartKind) → IsFollow g s p → Covers ((node_sets g sets).follow p) s
  follow_covers p below s h = contained_covers ((node_sets g sets).follow p) s (list_from_start sets.starts (set_at sets.follows p) s ((are.start_sets.follow p s below).1 h))

  -- ---- nullable nodes

  pub full : (p : ℕ) → (Nullable g p → ⊥) → is_marked sets.nullable p ≡ false
  full p none = elim (cases_Bool (is_marked sets.nullable p)) [ inl is ↦ absurd (none ((are.nullable p).0 is)) | inr not ↦ not ]

  nullable_decided : (p : ℕ) → Decided (Nullable g p)
  nullable_decided p = decided_as (are.nullable p).0 (are.nullable p).1 (decided_true (is_marked sets.nullable p))

  -- ---- meetings

  -- whether a set has a start that is listed
  one_listed : (k : ℕ) (x : ListedStart) → slice_get sets.starts k ≡ Some x → (set : List Bool) → Decided (HasStart sets.starts set x.start)
  one_listed k x e set = decided_as (λ m. record { number = k; listed = x; member = m; there = e; same = refl }) back (decided_true (contains set k))
    where
      back : HasStart sets.starts set x.start → contains set k ≡ true
      back h =
          let same : h.listed ≡ x = listed_once g h.listed x (are.start_sets.listed h.number h.listed h.there) (are.start_sets.listed k x e) h.same in
          let place : h.number ≡ k = same_numbers sets.starts h.number k x are.start_sets.ordered (h.there ∙ ap Some same) e in
          subst (λ n. contains set n ≡ true) place h.member

  pub stands_at : (set : List Bool) (s : StartKind) → HasStart sets.starts set s → Stands sets.starts s
  stands_at set s h = record { place = h.number; listed = h.listed; there = h.there; same = h.same }

  pub firsts_listable : (p : ℕ) → p < length g.nodes → IsListable sets.starts (λ s. IsFirst g s p)
  firsts_listable p below = record {
    decide = λ k x e. decided_as (are.start_sets.first p x.start below).0 (are.start_sets.first p x.start below).1 (one_listed k x e (set_at sets.firsts p));
    stands = λ s h. stands_at (set_at sets.firsts p) s ((are.start_sets.first p s below).1 h);
  }

  pub follows_listable : (p : ℕ) → p < length g.nodes → IsListable sets.starts (λ s. IsFollow g s p)
  follows_listable p below = record {
    decide = λ k x e. decided_as (are.start_sets.follow p x.start below).0 (are.start_sets.follow p x.start below).1 (one_listed k x e (set_at sets.follows p));
    stands = λ s h. stands_at (set_at sets.follows p) s ((are.start_sets.follow p s below).1 h);
  }

  -- ---- rounds of chains

  round_cases : {s : StartKind} {separator operand : ℕ} → IsFirstOf g s (separator ∷ operand ∷ []) → BeginsLink (least_facts g) operand separator s
  round_cases (of.here h) = inl h
  round_cases (of.after n (of.here h)) = inr (n, h)
  round_cases (of.after n (of.after m none)) = elim none [ ]

  rounds_listable : (separator operand : ℕ) → separator < length g.nodes → operand < length g.nodes → IsListable sets.starts (BeginsLink (least_facts g) operand separator)
  rounds_listable separator operand l m =
      let separators = firsts_listable separator l in
      let operands = firsts_listable operand m in
      record {
        decide = λ k x e. decided_either (separators.decide k x e) (decided_both (nullable_decided separator) (operands.decide k x e));
        stands = λ s h. elim h [ inl f ↦ separators.stands s f | inr f ↦ operands.stands s f.1 ];
      }

  -- ---- starts of two kinds that are all apart, where no two are the first to meet

  pub firsts_apart : (p q : ℕ) → p < length g.nodes → q < length g.nodes → ((x y : ListedStart) → AreFirstToMeet g (λ s. IsFirst g s p) (λ s. IsFirst g s q) x y → ⊥) →
      (s t : StartKind) → IsFirst g s p → IsFirst g t q → Apart s t
  firsts_apart p q l m = apart_all g sets.starts are.start_sets.ordered are.start_sets.listed (λ s. IsFirst g s p) (λ s. IsFirst g s q) (firsts_listable p l) (firsts_listable q m)

  pub follow_apart : (p q : ℕ) → p < length g.nodes → q < length g.nodes → ((x y : ListedStart) → AreFirstToMeet g (λ s. IsFirst g s p) (λ s. IsFollow g s q) x y → ⊥) →
      (s t : StartKind) → IsFirst g s p → IsFollow g t q → Apart s t
  follow_apart p q l m = apart_all g sets.starts are.start_sets.ordered are.start_sets.listed (λ s. IsFirst g s p) (λ s. IsFollow g s q) (firsts_listable p l) (follows_listable q m)

  pub rounds_apart : (separator operand q : ℕ) → separator < length g.nodes → operand < length g.nodes → q < length g.nodes →
      ((x y : ListedStart) → AreFirstToMeet g (BeginsLink (least_facts g) operand separator) (λ s. IsFollow g s q) x y → ⊥) → (s t : StartKind) → IsFirstOf g s (separator ∷ operand ∷ []) → IsFollow g t q → Apart s t
  rounds_apart separator operand q l m n none s t h =
      apart_all g sets.starts are.start_sets.ordered are.start_sets.listed (BeginsLink (least_facts g) operand separator) (λ s. IsFollow g s q) (rounds_listable separator operand l m) (follows_listable q n)
      none s t (round_cases h)
