-- Where starts of one kind meet the only start of another, there are two that are the first to meet.
use Rattle.std.proofs.Common.{◌≡◌, inl, inr, ℕ, List, Option, Some, None, slice_get, refl, sym, ap, ◌∙◌, subst}
use Rattle.std.specs.List.Sorted.{IsStrictlySortedBy}
use Rattle.std.proofs.lemmas.Option.{same_Some, none-some}
use Rattle.std.specs.declared.cmp.Ordering.TheVariants.{Less}
use Rattle.pg_sets_own.specs.Listed.{IsListed, start_order}
use Rattle.pg_sets_own.specs.declared.listed.ListedStart.{ListedStart}
use Rattle.pg_predict.specs.Conditions.{AreFirstToMeet, Meet}
use Rattle.pg_predict.proofs.Numbered.{listed_once, never_both}
use Rattle.pg_start.specs.Apart.{Apart}
use Rattle.pg_start.specs.declared.kind.StartKind.{StartKind}
use Rattle.pg_grammar_value.specs.Grammar.{Grammar}
use Rattle.pg_derive.proofs.ApartDecided.{apart_decided}
use Rattle.pg_derive.proofs.Least.{Decided, LeastOf, decided_both, decided_not, decided_as, least_from}
use Rattle.pg_derive.proofs.Meetings.{IsListable}
use Rattle.pg_derive.proofs.Ranked.{earlier}

module _ (g : Grammar) (starts : List ListedStart) (sorted : IsStrictlySortedBy start_order starts)
    (named : (k : ℕ) (x : ListedStart) → slice_get starts k ≡ Some x → IsListed g x) (One Other : StartKind → Type 0) (ones : IsListable starts One)
    (once : (s t : StartKind) → Other s → Other t → s ≡ t) (t : ListedStart) (listed : IsListed g t) (other : Other t.start) where
  -- what stands at this place meets it
  record MeetsAt (k : ℕ) : Type 0 where
    x : ListedStart
    there : slice_get starts k ≡ Some x
    one : One x.start
    together : Apart x.start t.start → ⊥

  meets_decided : (k : ℕ) → Decided (MeetsAt k)
  meets_decided k = go (slice_get starts k) refl
    where
      parts : (x : ListedStart) → slice_get starts k ≡ Some x → MeetsAt k → One x.start × (Apart x.start t.start → ⊥)
      parts x e m =
          let same : m.x ≡ x = same_Some m.x x (sym m.there ∙ e) in
          (subst (λ (y : ListedStart). One y.start) same m.one, subst (λ (y : ListedStart). Apart y.start t.start → ⊥) same m.together)

      go : (found : Option ListedStart) → slice_get starts k ≡ found → Decided (MeetsAt k)
      go None e = inr (λ m. none-some m.x (sym e ∙ m.there))
      go (Some x) e =
          decided_as (λ h. record { x = x; there = e; one = h.0; together = h.1 }) (λ m. parts x e m)
          (decided_both (ones.decide k x e) (decided_not (apart_decided x.start t.start)))

  -- the other is this one
  only : (y : ListedStart) → IsListed g y → Other y.start → y ≡ t
  only y y_listed y_other = listed_once g y t y_listed listed (once y.start t.start y_other other)

  first_meets : (least : LeastOf MeetsAt) → AreFirstToMeet g One Other least.holds.x t
  first_meets least =
      let m = least.holds in
      record {
        meet = record { one_listed = named least.number m.x m.there; other_listed = listed; one = m.one; other = other; together = m.together };
        first_one = earlier_none least;
        first_other = λ y h l. let less = subst (λ z. start_order z t ≡ Less) (only y h.other_listed h.other) l in never_both t t less less;
      }
    where
      earlier_none : (least : LeastOf MeetsAt) (x y : ListedStart) → Meet g One Other x y → start_order x least.holds.x ≡ Less → ⊥
      earlier_none least x y h l =
          let at = ones.stands x.start h.one in
          let same : at.listed ≡ x = listed_once g at.listed x (named at.place at.listed at.there) h.one_listed at.same in
          let there : slice_get starts at.place ≡ Some x = at.there ∙ ap Some same in
          least.least at.place (earlier starts sorted at.place least.number x least.holds.x there least.holds.there l)
          (record { x = x; there = there; one = h.one; together = subst (λ (z : ListedStart). Apart x.start z.start → ⊥) (only y h.other_listed h.other) h.together })

  -- where no two are the first to meet, all are apart
  pub apart_from : ((x y : ListedStart) → AreFirstToMeet g One Other x y → ⊥) → (s : StartKind) → One s → Apart s t.start
  apart_from none s h =
      elim (apart_decided s t.start) [
        | inl apart ↦ apart
        | inr together ↦
            let at = ones.stands s h in
            let least = least_from MeetsAt meets_decided at.place (record {
              x = at.listed;
              there = at.there;
              one = subst One (sym at.same) h;
              together = subst (λ z. Apart z t.start → ⊥) (sym at.same) together;
            }) in
            absurd (none least.holds.x t (first_meets least))
      ]
