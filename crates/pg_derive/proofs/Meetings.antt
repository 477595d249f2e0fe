-- Where some starts of two kinds aren't apart, there are two that are the first to meet.
use Rattle.std.proofs.Common.{◌≡◌, inl, inr, ℕ, List, Option, Some, None, slice_get, length, refl, sym, ap, ◌∙◌, subst}
use Rattle.pg_predict.proofs.Numbered.{listed_once}
use Rattle.std.specs.List.Sorted.{IsStrictlySortedBy}
use Rattle.std.proofs.lemmas.Option.{same_Some, none-some, slice_get_within}
use Rattle.pg_grammar_value.specs.Grammar.{Grammar}
use Rattle.pg_start.specs.Apart.{Apart}
use Rattle.pg_start.specs.declared.kind.StartKind.{StartKind}
use Rattle.pg_sets_own.specs.Listed.{IsListed, start_order}
use Rattle.pg_sets_own.specs.declared.listed.ListedStart.{ListedStart}
use Rattle.pg_predict.specs.Conditions.{AreFirstToMeet}
use Rattle.pg_derive.proofs.ApartDecided.{apart_decided}
use Rattle.pg_derive.proofs.Least.{Decided, LeastOf, decided_both, decided_not, decided_as, decided_some, least_from}
use Rattle.pg_derive.proofs.Ranked.{earlier}

-- the start is in the list, under its name
pub record Stands (starts : List ListedStart) (s : StartKind) : Type 0 where
  pub place : ℕ
  pub listed : ListedStart
  pub there : slice_get starts place ≡ Some listed
  pub same : listed.start ≡ s

-- starts of this kind are in the list, and of each that is there it is decided whether it is one
pub record IsListable (starts : List ListedStart) (Kind : StartKind → Type 0) : Type 0 where
  pub decide : (k : ℕ) (x : ListedStart) → slice_get starts k ≡ Some x → Decided (Kind x.start)
  pub stands : (s : StartKind) → Kind s → Stands starts s

-- two starts that stand at these places meet
record MeetAt (starts : List ListedStart) (One Other : StartKind → Type 0) (i j : ℕ) : Type 0 where
  x : ListedStart
  y : ListedStart
  x_at : slice_get starts i ≡ Some x
  y_at : slice_get starts j ≡ Some y
  one : One x.start
  other : Other y.start
  together : Apart x.start y.start → ⊥

record FirstPair (g : Grammar) (One Other : StartKind → Type 0) : Type 0 where
  x : ListedStart
  y : ListedStart
  first : AreFirstToMeet g One Other x y

module _ (g : Grammar) (starts : List ListedStart) (sorted : IsStrictlySortedBy start_order starts) (named : (k : ℕ) (x : ListedStart) → slice_get starts k ≡ Some x → IsListed g x)
    (One Other : StartKind → Type 0) (ones : IsListable starts One) (others : IsListable starts Other) where
  meet_decided : (i j : ℕ) → Decided (MeetAt starts One Other i j)
  meet_decided i j = go (slice_get starts i) refl (slice_get starts j) refl
    where
      parts : (x y : ListedStart) → slice_get starts i ≡ Some x → slice_get starts j ≡ Some y → MeetAt starts One Other i j → One x.start × (Other y.start × (Apart x.start y.start → ⊥))
      parts x y e f m =
          let same_x : m.x ≡ x = same_Some m.x x (sym m.x_at ∙ e) in
          let same_y : m.y ≡ y = same_Some m.y y (sym m.y_at ∙ f) in
          let together = subst (λ (z : ListedStart). Apart z.start m.y.start → ⊥) same_x m.together in (
            subst (λ (z : ListedStart). One z.start) same_x m.one,
            (subst (λ (z : ListedStart). Other z.start) same_y m.other, subst (λ (z : ListedStart). Apart x.start z.start → ⊥) same_y together),
          )

      go : (found : Option ListedStart) → slice_get starts i ≡ found → (next : Option ListedStart) → slice_get starts j ≡ next → Decided (MeetAt starts One Other i j)
      go None e next f = inr (λ m. none-some m.x (sym e ∙ m.x_at))
      go (Some x) e None f = inr (λ m. none-some m.y (sym f ∙ m.y_at))
      go (Some x) e (Some y) f =
          decided_as (λ h. record { x = x; y = y; x_at = e; y_at = f; one = h.0; other = h.1.0; together = h.1.1 }) (λ m. parts x y e f m)
          (decided_both (ones.decide i x e) (decided_both (others.decide j y f) (decided_not (apart_decided x.start y.start))))

  row_decided : (i : ℕ) → Decided ((j : ℕ) × MeetAt starts One Other i j)
  row_decided i = decided_some (MeetAt starts One Other i) (meet_decided i) (length starts) (λ j m. slice_get_within starts j m.y m.y_at)

  -- where a listed start of the kind stands
  stands_itself : (Kind : StartKind → Type 0) → IsListable starts Kind → (x : ListedStart) → IsListed g x → Kind x.start → (k : ℕ) × (slice_get starts k ≡ Some x)
  stands_itself Kind kinds x listed h =
      let at = kinds.stands x.start h in
      let same : at.listed ≡ x = listed_once g at.listed x (named at.place at.listed at.there) listed at.same in
      (at.place, at.there ∙ ap Some same)

  first_pair : (i j : ℕ) → MeetAt starts One Other i j → FirstPair g One Other
  first_pair i j m =
      let row = least_from (λ k. (l : ℕ) × MeetAt starts One Other k l) row_decided i (j, m) in
      let column = least_from (MeetAt starts One Other row.number) (meet_decided row.number) row.holds.0 row.holds.1 in
      from row column
    where
      from : (row : LeastOf (λ k. (l : ℕ) × MeetAt starts One Other k l)) → LeastOf (MeetAt starts One Other row.number) → FirstPair g One Other
      from row column =
          let m = column.holds in
          record {
            x = m.x;
            y = m.y;
            first = record {
              meet = record { one_listed = named row.number m.x m.x_at; other_listed = named column.number m.y m.y_at; one = m.one; other = m.other; together = m.together };
              first_one = λ x y h l.
                  let at_x = stands_itself One ones x h.one_listed h.one in
                  let at_y = stands_itself Other others y h.other_listed h.other in
                  row.least at_x.0 (earlier starts sorted at_x.0 row.number x m.x at_x.1 m.x_at l)
                  (at_y.0, record { x = x; y = y; x_at = at_x.1; y_at = at_y.1; one = h.one; other = h.other; together = h.together });
              first_other = λ y h l.
                  let at_y = stands_itself Other others y h.other_listed h.other in
                  column.least at_y.0 (earlier starts sorted at_y.0 column.number y m.y at_y.1 m.y_at l)
                  (record { x = m.x; y = y; x_at = m.x_at; y_at = at_y.1; one = h.one; other = h.other; together = h.together });
            };
          }

  -- where no two are the first to meet, all are apart
  pub apart_all : ((x y : ListedStart) → AreFirstToMeet g One Other x y → ⊥) → (s t : StartKind) → One s → Other t → Apart s t
  apart_all none s t h k =
      elim (apart_decided s t) [
        | inl apart ↦ apart
        | inr together ↦
            let at_s = ones.stands s h in
            let at_t = others.stands t k in
            let pair = first_pair at_s.place at_t.place (record {
              x = at_s.listed;
              y = at_t.listed;
              x_at = at_s.there;
              y_at = at_t.there;
              one = subst One (sym at_s.same) h;
              other = subst Other (sym at_t.same) k;
              together = subst (λ z. Apart z at_t.listed.start → ⊥) (sym at_s.same) (subst (λ z. Apart s z → ⊥) (sym at_t.same) together);
            }) in
            absurd (none pair.x pair.y pair.first)
      ]
