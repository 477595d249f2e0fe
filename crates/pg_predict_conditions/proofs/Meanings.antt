-- What the first meetings of two sets of numbers say of starts.
use Rattle.std.proofs.Common.{◌≡◌, ℕ, ◌<◌, Bool, true, false, List, Some, slice_get, length, refl, sym, subst, ◌∙◌, ◌⊎◌, inl, inr, arith}
use Rattle.std.specs.Prelude.{◌↔◌, if◌then◌else◌}
use Rattle.std.proofs.lemmas.Bool.{true≢false, and_parts, and_from}
use Rattle.std.proofs.lemmas.Option.{same_Some, slice_get-get_or}
use Rattle.pg_grammar_value.specs.Grammar.{Grammar}
use Rattle.pg_graph_bits.specs.Numbers.{contains, set_at}
use Rattle.pg_start.specs.Apart.{Apart}
use Rattle.pg_start.specs.declared.kind.StartKind.{StartKind}
use Rattle.pg_sets_own.specs.Listed.{IsListed}
use Rattle.pg_graph.specs.Marks.{is_marked}
use Rattle.pg_sets.specs.Sets.{HasStart}
use Rattle.pg_sets_own.specs.declared.listed.ListedStart.{ListedStart}
use Rattle.pg_predict_conditions.specs.WithStarts.{start_at}
use Rattle.pg_predict_conditions.specs.Conditions.{NodeFacts, AreFirstToMeet, BeginsLink}
use Rattle.pg_predict_conditions.specs.Judged.{Facts, all_starts, node_meeting, follow_meeting, link_meeting}
use Rattle.pg_predict_conditions.specs.Meetings.{first_meeting, earlier}
use Rattle.pg_predict_conditions.specs.Shown.{AreFacts}
use Rattle.pg_predict_conditions.specs.declared.meetings.Meeting.{Meeting}
use Rattle.pg_graph_bits.proofs.Inside.{contains_below}
use Rattle.pg_predict_conditions.proofs.FirstMeetings.{Met}
use Rattle.pg_predict_conditions.proofs.Numbered.{Placed, placed_by, member_by, numbers_order, order_numbers, start_is}
use Rattle.pg_predict_conditions.proofs.Pairs.{IsFirstPair, PairFound, pair_same, pair_of_sets, pair_either}

-- the starts with these numbers aren't apart, and are of the one kind and of the other
pub record MeetAt (starts : List ListedStart) (One Other : StartKind → Type 0) (s t : ℕ) : Type 0 where
  pub x : ListedStart
  pub y : ListedStart
  pub x_there : slice_get starts s ≡ Some x
  pub y_there : slice_get starts t ≡ Some y
  pub one : One x.start
  pub other : Other y.start
  pub together : Apart x.start y.start → ⊥

-- a set has the starts of a kind
pub record ShowsKind (starts : List ListedStart) (set : List Bool) (Kind : StartKind → Type 0) : Type 0 where
  pub limit : length set ≡ length starts
  pub starts_of : (start : StartKind) → HasStart starts set start ↔ Kind start

module _ (g : Grammar) (asked : NodeFacts) (facts : Facts) (are : AreFacts g asked facts) where
  -- ---- from starts to numbers, and back

  pub placed : (set : List Bool) (Kind : StartKind → Type 0) (x : ListedStart) → ShowsKind facts.sets.starts set Kind → IsListed g x → Kind x.start → Placed facts.sets.starts x
  placed set Kind x shows is kind = placed_by g facts.sets.starts set x are.sets.formed.listed is ((shows.starts_of x.start).1 kind)

  pub member : (set : List Bool) (Kind : StartKind → Type 0) (s : ℕ) (x : ListedStart) → ShowsKind facts.sets.starts set Kind → slice_get facts.sets.starts s ≡ Some x → Kind x.start
      → contains set s ≡ true
  member set Kind s x shows at kind = member_by g facts.sets.starts set s x are.sets.formed.ordered are.sets.formed.listed at ((shows.starts_of x.start).1 kind)

  pub kind_of : (set : List Bool) (Kind : StartKind → Type 0) (s : ℕ) (x : ListedStart) → ShowsKind facts.sets.starts set Kind → slice_get facts.sets.starts s ≡ Some x → contains set s ≡ true
      → Kind x.start
  kind_of set Kind s x shows at h = (shows.starts_of x.start).0 (record { number = s; listed = x; member = h; there = at; same = refl })

  pub start_in : (set : List Bool) (Kind : StartKind → Type 0) (s : ℕ) → ShowsKind facts.sets.starts set Kind → contains set s ≡ true → (x : ListedStart) × (slice_get facts.sets.starts s ≡ Some x)
  start_in set Kind s shows h =
      let below = contains_below set s h in
      let limit = shows.limit in
      let inside : s < length facts.sets.starts = omega arith in
      (start_at (all_starts facts) s, slice_get-get_or facts.sets.starts s _ inside)

  -- two numbers of sets meet where their starts do
  pub met_at : (one other : List Bool) (One Other : StartKind → Type 0) → ShowsKind facts.sets.starts one One → ShowsKind facts.sets.starts other Other → (s t : ℕ)
      → Met facts.meetings one other s t → MeetAt facts.sets.starts One Other s t
  met_at one other One Other shows shows_other s t met =
      let both = and_parts (contains (set_at facts.meetings s) t) (contains other t) met.both in
      let x = start_in one One s shows met.begins in
      let y = start_in other Other t shows_other both.1 in
      record {
        x = x.0;
        y = y.0;
        x_there = x.1;
        y_there = y.1;
        one = kind_of one One s x.0 shows x.1 met.begins;
        other = kind_of other Other t y.0 shows_other y.1 both.1;
        together = (are.worked_out.meetings.met s x.0 x.1 t y.0 y.1).0 both.0;
      }

  pub at_met : (one other : List Bool) (One Other : StartKind → Type 0) → ShowsKind facts.sets.starts one One → ShowsKind facts.sets.starts other Other → (s t : ℕ)
      → MeetAt facts.sets.starts One Other s t → Met facts.meetings one other s t
  at_met one other One Other shows shows_other s t at = record {
    begins = member one One s at.x shows at.x_there at.one;
    both = and_from (contains (set_at facts.meetings s) t) (contains other t) ((are.worked_out.meetings.met s at.x at.x_there t at.y at.y_there).1 at.together)
        (member other Other t at.y shows_other at.y_there at.other);
  }

  pub found_at : (one other : List Bool) (One Other : StartKind → Type 0) → ShowsKind facts.sets.starts one One → ShowsKind facts.sets.starts other Other
      → PairFound (MeetAt facts.sets.starts One Other) (first_meeting facts.meetings one other)
  found_at one other One Other shows shows_other =
      pair_same (Met facts.meetings one other) (MeetAt facts.sets.starts One Other) (first_meeting facts.meetings one other) (met_at one other One Other shows shows_other)
      (at_met one other One Other shows shows_other) (pair_of_sets facts.meetings one other)

  -- ---- the first two by number are the first two by the order of starts

  pub numbers_first : (One Other : StartKind → Type 0) → ((x : ListedStart) → IsListed g x → One x.start → Placed facts.sets.starts x)
      → ((x : ListedStart) → IsListed g x → Other x.start → Placed facts.sets.starts x) → (m : Meeting) → IsFirstPair (MeetAt facts.sets.starts One Other) m
      → AreFirstToMeet g One Other (start_at (all_starts facts) m.one) (start_at (all_starts facts) m.other)
  numbers_first One Other there there_other m is =
      let starts = facts.sets.starts in
      let sorted = are.sets.formed.ordered in
      let met = is.met in
      let x_is = start_is (all_starts facts) m.one met.x met.x_there in
      let y_is = start_is (all_starts facts) m.other met.y met.y_there in
      let first : AreFirstToMeet g One Other met.x met.y = record {
        meet = record {
          one_listed = are.sets.formed.listed m.one met.x met.x_there;
          other_listed = are.sets.formed.listed m.other met.y met.y_there;
          one = met.one;
          other = met.other;
          together = met.together;
        };
        first_one = λ u v meet less.
            let at_u = there u meet.one_listed meet.one in
            let at_v = there_other v meet.other_listed meet.other in
            is.first_one at_u.number at_v.number (order_numbers starts at_u.number m.one u met.x sorted at_u.there met.x_there less)
            (record { x = u; y = v; x_there = at_u.there; y_there = at_v.there; one = meet.one; other = meet.other; together = meet.together });
        first_other = λ v meet less.
            let at_v = there_other v meet.other_listed meet.other in
            is.first_other at_v.number (order_numbers starts at_v.number m.other v met.y sorted at_v.there met.y_there less)
            (record { x = met.x; y = v; x_there = met.x_there; y_there = at_v.there; one = met.one; other = meet.other; together = meet.together });
      } in
      subst (λ (u : ListedStart). AreFirstToMeet g One Other u (start_at (all_starts facts) m.other)) (sym x_is)
      (subst (λ (v : ListedStart). AreFirstToMeet g One Other met.x v) (sym y_is) first)

  pub first_numbers : (One Other : StartKind → Type 0) → ((x : ListedStart) → IsListed g x → One x.start → Placed facts.sets.starts x)
      → ((x : ListedStart) → IsListed g x → Other x.start → Placed facts.sets.starts x) → (x y : ListedStart) → AreFirstToMeet g One Other x y
      → (m : Meeting) × IsFirstPair (MeetAt facts.sets.starts One Other) m × (start_at (all_starts facts) m.one ≡ x) × (start_at (all_starts facts) m.other ≡ y)
  first_numbers One Other there there_other x y is =
      let starts = facts.sets.starts in
      let sorted = are.sets.formed.ordered in
      let at_x = there x is.meet.one_listed is.meet.one in
      let at_y = there_other y is.meet.other_listed is.meet.other in
      let listed = are.sets.formed.listed in (
        record { one = at_x.number; other = at_y.number },
        record {
          met = record { x = x; y = y; x_there = at_x.there; y_there = at_y.there; one = is.meet.one; other = is.meet.other; together = is.meet.together };
          first_one = λ s t below met.
              is.first_one met.x met.y
              (record { one_listed = listed s met.x met.x_there; other_listed = listed t met.y met.y_there; one = met.one; other = met.other; together = met.together })
              (numbers_order starts s at_x.number met.x x sorted met.x_there at_x.there below);
          first_other = λ t below met.
              let same : met.x ≡ x = same_Some met.x x (sym met.x_there ∙ at_x.there) in
              is.first_other met.y
              (record {
                one_listed = is.meet.one_listed;
                other_listed = listed t met.y met.y_there;
                one = is.meet.one;
                other = met.other;
                together = subst (λ (u : ListedStart). Apart u.start met.y.start → ⊥) same met.together;
              })
              (numbers_order starts t at_y.number met.y y sorted met.y_there at_y.there below);
        },
        start_is (all_starts facts) at_x.number x at_x.there,
        start_is (all_starts facts) at_y.number y at_y.there,
      )

  -- ---- nodes

  pub shows_first : (q : ℕ) → q < length g.nodes → ShowsKind facts.sets.starts (set_at facts.sets.firsts q) (asked.first q)
  shows_first q below = record { limit = are.sets.formed.first_limit q below; starts_of = λ start. are.sets.first q start below }

  pub shows_follow : (p : ℕ) → p < length g.nodes → ShowsKind facts.sets.starts (set_at facts.sets.follows p) (asked.follow p)
  shows_follow p below = record { limit = are.sets.formed.follow_limit p below; starts_of = λ start. are.sets.follow p start below }

  pub first_there : (q : ℕ) → q < length g.nodes → (x : ListedStart) → IsListed g x → asked.first q x.start → Placed facts.sets.starts x
  first_there q below x is kind = placed (set_at facts.sets.firsts q) (asked.first q) x (shows_first q below) is kind

  pub follow_there : (p : ℕ) → p < length g.nodes → (x : ListedStart) → IsListed g x → asked.follow p x.start → Placed facts.sets.starts x
  follow_there p below x is kind = placed (set_at facts.sets.follows p) (asked.follow p) x (shows_follow p below) is kind

  pub node_found : (q r : ℕ) → q < length g.nodes → r < length g.nodes → PairFound (MeetAt facts.sets.starts (asked.first q) (asked.first r)) (node_meeting facts q r)
  node_found q r q_below r_below =
      found_at (set_at facts.sets.firsts q) (set_at facts.sets.firsts r) (asked.first q) (asked.first r) (shows_first q q_below) (shows_first r r_below)

  pub follow_found : (q p : ℕ) → q < length g.nodes → p < length g.nodes → PairFound (MeetAt facts.sets.starts (asked.first q) (asked.follow p)) (follow_meeting facts q p)
  follow_found q p q_below p_below =
      found_at (set_at facts.sets.firsts q) (set_at facts.sets.follows p) (asked.first q) (asked.follow p) (shows_first q q_below) (shows_follow p p_below)

  -- ---- rounds of chains

  pub link_there : (operand separator : ℕ) → operand < length g.nodes → separator < length g.nodes → (x : ListedStart) → IsListed g x → BeginsLink asked operand separator x.start
      → Placed facts.sets.starts x
  link_there operand separator o s x is (inl begins) = first_there separator s x is begins
  link_there operand separator o s x is (inr both) = first_there operand o x is both.1

  link_alike : (operand separator p : ℕ) (s t u : ℕ) → MeetAt facts.sets.starts (asked.first separator) (asked.follow p) s u → MeetAt facts.sets.starts (asked.first operand) (asked.follow p) s t
      → MeetAt facts.sets.starts (asked.first separator) (asked.follow p) s t
  link_alike operand separator p s t u a b =
      let same : a.x ≡ b.x = same_Some a.x b.x (sym a.x_there ∙ b.x_there) in
      record {
        x = b.x;
        y = b.y;
        x_there = b.x_there;
        y_there = b.y_there;
        one = subst (λ (x : ListedStart). asked.first separator x.start) same a.one;
        other = b.other;
        together = b.together;
      }

  pub link_found : (operand separator p : ℕ) → operand < length g.nodes → separator < length g.nodes → p < length g.nodes
      → PairFound (MeetAt facts.sets.starts (BeginsLink asked operand separator) (asked.follow p)) (link_meeting facts operand separator p)
  link_found operand separator p o s below = go (is_marked facts.sets.nullable separator) refl
    where
      starts : List ListedStart
      starts = facts.sets.starts

      R : ℕ → ℕ → Type 0
      R = MeetAt starts (asked.first separator) (asked.follow p)

      S : ℕ → ℕ → Type 0
      S = MeetAt starts (asked.first operand) (asked.follow p)

      Link : ℕ → ℕ → Type 0
      Link = MeetAt starts (BeginsLink asked operand separator) (asked.follow p)

      from_separator : (u v : ℕ) → R u v → Link u v
      from_separator u v r = record { x = r.x; y = r.y; x_there = r.x_there; y_there = r.y_there; one = inl r.one; other = r.other; together = r.together }

      from_operand : asked.nullable separator → (u v : ℕ) → S u v → Link u v
      from_operand null u v r =
          record { x = r.x; y = r.y; x_there = r.x_there; y_there = r.y_there; one = inr (null, r.one); other = r.other; together = r.together }

      parts : (u v : ℕ) → Link u v → R u v ⊎ (asked.nullable separator × S u v)
      parts u v l = elim l.one [
        | inl begins ↦ inl (record { x = l.x; y = l.y; x_there = l.x_there; y_there = l.y_there; one = begins; other = l.other; together = l.together })
        | inr both ↦ inr (both.0, record { x = l.x; y = l.y; x_there = l.x_there; y_there = l.y_there; one = both.1; other = l.other; together = l.together })
      ]

      go : (b : Bool) → is_marked facts.sets.nullable separator ≡ b
          → PairFound Link (if b then earlier (follow_meeting facts separator p) (follow_meeting facts operand p) else follow_meeting facts separator p)
      go true marked =
          let null = (are.sets.nullable separator).0 marked in
          pair_same (λ u v. R u v ⊎ S u v) Link (earlier (follow_meeting facts separator p) (follow_meeting facts operand p))
          (λ u v either. elim either [ inl r ↦ from_separator u v r | inr q ↦ from_operand null u v q ])
          (λ u v l. elim (parts u v l) [ inl r ↦ inl r | inr q ↦ inr q.1 ])
          (pair_either R S (follow_meeting facts separator p) (follow_meeting facts operand p) (link_alike operand separator p) (follow_found separator p s below)
          (follow_found operand p o below))
      go false unmarked =
          pair_same R Link (follow_meeting facts separator p) from_separator
          (λ u v l. elim (parts u v l) [ inl r ↦ r | inr q ↦ absurd (true≢false (sym ((are.sets.nullable separator).1 q.0) ∙ unmarked)) ])
          (follow_found separator p s below)
