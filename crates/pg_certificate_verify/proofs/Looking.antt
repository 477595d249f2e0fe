-- Looking through the alternatives of a choice, and at the rounds of a chain.
use Rattle.std.proofs.Common.{◌≡◌, ◌<◌, ◌≤◌, ◌+◌, ◌-◌, ◌⊎◌, ℕ, suc, Bool, true, false, List, Some, slice_get, length, refl, sym, ap, subst, ◌∙◌, inl, inr, arith}
use Rattle.std.specs.Prelude.{◌↔◌, ◌||◌}
use Rattle.std.proofs.lemmas.Bool.{cases_eq, true≢false, or_left, or_right}
use Rattle.std.proofs.lemmas.Option.{same_Some, slice_get_within}
use Rattle.pg_grammar_value.specs.Grammar.{Grammar}
use Rattle.pg_graph.specs.Marks.{is_marked}
use Rattle.pg_graph_bits.specs.Numbers.{contains, set_at}
use Rattle.pg_predict_conditions.specs.Conditions.{Meet}
use Rattle.pg_predict_conditions.specs.Shown.{AreWellFormed}
use Rattle.pg_sets.specs.Sets.{Sets, HasStart}
use Rattle.pg_sets_own.specs.declared.listed.ListedStart.{ListedStart}
use Rattle.pg_start.specs.declared.kind.StartKind.{StartKind}
use Rattle.pg_certificate_verify.specs.Breaking.{IsNullableBy, BeginsBy, BeginsLinkBy, SomeMeet, TwoMeet}
use Rattle.pg_certificate_verify.specs.Pairs.{IsPair, HasFirstPair, HasNoPair}
use Rattle.pg_certificate_verify.proofs.Meeting.{first_pair, no_pair}

-- ---- from the first alternative on

-- none of the first alternatives has the property
abbrev pub NoneOfFirst : List ℕ → (ℕ → Type 0) → ℕ → Type 0
NoneOfFirst parts Is place = (k q : ℕ) → suc k < place → slice_get parts k ≡ Some q → Is q → ⊥

pub none_of_more : (parts : List ℕ) (Is : ℕ → Type 0) (place part : ℕ) → 0 < place → NoneOfFirst parts Is place → slice_get parts (place - 1) ≡ Some part → (Is part → ⊥)
    → NoneOfFirst parts Is (place + 1)
none_of_more parts Is place part above before at not k q below there is =
    elim (cases_eq (suc k) place) [
      | inl same ↦
          let here : place - 1 ≡ k = omega (arith, same) in
          let one : q ≡ part = same_Some q part (sym there ∙ (ap (slice_get parts) (sym here) ∙ at)) in
          not (subst Is one is)
      | inr other ↦ before k q (omega (arith, below, other)) there is
    ]

-- ---- from the last alternative on

-- this alternative or a later one has the start with this number
pub record IsLater (sets : Sets) (parts : List ℕ) (next t : ℕ) : Type 0 where
  pub place : ℕ
  pub part : ℕ
  pub after : next ≤ place
  pub there : slice_get parts place ≡ Some part
  pub member : contains (set_at sets.firsts part) t ≡ true

-- the alternatives from this one on were looked at: the set has their starts, and no two of them meet
pub record HaveLooked (sets : Sets) (parts : List ℕ) (next : ℕ) (later : List Bool) : Type 0 where
  pub inside : next ≤ length parts
  pub limit : length later ≡ length sets.starts
  pub some : (t : ℕ) → contains later t ≡ true → IsLater sets parts next t
  pub all : (t : ℕ) → IsLater sets parts next t → contains later t ≡ true
  pub none : (j k q r : ℕ) → next ≤ j → j < k → slice_get parts j ≡ Some q → slice_get parts k ≡ Some r → HasNoPair sets.starts (set_at sets.firsts q) (set_at sets.firsts r)

either : (a b : Bool) → (a || b) ≡ true → (a ≡ true) ⊎ (b ≡ true)
either true b e = inl refl
either false b e = inr e

-- the second of a pair may stand in a wider set
wider : (starts : List ListedStart) (one other more : List Bool) (s t : ℕ) → ((k : ℕ) → contains other k ≡ true → contains more k ≡ true) → IsPair starts one other s t → IsPair starts one more s t
wider starts one other more s t within pair = record {
  x = pair.x;
  y = pair.y;
  in_one = pair.in_one;
  in_other = record { there = pair.in_other.there; member = within t pair.in_other.member };
  together = pair.together;
}

module _ (sets : Sets) (parts : List ℕ) (next : ℕ) (part : ℕ) (later : List Bool) (looked : HaveLooked sets parts (next + 1) later) (at : slice_get parts next ≡ Some part) where
  pub look_more : (after : List Bool) → HasNoPair sets.starts (set_at sets.firsts part) later → length after ≡ length later
      → ((n : ℕ) → contains after n ≡ (contains later n || contains (set_at sets.firsts part) n)) → HaveLooked sets parts next after
  look_more after apart same united =
      let inside = looked.inside in
      record {
        inside = omega (arith, inside);
        limit = same ∙ looked.limit;
        some = λ t member.
            elim (either (contains later t) (contains (set_at sets.firsts part) t) (sym (united t) ∙ member)) [
              | inl before ↦
                  let is = looked.some t before in
                  let above = is.after in
                  record { place = is.place; part = is.part; after = omega (arith, above); there = is.there; member = is.member }
              | inr here ↦ record { place = next; part = part; after = omega arith; there = at; member = here }
            ];
        all = λ t is.
            elim (cases_eq is.place next) [
              | inl same ↦
                  let one : is.part ≡ part = same_Some is.part part (sym is.there ∙ (ap (slice_get parts) same ∙ at)) in
                  united t ∙ or_right (contains later t) (contains (set_at sets.firsts part) t) (sym (ap (λ q. contains (set_at sets.firsts q) t) one) ∙ is.member)
              | inr other ↦
                  let above = is.after in
                  united t ∙ or_left (contains later t) (contains (set_at sets.firsts part) t)
                  (looked.all t (record { place = is.place; part = is.part; after = omega (arith, above, other); there = is.there; member = is.member }))
            ];
        none = λ j k q r above before there other_there.
            elim (cases_eq j next) [
              | inl same ↦
                  let one : part ≡ q = same_Some part q (sym at ∙ (ap (slice_get parts) (sym same) ∙ there)) in
                  subst (λ z. HasNoPair sets.starts (set_at sets.firsts z) (set_at sets.firsts r)) one
                  (λ s t pair. apart s t (wider sets.starts (set_at sets.firsts part) (set_at sets.firsts r) later s t
                  (λ n member. looked.all n (record { place = k; part = r; after = omega (arith, before, same); there = other_there; member = member })) pair))
              | inr other ↦ looked.none j k q r (omega (arith, above, other)) before there other_there
            ];
      }

  -- a pair with a later one is a pair of two
  pub two_found : HasFirstPair sets.starts (set_at sets.firsts part) later → (g : Grammar) → AreWellFormed g sets → TwoMeet g sets parts
  two_found has g formed =
      let pair = has.pair in
      let is = looked.some has.t pair.in_other.member in
      let above = is.after in
      let other = set_at sets.firsts is.part in
      let within : (n : ℕ) → contains (set_at sets.firsts is.part) n ≡ true → contains later n ≡ true =
      λ n member. looked.all n (record { place = is.place; part = is.part; after = is.after; there = is.there; member = member }) in
      record {
        place = next;
        later = is.place;
        part = part;
        other = is.part;
        before = omega (arith, above);
        there = at;
        other_there = is.there;
        meet = first_pair g sets formed (set_at sets.firsts part) (set_at sets.firsts is.part) (record {
          s = has.s;
          t = has.t;
          pair = record { x = pair.x; y = pair.y; in_one = pair.in_one; in_other = record { there = pair.in_other.there; member = is.member }; together = pair.together };
          first_one = λ r u below two. has.first_one r u below (wider sets.starts (set_at sets.firsts part) (set_at sets.firsts is.part) later r u within two);
          first_other = λ u below two. has.first_other u below (wider sets.starts (set_at sets.firsts part) (set_at sets.firsts is.part) later has.s u within two);
        });
      }

pub look_none : (sets : Sets) (parts : List ℕ) (later : List Bool) → length later ≡ length sets.starts → ((t : ℕ) → contains later t ≡ false) → HaveLooked sets parts (length parts) later
look_none sets parts later same empty = record {
  inside = omega arith;
  limit = same;
  some = λ t member. absurd (true≢false (sym member ∙ empty t));
  all = λ t is. (let above = is.after in let within = slice_get_within parts is.place is.part is.there in absurd (omega (arith, above, within)));
  none = λ j k q r above before there other_there. (let within = slice_get_within parts j q there in absurd (omega (arith, above, within)));
}

pub none_meet : (g : Grammar) (sets : Sets) (parts : List ℕ) (later : List Bool) → HaveLooked sets parts 0 later → AreWellFormed g sets → TwoMeet g sets parts → ⊥
none_meet g sets parts later looked formed two =
    no_pair g sets formed (set_at sets.firsts two.part) (set_at sets.firsts two.other)
    (looked.none two.place two.later two.part two.other (omega arith) two.before two.there two.other_there) two.meet.0 two.meet.1 two.meet.2.meet

-- ---- kinds with the same starts

pub same_meet : (g : Grammar) (One Kind Other : StartKind → Type 0) → ((start : StartKind) → One start ↔ Kind start) → SomeMeet g One Other → SomeMeet g Kind Other
same_meet g One Kind Other same some =
    let first = some.2 in
    let back : (s t : ListedStart) → Meet g Kind Other s t → Meet g One Other s t =
    λ s t meet. record { one_listed = meet.one_listed; other_listed = meet.other_listed; one = (same s.start).1 meet.one; other = meet.other; together = meet.together } in (
      some.0,
      some.1,
      record {
        meet = record {
          one_listed = first.meet.one_listed;
          other_listed = first.meet.other_listed;
          one = (same some.0.start).0 first.meet.one;
          other = first.meet.other;
          together = first.meet.together;
        };
        first_one = λ x y meet less. first.first_one x y (back x y meet) less;
        first_other = λ y meet less. first.first_other y (back some.0 y meet) less;
      },
    )

-- a chain's link begins with the starts of the united set
pub link_is : (sets : Sets) (operand separator : ℕ) (link : List Bool) → IsNullableBy sets separator
    → ((n : ℕ) → contains link n ≡ (contains (set_at sets.firsts separator) n || contains (set_at sets.firsts operand) n))
    → (start : StartKind) → HasStart sets.starts link start ↔ BeginsLinkBy sets operand separator start
link_is sets operand separator link null united start = (there, back)
  where
    there : HasStart sets.starts link start → BeginsLinkBy sets operand separator start
    there has =
        elim (either (contains (set_at sets.firsts separator) has.number) (contains (set_at sets.firsts operand) has.number) (sym (united has.number) ∙ has.member)) [
          | inl of_separator ↦ inl (record { number = has.number; listed = has.listed; member = of_separator; there = has.there; same = has.same })
          | inr of_operand ↦ inr (null, record { number = has.number; listed = has.listed; member = of_operand; there = has.there; same = has.same })
        ]

    back : BeginsLinkBy sets operand separator start → HasStart sets.starts link start
    back (inl has) = record {
      number = has.number;
      listed = has.listed;
      member = united has.number ∙ or_left (contains (set_at sets.firsts separator) has.number) (contains (set_at sets.firsts operand) has.number) has.member;
      there = has.there;
      same = has.same;
    }
    back (inr (also, has)) = record {
      number = has.number;
      listed = has.listed;
      member = united has.number ∙ or_right (contains (set_at sets.firsts separator) has.number) (contains (set_at sets.firsts operand) has.number) has.member;
      there = has.there;
      same = has.same;
    }

-- with a separator that reads something a link begins as the separator does
pub separator_is : (sets : Sets) (operand separator : ℕ) → is_marked sets.nullable separator ≡ false → (start : StartKind)
    → BeginsBy sets separator start ↔ BeginsLinkBy sets operand separator start
separator_is sets operand separator solid start = (λ has. inl has, back)
  where
    back : BeginsLinkBy sets operand separator start → BeginsBy sets separator start
    back (inl has) = has
    back (inr (null, has)) = absurd (true≢false (sym null ∙ solid))
