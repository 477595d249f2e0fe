-- Starts and their numbers: by the order of starts, and under one name each.
use Rattle.std.proofs.Common.{◌≡◌, ℕ, ◌<◌, Bool, true, List, Some, slice_get, sym, ap, subst, ◌∙◌, inl, inr, arith}
use Rattle.std.proofs.Common.{Less, Greater}
use Rattle.std.specs.List.Sorted.{IsStrictlySortedBy}
use Rattle.std.specs.Ordering.{ordering_reverse}
use Rattle.std.proofs.lemmas.Bool.{cases_eq, cases_lt}
use Rattle.std.proofs.lemmas.Map.Keys.{Less-from_sorted}
use Rattle.std.proofs.lemmas.Option.{same_Some, slice_get_within, get_or_from_slice_get}
use Rattle.pg_grammar_value.specs.Grammar.{Grammar}
use lib.ListN.{get_or}
use Rattle.pg_graph_bits.specs.Numbers.{contains}
use Rattle.pg_start.specs.declared.kind.StartKind.{StartKind}
use Rattle.pg_start.specs.declared.kind.StartKind.TheVariants.{Class, Key, Word, End}
use Rattle.pg_sets_own.specs.Listed.{IsListed, IsNumbered, start_order, start_order_total}
use Rattle.pg_sets.specs.Sets.{HasStart}
use Rattle.pg_sets_own.specs.declared.listed.ListedStart.{ListedStart}
use Rattle.pg_predict_conditions.specs.WithStarts.{Starts, start_at}

-- less is not greater
pub less_greater : Less ≡ Greater → ⊥
less_greater e = grind (arith, e)

-- no two starts are each below the other
pub never_both : (x y : ListedStart) → start_order x y ≡ Less → start_order y x ≡ Less → ⊥
never_both x y e f = less_greater (sym e ∙ (start_order_total.antisymm x y ∙ ap ordering_reverse f))

-- starts that stand in their order have the order of their numbers
pub numbers_order : (starts : List ListedStart) (s t : ℕ) (x y : ListedStart) → IsStrictlySortedBy start_order starts → slice_get starts s ≡ Some x → slice_get starts t ≡ Some y → s < t
    → start_order x y ≡ Less
numbers_order starts s t x y sorted at_s at_t below =
    let less = Less-from_sorted start_order starts s t x sorted below (slice_get_within starts t y at_t) in
    sym (ap (λ z. start_order z y) (get_or_from_slice_get starts s x x at_s)) ∙ (sym (ap (start_order (get_or starts s x)) (get_or_from_slice_get starts t y x at_t)) ∙ less)

pub order_numbers : (starts : List ListedStart) (s t : ℕ) (x y : ListedStart) → IsStrictlySortedBy start_order starts → slice_get starts s ≡ Some x → slice_get starts t ≡ Some y
    → start_order x y ≡ Less → s < t
order_numbers starts s t x y sorted at_s at_t less =
    elim (cases_lt s t) [
      | inl below ↦ below
      | inr more ↦
          elim (cases_eq s t) [
            | inl same ↦
                let one : x ≡ y = same_Some x y (sym at_s ∙ (ap (slice_get starts) same ∙ at_t)) in
                let self = subst (λ z. start_order x z ≡ Less) (sym one) less in
                absurd (never_both x x self self)
            | inr other ↦ absurd (never_both x y less (numbers_order starts t s y x sorted at_t at_s (omega arith)))
          ]
    ]

pub same_numbers : (starts : List ListedStart) (s t : ℕ) (x : ListedStart) → IsStrictlySortedBy start_order starts → slice_get starts s ≡ Some x → slice_get starts t ≡ Some x → s ≡ t
same_numbers starts s t x sorted at_s at_t =
    elim (cases_eq s t) [
      | inl same ↦ same
      | inr other ↦
          elim (cases_lt s t) [
            | inl below ↦ let less = numbers_order starts s t x x sorted at_s at_t below in absurd (never_both x x less less)
            | inr more ↦ let less = numbers_order starts t s x x sorted at_t at_s (omega arith) in absurd (never_both x x less less)
          ]
    ]

-- ---- names

-- a start has one number
pub numbered_once : (g : Grammar) (start : StartKind) (v w : ℕ) → IsNumbered g start v → IsNumbered g start w → v ≡ w
numbered_once g (Class ranges) v w a b = a ∙ sym b
numbered_once g (Key text excluded) v w a b = a ∙ sym b
numbered_once g (Word heads rest reserved) v w a b =
    let a_bound = a.bound in
    let b_bound = b.bound in
    elim (cases_eq v w) [
      | inl same ↦ same
      | inr other ↦
          elim (cases_lt v w) [
            | inl below ↦ absurd (b.none_before v below (a.reads (omega arith)))
            | inr more ↦ let below : w < v = omega arith in absurd (a.none_before w below (b.reads (omega arith)))
          ]
    ]
numbered_once g End v w a b = a ∙ sym b

-- a start is listed under one name
pub listed_once : (g : Grammar) (x y : ListedStart) → IsListed g x → IsListed g y → x.start ≡ y.start → x ≡ y
listed_once g x y a b same =
    let renamed : IsNumbered g y.start x.word = subst (λ (start : StartKind). IsNumbered g start x.word) same a in
    let word : x.word ≡ y.word = numbered_once g y.start x.word y.word renamed b in
    ap (λ (start : StartKind). record x { start = start }) same ∙ ap (λ (w : ℕ). record y { word = w }) word

-- ---- places

pub record Placed (starts : List ListedStart) (x : ListedStart) : Type 0 where
  pub number : ℕ
  pub there : slice_get starts number ≡ Some x

-- a start of a set is in the list, under its name
pub placed_by : (g : Grammar) (starts : List ListedStart) (set : List Bool) (x : ListedStart) → ((k : ℕ) (listed : ListedStart) → slice_get starts k ≡ Some listed → IsListed g listed)
    → IsListed g x → HasStart starts set x.start → Placed starts x
placed_by g starts set x all is has =
    let same = listed_once g has.listed x (all has.number has.listed has.there) is has.same in
    record { number = has.number; there = has.there ∙ ap Some same }

-- and in the set by the number that it has
pub member_by : (g : Grammar) (starts : List ListedStart) (set : List Bool) (s : ℕ) (x : ListedStart) → IsStrictlySortedBy start_order starts
    → ((k : ℕ) (listed : ListedStart) → slice_get starts k ≡ Some listed → IsListed g listed) → slice_get starts s ≡ Some x → HasStart starts set x.start → contains set s ≡ true
member_by g starts set s x sorted all at has =
    let same = listed_once g has.listed x (all has.number has.listed has.there) (all s x at) has.same in
    let number = same_numbers starts has.number s x sorted (has.there ∙ ap Some same) at in
    sym (ap (contains set) number) ∙ has.member

pub start_is : (starts : Starts) (s : ℕ) (x : ListedStart) → slice_get starts.listed s ≡ Some x → start_at starts s ≡ x
start_is starts s x at = get_or_from_slice_get starts.listed s x starts.own at
