-- Facts on the bits of words.
use Rattle.std.proofs.Common.{◌≡◌, ◌≢◌, ℕ, zero, suc, ◌+◌, ◌*◌, ◌/◌, ◌%◌, ◌^◌, ◌<◌, ◌≤◌, Bool, true, false, ◌&&◌, ◌||◌, ◌⊎◌, inl, inr, List, get_or, length, max, min, replicate, slice_set, eqb, refl, sym, ap, subst, ◌∙◌, arith, w64}
use Rattle.std.specs.Prelude.{bit_and, bit_or}
use Rattle.std.specs.Int.{bit_at}
use Rattle.std.proofs.lemmas.Bool.{cases_eq, cases_lt, true≢false, eq-eqb, eqb-true}
use Rattle.std.proofs.lemmas.List.{get_or_past, get_or-replicate, get_or-set_same, get_or-set_other, length-set, length-replicate, ext_get_or}
use Rattle.std.proofs.lemmas.List.FromFn.{get_or-map-range_with_len, length-map-range_with_len}
use Rattle.std.proofs.lemmas.Nat.Bits.{bit_at_or, bit_at_and, bit_at-zero, bit_at-lt, same_from_bits_below, bit_at_set_same, bit_at_set_other}
use Rattle.pg_graph_bits.specs.Numbers.{contains}
use Rattle.pg_graph_bits.specs.Words.{has_bit, marks_of, HoldsBelow, AddsBit}

-- ---- marks and bits

pub marks_length : (words : List ℕ) (limit : ℕ) → length (marks_of words limit) ≡ limit
marks_length words limit = length-map-range_with_len (has_bit words) 0 limit

-- a set contains the numbers whose bits are set
pub reads : (words : List ℕ) (limit : ℕ) → HoldsBelow words limit → (n : ℕ) → contains (marks_of words limit) n ≡ has_bit words n
reads words limit holds n =
    elim (cases_lt n limit) [
      | inl below ↦ get_or-map-range_with_len (has_bit words) 0 limit n n false below (omega arith)
      | inr past ↦ let long = marks_length words limit in get_or_past (marks_of words limit) n false (omega arith) ∙ sym (holds.none_past n past)
    ]

-- after the last word there is none
pub no_word : (words : List ℕ) (n : ℕ) → length words ≤ n / 64 → has_bit words n ≡ false
no_word words n past = ap (λ w. eqb (bit_at w (n % 64)) 1) (get_or_past words (n / 64) 0 past) ∙ ap (λ b. eqb b 1) (bit_at-zero (n % 64))

pub one_bit : (w k : ℕ) → eqb (bit_at w k) 1 ≡ true → bit_at w k ≡ 1
one_bit w k e = eqb-true (bit_at w k) 1 e

pub no_bit : (w k : ℕ) → bit_at w k ≡ 0 → eqb (bit_at w k) 1 ≡ false
no_bit w k e = ap (λ b. eqb b 1) e

-- ---- words without bits

pub no_bits : (count n : ℕ) → has_bit (replicate count 0) n ≡ false
no_bits count n =
    elim (cases_lt (n / 64) count) [
      | inl below ↦ no_bit (get_or (replicate count 0) (n / 64) 0) (n % 64) (ap (λ w. bit_at w (n % 64)) (get_or-replicate count (n / 64) 0 0 below) ∙ bit_at-zero (n % 64))
      | inr past ↦ let long = length-replicate {A = ℕ} count 0 in no_word (replicate count 0) n (omega arith)
    ]

pub holds_none : (limit : ℕ) → limit < 2 ^ 64 → HoldsBelow (replicate (limit / 64 + 1) 0) limit
holds_none limit small = record { small = small; long = length-replicate {A = ℕ} (limit / 64 + 1) 0; none_past = λ n past. no_bits (limit / 64 + 1) n }

pub new_marks : (limit : ℕ) → limit < 2 ^ 64 → marks_of (replicate (limit / 64 + 1) 0) limit ≡ replicate limit false
new_marks limit small =
    let words = replicate (limit / 64 + 1) 0 in
    let long = marks_length words limit in
    let same : length (replicate limit false) ≡ limit = length-replicate {A = Bool} limit false in
    ext_get_or false (marks_of words limit) (replicate limit false) (long ∙ sym same)
    (λ i below. let inside : i < limit = subst (λ n. i < n) long below in reads words limit (holds_none limit small) i ∙ (no_bits (limit / 64 + 1) i ∙ sym (get_or-replicate limit i false false inside)))

-- ---- a bit more

module _ (words : List ℕ) (limit number : ℕ) (holds : HoldsBelow words limit) (below : number < limit) where
  abbrev word_with : ℕ
  word_with = bit_or (get_or words (number / 64) 0) (1 * 2 ^ (number % 64) % 18446744073709551616)

  abbrev with_bit : List ℕ
  with_bit = slice_set words (number / 64) word_with

  pub there : number / 64 < length words
  there = let long = holds.long in omega arith

  bit_is_set : has_bit with_bit number ≡ true
  bit_is_set =
      eq-eqb _ 1 (ap (λ w. bit_at w (number % 64)) (get_or-set_same words (number / 64) word_with 0 there)
      ∙ bit_at_set_same w64 (get_or words (number / 64) 0) (number % 64) (omega arith))

  others_stay : (n : ℕ) → n ≢ number → has_bit with_bit n ≡ has_bit words n
  others_stay n ne =
      elim (cases_eq (n / 64) (number / 64)) [
        | inr other ↦ ap (λ w. eqb (bit_at w (n % 64)) 1) (get_or-set_other words (number / 64) (n / 64) word_with 0 other)
        | inl same ↦
            let apart : n % 64 ≢ number % 64 = λ e. ne (omega arith) in
            let word : get_or with_bit (n / 64) 0 ≡ word_with = ap (λ k. get_or with_bit k 0) same ∙ get_or-set_same words (number / 64) word_with 0 there in
            ap (λ w. eqb (bit_at w (n % 64)) 1) word
            ∙ (ap (λ b. eqb b 1) (bit_at_set_other w64 (get_or words (number / 64) 0) (number % 64) (omega arith) (n % 64) apart)
            ∙ ap (λ k. eqb (bit_at (get_or words k 0) (n % 64)) 1) (sym same))
      ]

  pub holds_with : HoldsBelow with_bit limit
  holds_with = record {
    small = holds.small;
    long = length-set words (number / 64) word_with ∙ holds.long;
    none_past = λ n past. others_stay n (λ e. absurd (omega arith)) ∙ holds.none_past n past;
  }

  pub marks_with : marks_of with_bit limit ≡ slice_set (marks_of words limit) number true
  marks_with =
      let old = marks_length words limit in
      let new = marks_length with_bit limit in
      let same : length (slice_set (marks_of words limit) number true) ≡ length (marks_of words limit) = length-set (marks_of words limit) number true in
      ext_get_or false (marks_of with_bit limit) (slice_set (marks_of words limit) number true) (new ∙ (sym old ∙ sym same))
      (λ i inside. reads with_bit limit holds_with i ∙ elim (cases_eq i number) [
        | inl e ↦ ap (has_bit with_bit) e ∙ (bit_is_set ∙ (sym (get_or-set_same (marks_of words limit) number true false (subst (λ n. number < n) (sym old) below)) ∙ ap (λ k. get_or (slice_set (marks_of words limit) number true) k false) (sym e)))
        | inr ne ↦ others_stay i ne ∙ (sym (reads words limit holds i) ∙ sym (get_or-set_other (marks_of words limit) number i true false ne))
      ])

-- ---- united words

max_test : (a b : ℕ) → a < 2 → b < 2 → eqb (max a b) 1 ≡ (eqb a 1 || eqb b 1)
max_test zero zero l m = refl
max_test zero (suc zero) l m = refl
max_test (suc zero) zero l m = refl
max_test (suc zero) (suc zero) l m = refl
max_test zero (suc (suc b)) l m = absurd (omega arith)
max_test (suc zero) (suc (suc b)) l m = absurd (omega arith)
max_test (suc (suc a)) b l m = absurd (omega arith)

min_test : (a b : ℕ) → a < 2 → b < 2 → eqb (min a b) 1 ≡ (eqb a 1 && eqb b 1)
min_test zero zero l m = refl
min_test zero (suc zero) l m = refl
min_test (suc zero) zero l m = refl
min_test (suc zero) (suc zero) l m = refl
min_test zero (suc (suc b)) l m = absurd (omega arith)
min_test (suc zero) (suc (suc b)) l m = absurd (omega arith)
min_test (suc (suc a)) b l m = absurd (omega arith)

pub or_test : (a b k : ℕ) → eqb (bit_at (bit_or a b) k) 1 ≡ (eqb (bit_at a k) 1 || eqb (bit_at b k) 1)
or_test a b k = ap (λ x. eqb x 1) (bit_at_or a b k) ∙ max_test (bit_at a k) (bit_at b k) (bit_at-lt a k) (bit_at-lt b k)

pub and_test : (a b k : ℕ) → eqb (bit_at (bit_and a b) k) 1 ≡ (eqb (bit_at a k) 1 && eqb (bit_at b k) 1)
and_test a b k = ap (λ x. eqb x 1) (bit_at_and a b k) ∙ min_test (bit_at a k) (bit_at b k) (bit_at-lt a k) (bit_at-lt b k)

-- among the first bits of two words there is one that isn't in the first and is in the second, or all of the second are in the first
record NewBit (a b w : ℕ) : Type 0 where
  place : ℕ
  below : place < w
  new : bit_at a place ≡ 0
  given : bit_at b place ≡ 1

new_bit : (a b w : ℕ) → NewBit a b w ⊎ ((i : ℕ) → i < w → bit_at (bit_or a b) i ≡ bit_at a i)
new_bit a b zero = inr (λ i few. absurd (omega arith))
new_bit a b (suc w) =
    elim (new_bit a b w) [
      | inl found ↦ let below = found.below in inl (record { place = found.place; below = (omega arith); new = found.new; given = found.given })
      | inr same ↦
          let one = bit_at-lt a w in
          let two = bit_at-lt b w in
          let both = bit_at_or a b w in
          elim (cases_lt (bit_at a w) (bit_at b w)) [
            | inl less ↦ inl (record { place = w; below = (omega arith); new = (omega arith); given = (omega arith) })
            | inr more ↦ inr (λ i few. elim (cases_eq i w) [
              | inl e ↦ subst (λ k. bit_at (bit_or a b) k ≡ bit_at a k) (sym e) (omega arith)
              | inr ne ↦ same i (omega arith)
            ])
          ]
    ]

-- a word that changes gets a bit
pub adds_at : (words others : List ℕ) (k : ℕ) → let a = get_or words k 0 in let b = get_or others k 0 in
    a < 18446744073709551616 → bit_or a b < 18446744073709551616 → bit_or a b ≢ a → AddsBit words others
adds_at words others k small fits ne =
    let a = get_or words k 0 in
    let b = get_or others k 0 in
    elim (new_bit a b 64) [
      | inr same ↦ absurd (ne (same_from_bits_below 64 (bit_or a b) a fits small same))
      | inl found ↦
          let below = found.below in
          let number : ℕ = k * 64 + found.place in
          let word : number / 64 ≡ k = omega arith in
          let bit : number % 64 ≡ found.place = omega arith in
          record {
            number = number;
            new = no_bit (get_or words (number / 64) 0) (number % 64) (ap (λ j. bit_at (get_or words j 0) (number % 64)) word ∙ (ap (bit_at a) bit ∙ found.new));
            given = eq-eqb (bit_at (get_or others (number / 64) 0) (number % 64)) 1 (ap (λ j. bit_at (get_or others j 0) (number % 64)) word ∙ (ap (bit_at b) bit ∙ found.given));
          }
    ]

-- where no word changes, none has got a bit
pub adds_none : (words others : List ℕ) → length words ≡ length others → ((k : ℕ) → k < length words → bit_or (get_or words k 0) (get_or others k 0) ≡ get_or words k 0)
    → AddsBit words others → ⊥
adds_none words others long same adds =
    let n = adds.number in
    elim (cases_lt (n / 64) (length words)) [
      | inr past ↦ true≢false (sym adds.given ∙ no_word others n (omega arith))
      | inl below ↦
          let a = get_or words (n / 64) 0 in
          let b = get_or others (n / 64) 0 in
          let both = bit_at_or a b (n % 64) in
          let old : bit_at (bit_or a b) (n % 64) ≡ bit_at a (n % 64) = ap (λ w. bit_at w (n % 64)) (same (n / 64) below) in
          let given = one_bit b (n % 64) adds.given in
          let one : bit_at a (n % 64) ≡ 1 = omega arith in
          true≢false (sym (eq-eqb (bit_at a (n % 64)) 1 one) ∙ adds.new)
    ]
