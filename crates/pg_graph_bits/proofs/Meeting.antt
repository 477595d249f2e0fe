-- The least number whose bit is set.
use Rattle.std.proofs.Common.{◌≡◌, ℕ, ◌+◌, ◌*◌, ◌/◌, ◌%◌, ◌^◌, ◌<◌, ◌≤◌, Bool, false, inl, inr, List, get_or, ◌-◌, eqb, sym, ap, subst, ◌∙◌, arith, w64}
use Rattle.std.specs.Prelude.{bit_and}
use Rattle.std.specs.Int.{bit_at, trailing_zeros}
use Rattle.std.proofs.lemmas.Bool.{cases_lt, eq-eqb}
use Rattle.std.proofs.lemmas.Nat.{shr-shr}
use Rattle.std.proofs.lemmas.Nat.Bits.{bit_at-trailing_zeros, bit_at-zero, bit_at_above}
use Rattle.pg_graph_bits.specs.Numbers.{IsNext}
use Rattle.pg_graph_bits.specs.Words.{has_bit, both_have_bit}
use Rattle.pg_graph_bits.proofs.Bits.{and_test, no_bit}

-- nor in both of two words that share none
pub zero_both : (words others : List ℕ) (n : ℕ) → bit_and (get_or words (n / 64) 0) (get_or others (n / 64) 0) ≡ 0 → both_have_bit words others n ≡ false
zero_both words others n e =
    let a = get_or words (n / 64) 0 in
    let b = get_or others (n / 64) 0 in
    sym (and_test a b (n % 64)) ∙ no_bit (bit_and a b) (n % 64) (ap (λ w. bit_at w (n % 64)) e ∙ bit_at-zero (n % 64))

-- the lowest bit of the first of some words that isn't 0, where the word at a place tells a test of the numbers
pub first_at : (test : ℕ → Bool) (word k from : ℕ) → 0 < word → word < 18446744073709551616 → from ≤ k * 64
    → ((i : ℕ) → i < 64 → test (k * 64 + i) ≡ eqb (bit_at word i) 1) → ((n : ℕ) → from ≤ n → n < k * 64 → test n ≡ false)
    → IsNext test from (k * 64 + trailing_zeros w64 word)
first_at test word k from some fits after tells before =
    let lowest = bit_at-trailing_zeros w64 word some fits in
    let place : ℕ = trailing_zeros w64 word in
    record {
      after = (omega arith);
      passes = tells place lowest.0 ∙ eq-eqb (bit_at word place) 1 lowest.1;
      before = λ n low high.
          elim (cases_lt n (k * 64)) [
            | inl less ↦ before n low less
            | inr more ↦
                let i : ℕ = n - k * 64 in
                let at : k * 64 + i ≡ n = omega arith in
                let few : i < place = omega arith in
                let inside : i < 64 = omega arith in
                subst (λ m. test m ≡ false) at (tells i inside ∙ no_bit word i (lowest.2 i few))
          ];
    }

-- how two words tell the numbers in both
pub both_tell : (words others : List ℕ) (k i : ℕ) → i < 64 → both_have_bit words others (k * 64 + i) ≡ eqb (bit_at (bit_and (get_or words k 0) (get_or others k 0)) i) 1
both_tell words others k i few =
    let n : ℕ = k * 64 + i in
    let word : n / 64 ≡ k = omega arith in
    let bit : n % 64 ≡ i = omega arith in
    sym (and_test (get_or words (n / 64) 0) (get_or others (n / 64) 0) (n % 64))
    ∙ (ap (λ j. eqb (bit_at (bit_and (get_or words j 0) (get_or others j 0)) (n % 64)) 1) word ∙ ap (λ b. eqb (bit_at (bit_and (get_or words k 0) (get_or others k 0)) b) 1) bit)

-- and one word the numbers in it
pub one_tells : (words : List ℕ) (k i : ℕ) → i < 64 → has_bit words (k * 64 + i) ≡ eqb (bit_at (get_or words k 0) i) 1
one_tells words k i few =
    let n : ℕ = k * 64 + i in
    let word : n / 64 ≡ k = omega arith in
    let bit : n % 64 ≡ i = omega arith in
    ap (λ j. eqb (bit_at (get_or words j 0) (n % 64)) 1) word ∙ ap (λ b. eqb (bit_at (get_or words k 0) b) 1) bit

-- what a word tells that was shifted
module _ (words : List ℕ) (from : ℕ) where
  abbrev rest_of : ℕ
  rest_of = get_or words (from / 64) 0 / 2 ^ (from % 64)

  rest_tells : (n : ℕ) → from ≤ n → n < (from / 64 + 1) * 64 → has_bit words n ≡ eqb (bit_at rest_of (n - from)) 1
  rest_tells n low high =
      let word : n / 64 ≡ from / 64 = omega arith in
      let bit : n % 64 ≡ from % 64 + (n - from) = omega arith in
      ap (λ j. eqb (bit_at (get_or words j 0) (n % 64)) 1) word
      ∙ (ap (λ b. eqb (bit_at (get_or words (from / 64) 0) b) 1) bit
      ∙ ap (λ x. eqb (x % 2) 1) (sym (shr-shr (get_or words (from / 64) 0) (from % 64) (n - from))))

  -- a word that holds none of them
  pub none_in_rest : rest_of ≡ 0 → (n : ℕ) → from ≤ n → n < (from / 64 + 1) * 64 → has_bit words n ≡ false
  none_in_rest none n low high = rest_tells n low high ∙ ap (λ b. eqb b 1) (ap (λ w. bit_at w (n - from)) none ∙ bit_at-zero (n - from))

  -- one that holds some
  pub inside_rest : 0 < rest_of → get_or words (from / 64) 0 < 2 ^ 64 → from + trailing_zeros w64 rest_of < (from / 64 + 1) * 64
  inside_rest some fits =
      let small : rest_of ≤ get_or words (from / 64) 0 = omega arith in
      let lowest = bit_at-trailing_zeros w64 rest_of some (omega arith) in
      let place : ℕ = trailing_zeros w64 rest_of in
      elim (cases_lt (from % 64 + place) 64) [
        | inl below ↦ omega arith
        | inr past ↦
            let none = bit_at_above (get_or words (from / 64) 0) 64 (from % 64 + place) fits past in
            let here : bit_at rest_of place ≡ bit_at (get_or words (from / 64) 0) (from % 64 + place) = ap (λ x. x % 2) (shr-shr (get_or words (from / 64) 0) (from % 64) place) in
            absurd (omega arith)
      ]

  pub first_in_rest : 0 < rest_of → get_or words (from / 64) 0 < 2 ^ 64 → IsNext (has_bit words) from (from + trailing_zeros w64 rest_of)
  first_in_rest some fits =
      let small : rest_of ≤ get_or words (from / 64) 0 = omega arith in
      let lowest = bit_at-trailing_zeros w64 rest_of some (omega arith) in
      let place : ℕ = trailing_zeros w64 rest_of in
      let inside = inside_rest some fits in
      let at : from + place - from ≡ place = omega arith in
      record {
        after = (omega arith);
        passes = rest_tells (from + place) (omega arith) inside ∙ eq-eqb (bit_at rest_of (from + place - from)) 1 (ap (bit_at rest_of) at ∙ lowest.1);
        before = λ n low high.
            let few : n - from < place = omega arith in
            rest_tells n low (omega arith) ∙ ap (λ b. eqb b 1) (lowest.2 (n - from) few);
      }
