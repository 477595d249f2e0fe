-- The numbers of rows: the row of a precedence stands in the list of rows before its number.
use Rattle.std.proofs.Common.{◌≡◌, ◌⊎◌, ◌<◌, ◌≤◌, ◌+◌, ◌-◌, ◌==◌, ℕ, zero, suc, Bool, true, false, cond, List, [], ◌∷◌, length, slice_get, get_or, set, Some, None, inl, inr, refl, sym, ap, subst, ◌∙◌, eq-eqb, eqb-true, arith}
use Rattle.std.proofs.lemmas.Bool.{cases_eq}
use Rattle.std.proofs.lemmas.List.{get_or-set_same, get_or-set_other}
use Rattle.pg_grammar_form.specs.Operators.{Operator}
use Rattle.pg_table.specs.Rows.{holds, rows_from, row_of, rows}
use Rattle.pg_table.specs.Fitting.{row}
use Rattle.pg_expand.proofs.Members.{Among}
use Rattle.pg_expand.proofs.Levels.{held, row_step, row_held, row_free, one_row, tighter}

module _ (os : List Operator) where
  -- the precedences below a number that hold an operator, the tightest first
  abbrev held_below : ℕ → List ℕ
  held_below zero = []
  held_below (suc p) = cond (holds os p) (p ∷ held_below p) (held_below p)

  -- a precedence that holds an operator, with its row
  pub record IsRowOf (p q n : ℕ) : Type 0 where
    pub below : q < p
    pub holding : holds os q ≡ true
    pub number : row_of os q ≡ n

  -- one more precedence before those that hold an operator
  one_more : (p : ℕ) → p < 10 → (b : Bool) → holds os p ≡ b → ((k q : ℕ) → slice_get (held_below p) k ≡ Some q → IsRowOf p q (suc (row_of os p + k))) →
      (k q : ℕ) → slice_get (cond b (p ∷ held_below p) (held_below p)) k ≡ Some q → IsRowOf (suc p) q (suc (row_of os (suc p) + k))
  one_more p l true t rest zero q e =
      let same : p ≡ q = cc in
      let up = row_held os p l t in
      subst (λ r. IsRowOf (suc p) r (suc (row_of os (suc p) + 0))) same (record { below = omega arith; holding = t; number = omega arith })
  one_more p l true t rest (suc k) q e =
      let is = rest k q e in
      let up = row_held os p l t in
      let under = is.below in
      let number = is.number in
      record { below = omega arith; holding = is.holding; number = omega arith }
  one_more p l false t rest k q e =
      let is = rest k q e in
      let level = row_free os p l t in
      let under = is.below in
      let number = is.number in
      record { below = omega arith; holding = is.holding; number = omega arith }

  at_place : (p : ℕ) → p ≤ 10 → (k q : ℕ) → slice_get (held_below p) k ≡ Some q → IsRowOf p q (suc (row_of os p + k))
  at_place zero l k q e = absurd cc
  at_place (suc p) l k q e = one_more p (omega arith) (holds os p) refl (at_place p (omega arith)) k q e

  one_counted : (p : ℕ) → p < 10 → (b : Bool) → holds os p ≡ b → length (held_below p) + row_of os p ≡ row_of os 0 →
      length (cond b (p ∷ held_below p) (held_below p)) + row_of os (suc p) ≡ row_of os 0
  one_counted p l true t rest = let up = row_held os p l t in omega arith
  one_counted p l false t rest = let level = row_free os p l t in omega arith

  count : (p : ℕ) → p ≤ 10 → length (held_below p) + row_of os p ≡ row_of os 0
  count zero l = omega arith
  count (suc p) l = one_counted p (omega arith) (holds os p) refl (count p (omega arith))

  -- a precedence in the list of rows
  pub row_there : (k p : ℕ) → slice_get (rows os) k ≡ Some p → IsRowOf 10 p (suc k)
  row_there k p e =
      let is = at_place 10 (omega arith) k p e in
      let number = is.number in
      record { below = is.below; holding = is.holding; number = omega arith }

  past_end : (ps : List ℕ) (k : ℕ) → slice_get ps k ≡ None → length ps ≤ k
  past_end [] k e = omega arith
  past_end (p ∷ ps) zero e = absurd cc
  past_end (p ∷ ps) (suc k) e = let rest = past_end ps k e in omega arith

  -- where there is no row more, none has a greater number
  pub row_past : (k : ℕ) → slice_get (rows os) k ≡ None → row_of os 0 ≤ k
  row_past k e = let all = count 10 (omega arith) in let far = past_end (rows os) k e in omega arith

  -- no precedence above 9 has a row
  row_high : (p : ℕ) → 9 < p → row_of os p ≡ 0
  row_high p h = let e : 10 - p ≡ 0 = omega arith in ap (rows_from os p) e

  digit_or_high : (p : ℕ) → (p ≤ 9) ⊎ (9 < p)
  digit_or_high p = grind arith

  pub row_low : (p : ℕ) → row_of os p ≤ row_of os 0
  row_low p = elim (digit_or_high p) [ inl l ↦ tighter os 0 p (omega arith) (omega arith) | inr h ↦ (let e = row_high p h in omega arith) ]

  -- the operators of the row with a number are those of its precedence
  number_is_precedence : (k p : ℕ) (o : Operator) → slice_get (rows os) k ≡ Some p → Among o os → row os o ≡ suc k → o.precedence ≡ p
  number_is_precedence k p o e m n = let there = row_there k p e in let below = there.below in let number = there.number in elim (digit_or_high o.precedence) [
    | inl l ↦ one_row os o.precedence p l (omega arith) (held os o m) there.holding (n ∙ sym number)
    | inr h ↦ (let none = row_high o.precedence h in absurd (omega arith))
  ]

  both_ways : (a b : Bool) → (a ≡ true → b ≡ true) → (b ≡ true → a ≡ true) → a ≡ b
  both_ways true b there back = sym (there refl)
  both_ways false true there back = back refl
  both_ways false false there back = refl

  pub number-precedence : (k p : ℕ) (o : Operator) → slice_get (rows os) k ≡ Some p → Among o os → (row os o == suc k) ≡ (o.precedence == p)
  number-precedence k p o e m = both_ways (row os o == suc k) (o.precedence == p)
      (λ h. eq-eqb o.precedence p (number_is_precedence k p o e m (eqb-true (row os o) (suc k) h)))
      (λ h. eq-eqb (row os o) (suc k) (ap (row_of os) (eqb-true o.precedence p h) ∙ (row_there k p e).number))

  -- ---- the numbers of the precedences, the tightest first

  -- the row of one precedence more
  pub row_next : (n : ℕ) → n < 10 → row_of os (10 - (n + 1)) ≡ cond (holds os (9 - n)) 1 0 + row_of os (10 - n)
  row_next n l =
      let this : 10 - (n + 1) ≡ 9 - n = omega arith in
      let last : suc (9 - n) ≡ 10 - n = omega arith in
      ap (row_of os) this ∙ (row_step os (9 - n) (omega arith) ∙ ap (λ p. cond (holds os (9 - n)) 1 0 + row_of os p) last)

  -- the precedences from the tightest on, so many of them, have these numbers
  abbrev pub AreNumbered : ℕ → List ℕ → Type 0
  AreNumbered n numbers = (p : ℕ) → p < 10 → 10 ≤ p + n → get_or numbers p 0 ≡ row_of os p

  pub numbered_more : (n q number : ℕ) (numbers : List ℕ) → n < 10 → length numbers ≡ 10 → q ≡ 9 - n → number ≡ row_of os (10 - (n + 1)) → AreNumbered n numbers → AreNumbered (n + 1) (set numbers q number)
  numbered_more n q number numbers l long e is so_far p below h = elim (cases_eq p q) [
    | inl same ↦ (let this : 10 - (n + 1) ≡ p = omega arith in
        ap (λ (k : ℕ). get_or (set numbers q number) k 0) same ∙ (get_or-set_same numbers q number 0 (omega arith) ∙ (is ∙ ap (row_of os) this)))
    | inr apart ↦ (get_or-set_other numbers q p number 0 apart ∙ so_far p below (by_parts apart))
  ]
    where
      by_parts : (p ≡ q → ⊥) → 10 ≤ p + n
      by_parts apart = grind arith
