-- A set that is changed where it stands in the one or the other half of a list.
use Rattle.std.proofs.Common.{◌≡◌, ℕ, ◌<◌, Bool, List, [], ◌∷◌, ◌++◌, slice_set, length, sym, ap, ◌∙◌, arith, length-append}
use Rattle.std.proofs.lemmas.List.{get_or_append_left, get_or_at, get_or-set_same, set-append_left, set_at as set_in}
use Rattle.pg_graph_bits.specs.Numbers.{set_at}

-- in the first half
module _ (sets front back : List (List Bool)) (to : ℕ) (set : List Bool) (whole : sets ≡ front ++ back) (inside : to < length front) where
  pub front_read : set_at front to ≡ set_at sets to
  front_read = sym (get_or_append_left front back [] to inside) ∙ ap (λ xs. set_at xs to) (sym whole)

  front_changed : set_at (slice_set front to set ++ back) to ≡ set
  front_changed = ap (λ xs. set_at xs to) (sym (set-append_left front back to set inside)) ∙ get_or-set_same (front ++ back) to set [] within
    where
      within : to < length (front ++ back)
      within = omega (arith, length-append {A = List Bool})

  pub front_others : slice_set front to set ++ back ≡ slice_set sets to (set_at (slice_set front to set ++ back) to)
  front_others =
      sym (set-append_left front back to set inside)
      ∙ (ap (λ xs. slice_set xs to set) (sym whole) ∙ ap (λ x. slice_set sets to x) (sym front_changed))

  pub front_is : set_at (slice_set front to set ++ back) to ≡ set
  front_is = front_changed

-- at the head of the second
module _ (sets front : List (List Bool)) (to : ℕ) (set : List Bool) (long : length front ≡ to) where
  pub back_read : (back : List (List Bool)) → sets ≡ front ++ back → 0 < length back → set_at back 0 ≡ set_at sets to
  back_read [] whole some = absurd (omega arith)
  back_read (b ∷ bs) whole some = sym (get_or_at front b bs [] to long) ∙ ap (λ xs. set_at xs to) (sym whole)

  pub back_is : (back : List (List Bool)) → 0 < length back → set_at (front ++ slice_set back 0 set) to ≡ set
  back_is [] some = absurd (omega arith)
  back_is (b ∷ bs) some = get_or_at front set bs [] to long

  pub back_others : (back : List (List Bool)) → sets ≡ front ++ back → 0 < length back
      → front ++ slice_set back 0 set ≡ slice_set sets to (set_at (front ++ slice_set back 0 set) to)
  back_others [] whole some = absurd (omega arith)
  back_others (b ∷ bs) whole some =
      sym (set_in front b bs set to long)
      ∙ (ap (λ xs. slice_set xs to set) (sym whole) ∙ ap (λ x. slice_set sets to x) (sym (get_or_at front set bs [] to long)))
