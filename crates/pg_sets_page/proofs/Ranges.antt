-- Steps of what goes through the numbers of a range.
use Rattle.std.proofs.Common.{◌≡◌, ◌∙◌, ℕ, ◌+◌, ◌-◌, ◌<◌, suc, Bool, true, false, List, [], ◌∷◌, ◌++◌, cond, append_assoc, ap, sym, arith}
use Rattle.std.specs.List.{filter, flat_map, range_with_len}

range_step : (a e : ℕ) → a < e → range_with_len a (e - a) ≡ a ∷ range_with_len (a + 1) (e - (a + 1))
range_step a e low = let more : e - a ≡ suc (e - (a + 1)) = omega arith in ap (range_with_len a) more

-- what is made of a number is pushed onto a page
pub range_pushed : (f : ℕ → List ℕ) (page next all : List ℕ) (a e : ℕ) → a < e → next ≡ page ++ f a
    → page ++ flat_map f (range_with_len a (e - a)) ≡ all → next ++ flat_map f (range_with_len (a + 1) (e - (a + 1))) ≡ all
range_pushed f page next all a e low is so_far =
    ap (λ (p : List ℕ). p ++ flat_map f (range_with_len (a + 1) (e - (a + 1)))) is
    ∙ append_assoc page (f a) (flat_map f (range_with_len (a + 1) (e - (a + 1))))
    ∙ ap (λ (xs : List ℕ). page ++ flat_map f xs) (sym (range_step a e low)) ∙ so_far

-- a number that passes a test is kept, and one that doesn't is passed over
pub range_kept : (p : ℕ → Bool) (kept next all : List ℕ) (a e : ℕ) → a < e → p a ≡ true → next ≡ kept ++ a ∷ []
    → kept ++ filter p (range_with_len a (e - a)) ≡ all → next ++ filter p (range_with_len (a + 1) (e - (a + 1))) ≡ all
range_kept p kept next all a e low passes is so_far =
    let rest : List ℕ = filter p (range_with_len (a + 1) (e - (a + 1))) in
    ap (λ (k : List ℕ). k ++ rest) is ∙ append_assoc kept (a ∷ []) rest
    ∙ ap (λ (b : Bool). kept ++ cond b (a ∷ rest) rest) (sym passes)
    ∙ ap (λ (xs : List ℕ). kept ++ filter p xs) (sym (range_step a e low)) ∙ so_far

pub range_passed : (p : ℕ → Bool) (kept next all : List ℕ) (a e : ℕ) → a < e → p a ≡ false → next ≡ kept
    → kept ++ filter p (range_with_len a (e - a)) ≡ all → next ++ filter p (range_with_len (a + 1) (e - (a + 1))) ≡ all
range_passed p kept next all a e low fails is so_far =
    let rest : List ℕ = filter p (range_with_len (a + 1) (e - (a + 1))) in
    ap (λ (k : List ℕ). k ++ rest) is
    ∙ ap (λ (b : Bool). kept ++ cond b (a ∷ rest) rest) (sym fails)
    ∙ ap (λ (xs : List ℕ). kept ++ filter p xs) (sym (range_step a e low)) ∙ so_far
