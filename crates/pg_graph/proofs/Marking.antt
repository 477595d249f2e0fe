-- One mark more.
use Rattle.std.proofs.Common.{◌≡◌, ◌≢◌, ℕ, ◌+◌, ◌<◌, Bool, true, false, not, cond, List, length, count_by, slice_set, inl, inr, ap, ◌∙◌, arith}
use Rattle.std.proofs.lemmas.Bool.{cases_eq}
use Rattle.std.proofs.lemmas.List.{get_or-set_same, get_or-set_other}
use Rattle.std.proofs.lemmas.List.Sums.{sum_by-set}
use Rattle.pg_graph.specs.Marks.{is_marked}

-- the number itself is marked then
pub marked_same : (marks : List Bool) (i : ℕ) → i < length marks → is_marked (slice_set marks i true) i ≡ true
marked_same marks i below = get_or-set_same marks i true false below

-- and whatever was marked before
pub marked_kept : (marks : List Bool) (i p : ℕ) → i < length marks → is_marked marks p ≡ true → is_marked (slice_set marks i true) p ≡ true
marked_kept marks i p below h =
    elim (cases_eq p i) [ inl e ↦ ap (λ k. is_marked (slice_set marks i true) k) e ∙ marked_same marks i below | inr ne ↦ get_or-set_other marks i p true false ne ∙ h ]

-- nothing else is marked
pub marked_others : (marks : List Bool) (i p : ℕ) → p ≢ i → is_marked (slice_set marks i true) p ≡ is_marked marks p
marked_others marks i p ne = get_or-set_other marks i p true false ne

-- one fewer is without a mark
pub one_fewer : (marks : List Bool) (i : ℕ) → i < length marks → is_marked marks i ≡ false → count_by not (slice_set marks i true) + 1 ≡ count_by not marks
one_fewer marks i below h =
    let e : count_by not (slice_set marks i true) + cond {A = ℕ} (not (is_marked marks i)) 1 0 ≡ count_by not marks + 0 = sum_by-set (λ b. cond (not b) 1 0) marks i true false below in
    let was : cond {A = ℕ} (not (is_marked marks i)) 1 0 ≡ 1 = ap (λ b. cond (not b) 1 0) h in
    omega arith
