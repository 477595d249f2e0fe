-- Sets that grow lack fewer numbers.
use Rattle.std.proofs.Common.{◌≡◌, ℕ, zero, suc, ◌+◌, ◌<◌, ◌≤◌, Bool, true, false, not, List, [], ◌∷◌, length, count_by, cond, zero-add, refl, sym, ◌∙◌, arith}
use Rattle.std.proofs.lemmas.Bool.{true≢false}
use Rattle.std.proofs.lemmas.List.Sums.{sum_by-append}
use Rattle.pg_graph_bits.specs.Numbers.{contains, set_at}

-- a set that has a number is there
pub set_below : (sets : List (List Bool)) (v k : ℕ) → contains (set_at sets v) k ≡ true → v < length sets
set_below [] v k h = absurd (true≢false (sym h))
set_below (s ∷ ss) zero k h = omega arith
set_below (s ∷ ss) (suc v) k h = let rest = set_below ss v k h in omega arith

-- what the first mark counts
first_set : (set : List Bool) → count_by not (true ∷ set) ≡ count_by not set
first_set set = sum_by-append (λ b. cond {A = ℕ} (not b) 1 0) (true ∷ []) set ∙ zero-add (count_by not set)

first_lacks : (set : List Bool) → count_by not (false ∷ set) ≡ count_by not set + 1
first_lacks set = let e = sum_by-append (λ b. cond {A = ℕ} (not b) 1 0) (false ∷ []) set in omega arith

-- a set with all numbers of another lacks no more
pub lacks_no_more : (set new : List Bool) → length new ≡ length set → ((k : ℕ) → contains set k ≡ true → contains new k ≡ true) → count_by not new ≤ count_by not set
lacks_no_more [] [] long kept = omega arith
lacks_no_more [] (b ∷ new) long kept = absurd (omega arith)
lacks_no_more (a ∷ set) [] long kept = absurd (omega arith)
lacks_no_more (true ∷ set) (true ∷ new) long kept =
    let rest = lacks_no_more set new (omega arith) (λ k h. kept (suc k) h) in
    omega (arith, first_set set, first_set new)
lacks_no_more (true ∷ set) (false ∷ new) long kept = absurd (true≢false (sym (kept zero refl)))
lacks_no_more (false ∷ set) (true ∷ new) long kept =
    let rest = lacks_no_more set new (omega arith) (λ k h. kept (suc k) h) in
    omega (arith, first_lacks set, first_set new)
lacks_no_more (false ∷ set) (false ∷ new) long kept =
    let rest = lacks_no_more set new (omega arith) (λ k h. kept (suc k) h) in
    omega (arith, first_lacks set, first_lacks new)

-- and fewer if it has one more
pub lacks_fewer : (set new : List Bool) (k : ℕ) → length new ≡ length set → ((j : ℕ) → contains set j ≡ true → contains new j ≡ true)
    → contains set k ≡ false → contains new k ≡ true → count_by not new + 1 ≤ count_by not set
lacks_fewer [] [] k long kept out in_new = absurd (true≢false (sym in_new))
lacks_fewer [] (b ∷ new) k long kept out in_new = absurd (omega arith)
lacks_fewer (a ∷ set) [] k long kept out in_new = absurd (omega arith)
lacks_fewer (true ∷ set) (b ∷ new) zero long kept out in_new = absurd (true≢false out)
lacks_fewer (false ∷ set) (false ∷ new) zero long kept out in_new = absurd (true≢false (sym in_new))
lacks_fewer (false ∷ set) (true ∷ new) zero long kept out in_new =
    let rest = lacks_no_more set new (omega arith) (λ j h. kept (suc j) h) in
    omega (arith, first_lacks set, first_set new)
lacks_fewer (true ∷ set) (true ∷ new) (suc k) long kept out in_new =
    let rest = lacks_fewer set new k (omega arith) (λ j h. kept (suc j) h) out in_new in
    omega (arith, first_set set, first_set new)
lacks_fewer (true ∷ set) (false ∷ new) (suc k) long kept out in_new = absurd (true≢false (sym (kept zero refl)))
lacks_fewer (false ∷ set) (true ∷ new) (suc k) long kept out in_new =
    let rest = lacks_fewer set new k (omega arith) (λ j h. kept (suc j) h) out in_new in
    omega (arith, first_lacks set, first_set new)
lacks_fewer (false ∷ set) (false ∷ new) (suc k) long kept out in_new =
    let rest = lacks_fewer set new k (omega arith) (λ j h. kept (suc j) h) out in_new in
    omega (arith, first_lacks set, first_lacks new)
