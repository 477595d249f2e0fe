-- Runs of characters that pass a test.
use Rattle.std.proofs.Common.{◌≡◌, ℕ, suc, ◌+◌, Bool, true, false, not, cond, List, [], ◌∷◌, ◌++◌, take, drop, length, refl, arith}
use Rattle.std.proofs.lemmas.Bool.{and_parts}
use Rattle.std.specs.List.{prefix_len}
use Rattle.pg_file_tokens.specs.Lexical.{passes, starts, stops}

-- a run that is stopped is as long as it is
pub run_len : (p : ℕ → Bool) (xs cs : List ℕ) → passes p xs ≡ true → stops p cs ≡ true → prefix_len p (xs ++ cs) ≡ length xs
run_len p [] [] h s = refl
run_len p [] (c ∷ cs) h s = go (p c) s
  where
    go : (b : Bool) → not b ≡ true → cond b (1 + prefix_len p cs) 0 ≡ 0
    go true h = absurd cc
    go false h = refl
run_len p (x ∷ xs) cs h s =
    let q = and_parts (p x) (passes p xs) h in
    rw (q.0, run_len p xs cs q.1 s) (omega arith)

-- the longest run passes
pub run_passes : (p : ℕ → Bool) (cs : List ℕ) → passes p (take (prefix_len p cs) cs) ≡ true
run_passes p [] = refl
run_passes p (c ∷ cs) = go (p c) refl (run_passes p cs)
  where
    go : (b : Bool) → p c ≡ b → passes p (take (prefix_len p cs) cs) ≡ true → passes p (take (cond b (1 + prefix_len p cs) 0) (c ∷ cs)) ≡ true
    go true h k = let z : 1 + prefix_len p cs ≡ suc (prefix_len p cs) = omega arith in rw (z, h, k) refl
    go false h k = refl

-- and what follows it doesn't go on with it
pub run_stops : (p : ℕ → Bool) (cs : List ℕ) → stops p (drop (prefix_len p cs) cs) ≡ true
run_stops p [] = refl
run_stops p (c ∷ cs) = go (p c) refl (run_stops p cs)
  where
    go : (b : Bool) → p c ≡ b → stops p (drop (prefix_len p cs) cs) ≡ true → stops p (drop (cond b (1 + prefix_len p cs) 0) (c ∷ cs)) ≡ true
    go true h k = let z : 1 + prefix_len p cs ≡ suc (prefix_len p cs) = omega arith in rw z k
    go false h k = rw h refl

-- it begins with the first character, where that passes
pub run_starts : (p q : ℕ → Bool) (c : ℕ) (cs : List ℕ) → p c ≡ true → q c ≡ true → starts q (take (prefix_len p (c ∷ cs)) (c ∷ cs)) ≡ true
run_starts p q c cs h k =
    let z : 1 + prefix_len p cs ≡ suc (prefix_len p cs) = omega arith in
    rw (h, z) k
