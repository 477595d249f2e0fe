-- What a meter remembers of the calls of a reader or a writer.
use Rattle.std.specs.Prelude.{◌+◌, ◌-◌, ◌^◌, min, ℕ, zero, suc, Bool, true, false, List, [], ◌∷◌, Ok, Err, Result}

-- what it wraps, whether a call has failed, how many calls were made, and how many bytes they moved
pub record Metered (T : Type 0) : Type 0 where
  pub inner : T
  pub failed : Bool
  pub calls : ℕ
  pub bytes : ℕ

-- the sum of two counts, or 2^64 - 1 if that is less (`u64::saturating_add`)
abbrev pub saturating_sum : ℕ → ℕ → ℕ
saturating_sum count more = count + min more (2 ^ 64 - 1 - count)

-- how many bytes a call of `read` or `write` moved; none if it answered an error
abbrev pub bytes_moved : {E : Type 0} → Result ℕ E → ℕ
bytes_moved (Ok n) = n
bytes_moved (Err e) = 0

-- whether a read failed: it answered an error
abbrev pub read_fails : {E : Type 0} → Result ℕ E → Bool
read_fails (Ok n) = false
read_fails (Err e) = true

-- whether a write failed: it answered an error, or took no byte of a text that has some
abbrev pub write_fails : {E : Type 0} → Result ℕ E → List ℕ → Bool
write_fails (Err e) bytes = true
write_fails (Ok n) [] = false
write_fails (Ok zero) (b ∷ bs) = true
write_fails (Ok (suc n)) (b ∷ bs) = false
