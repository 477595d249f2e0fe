-- Which numbers a set can have.
use Rattle.std.proofs.Common.{◌≡◌, ℕ, ◌<◌, Bool, true, false, inl, inr, List, length, replicate, sym, ◌∙◌, arith}
use Rattle.std.proofs.lemmas.Bool.{cases_lt, true≢false}
use Rattle.std.proofs.lemmas.List.{get_or_past, get_or-replicate, length-replicate}
use Rattle.pg_graph_bits.specs.Numbers.{contains}

-- a number in a set is below its limit
pub contains_below : (set : List Bool) (k : ℕ) → contains set k ≡ true → k < length set
contains_below set k h = elim (cases_lt k (length set)) [ inl below ↦ below | inr past ↦ absurd (true≢false (sym h ∙ get_or_past set k false past)) ]

-- a new set has no number
pub contains_none : (n k : ℕ) → contains (replicate n false) k ≡ false
contains_none n k =
    elim (cases_lt k n) [
      | inl below ↦ get_or-replicate n k false false below
      | inr past ↦ let long = length-replicate {A = Bool} n false in get_or_past (replicate n false) k false (omega arith)
    ]
