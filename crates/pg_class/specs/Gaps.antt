-- The gaps between the ranges of a class.
use Rattle.std.specs.Prelude.{ℕ, ◌+◌, ◌-◌, ◌==◌, nat_lt, if◌then◌else◌, List, [], ◌∷◌}
use Rattle.pg_class.specs.Ranges.{Range}

-- the next character, skipping the surrogates; 0x110000 after the last
abbrev pub after : ℕ → ℕ
after c = if c == 0xD7FF then 0xE000 else c + 1

-- the previous character, skipping the surrogates; only for one that isn't the first
abbrev pub before : ℕ → ℕ
before c = if c == 0xE000 then 0xD7FF else c - 1

-- the ranges that ascending ranges leave out, from the character `low` on
abbrev pub gaps : ℕ → List Range → List Range
gaps low [] = if nat_lt low 0x110000 then (low, 0x10FFFF) ∷ [] else []
gaps low (r ∷ rs) = if nat_lt low r.0 then (low, before r.0) ∷ gaps (after r.1) rs else gaps (after r.1) rs
