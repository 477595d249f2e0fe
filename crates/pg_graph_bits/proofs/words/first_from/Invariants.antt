use Rattle.std.proofs.Common.{◌≡◌, ◌<◌, ◌≤◌, ◌*◌, ℕ, false}
use Rattle.pg_graph_bits.specs.Words.{has_bit}
use Rattle.pg_graph_bits.proofs.words.first_from.Given as goal

abbrev pub invariant-loop-k : goal.invariant-loop-k
invariant-loop-k l = (n : ℕ) → l.from ≤ n → n < l.k * 64 → has_bit l.words n ≡ false
