use Rattle.std.proofs.Common.{◌≡◌, ◌<◌, ◌*◌, ℕ, false}
use Rattle.pg_graph_bits.specs.Words.{both_have_bit}
use Rattle.pg_graph_bits.proofs.words.first_in_both.Given as goal

abbrev pub invariant-loop-k : goal.invariant-loop-k
invariant-loop-k l = (n : ℕ) → n < l.k * 64 → both_have_bit l.words l.others n ≡ false
