use Rattle.std.proofs.Common.{◌≡◌, ◌*◌}
use Rattle.pg_graph_bits.specs.Words.{bits_below}
use Rattle.pg_graph_bits.proofs.words.count_bits.Given as goal

abbrev pub invariant-loop-k : goal.invariant-loop-k
invariant-loop-k l = l.count ≡ bits_below l.words (64 * l.k)
