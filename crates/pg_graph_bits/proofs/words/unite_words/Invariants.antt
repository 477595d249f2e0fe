use Rattle.pg_graph_bits.proofs.Uniting.{HasUnited}
use Rattle.pg_graph_bits.proofs.words.unite_words.Given as goal

abbrev pub invariant-loop-k : goal.invariant-loop-k
invariant-loop-k l = HasUnited l.fn.words l.others l.words l.grown l.k
