use Rattle.std.proofs.Common.{ap, ◌∙◌, arith}
use Rattle.pg_graph_bits.specs.Words.{marks_of}
use Rattle.pg_graph_bits.proofs.Bits.{new_marks}
use Rattle.pg_graph_bits.proofs.bit_set.BitSet.new.Goals as goal

pub returns : goal.returns
returns c = ap (λ words. marks_of words c.args.limit) (c.in_ok-words.ensures.items_if_clones_equal (λ y e. e)) ∙ new_marks c.args.limit (omega arith)
