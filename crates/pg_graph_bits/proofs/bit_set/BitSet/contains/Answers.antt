use Rattle.std.proofs.Common.{sym, ap, ◌∙◌}
use Rattle.pg_graph_bits.specs.Numbers.{contains}
use Rattle.pg_graph_bits.specs.Words.{has_bit}
use Rattle.pg_graph_bits.proofs.Bits.{reads}
use Rattle.pg_graph_bits.proofs.bit_set.BitSet.contains.Goals as goal

pub returns : goal.returns
returns c =
    c.has_bit.ensures
    ∙ (ap (λ words. has_bit words c.args.number) c.deref.ensures.value
    ∙ (sym (reads c.self.inside.words.items c.self.inside.limit c.self.invariant c.args.number) ∙ ap (λ set. contains set c.args.number) c.self.view_is))
