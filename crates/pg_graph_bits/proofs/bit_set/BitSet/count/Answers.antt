use Rattle.std.proofs.Common.{◌*◌, length, count_by, sym, ap, ◌∙◌, arith}
use Rattle.pg_graph_bits.specs.Words.{bits_below}
use Rattle.pg_graph_bits.proofs.Counting.{bits_all, bits_few, marks_counted}
use Rattle.pg_graph_bits.proofs.bit_set.BitSet.count.Goals as goal

pub count_bits-requires : goal.count_bits-requires
count_bits-requires c =
    let words = c.self.inside.words.items in
    let limit = c.self.inside.limit in
    let small = c.self.invariant.small in
    let all = bits_all words limit c.self.invariant in
    let few = bits_few words limit in
    let same = ap (λ ws. bits_below ws (64 * length ws)) c.deref.ensures.value in
    omega arith

pub returns : goal.returns
returns c =
    let words = c.self.inside.words.items in
    let limit = c.self.inside.limit in
    c.count_bits.ensures
    ∙ (ap (λ ws. bits_below ws (64 * length ws)) c.deref.ensures.value
    ∙ (bits_all words limit c.self.invariant ∙ (sym (marks_counted words limit) ∙ ap (count_by (λ mark. mark)) c.self.view_is)))
