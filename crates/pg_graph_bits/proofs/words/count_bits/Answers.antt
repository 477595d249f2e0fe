use Rattle.std.proofs.Common.{rules, ◌+◌, ◌*◌, ◌<◌, ◌^◌, get_or, length, sym, ap, ◌∙◌, arith}
use Rattle.std.specs.Int.RustNames.{count_ones}
use Rattle.pg_graph_bits.proofs.Counting.{word_more, bits_more}
use Rattle.pg_graph_bits.proofs.words.count_bits.Goals as goal

pub overflow_add-count : goal.overflow_add-count
overflow_add-count c =
    let words = c.args.words.now in
    let k = c.loop-k.k in
    let fits : get_or words k 0 < 2 ^ 64 = search rules in
    let next = word_more words k fits in
    let all = bits_more words (64 * (k + 1)) (64 * length words) (omega arith) in
    let at = c.loop-k.invariant in
    let most = c.requires in
    omega arith

pub loop-k-preserved : goal.loop-k-preserved
loop-k-preserved c =
    let words = c.args.words.now in
    let k = c.loop-k.k in
    let fits : get_or words k 0 < 2 ^ 64 = search rules in
    ap (λ n. n + count_ones (get_or words k 0)) c.loop-k.invariant ∙ sym (word_more words k fits)
