use Rattle.std.proofs.Common.{rules, ◌/◌, ◌<◌, ◌^◌, get_or, arith}
use Rattle.pg_graph_bits.specs.Words.{has_bit}
use Rattle.pg_graph_bits.proofs.Meeting.{first_at, one_tells, none_in_rest, first_in_rest, inside_rest}
use Rattle.pg_graph_bits.proofs.words.first_from.Goals as goal

pub overflow_add-result : goal.overflow_add-result
overflow_add-result c =
    let fits : get_or c.args.words.now (c.args.from / 64) 0 < 2 ^ 64 = search rules in
    let inside = inside_rest c.args.words.now c.args.from (omega arith) fits in
    omega arith

pub returns-then-word-ne0 : goal.returns-then-word-ne0
returns-then-word-ne0 c = first_in_rest c.args.words.now c.args.from (omega arith) (search rules)

pub loop-k-init : goal.loop-k-init
loop-k-init c = none_in_rest c.args.words.now c.args.from c.if-word-ne0.false

pub returns-then-words-k-ne0 : goal.returns-then-words-k-ne0
returns-then-words-k-ne0 c =
    first_at (has_bit c.args.words.now) (get_or c.args.words.now c.loop-k.k 0) c.loop-k.k c.args.from (omega arith) (search rules) (omega arith)
    (λ i few. one_tells c.args.words.now c.loop-k.k i few) c.loop-k.invariant
