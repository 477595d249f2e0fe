use Rattle.std.proofs.Common.{rules, ◌≡◌, ◌*◌, ◌/◌, get_or, ap, ◌∙◌, inl, inr, arith}
use Rattle.std.specs.Prelude.{bit_and}
use Rattle.std.proofs.lemmas.Bool.{cases_lt}
use Rattle.pg_graph_bits.specs.Words.{both_have_bit}
use Rattle.pg_graph_bits.proofs.Meeting.{first_at, both_tell, zero_both}
use Rattle.pg_graph_bits.proofs.words.first_in_both.Goals as goal

pub returns-then-both-ne0 : goal.returns-then-both-ne0
returns-then-both-ne0 c =
    let words = c.args.words.now in
    let others = c.args.others.now in
    let k = c.loop-k.k in
    first_at (both_have_bit words others) (bit_and (get_or words k 0) (get_or others k 0)) k 0 (omega arith) (search rules) (omega arith)
    (λ i few. both_tell words others k i few) (λ n low high. c.loop-k.invariant n high)

pub loop-k-preserved : goal.loop-k-preserved
loop-k-preserved c = λ n few.
    elim (cases_lt n (c.loop-k.k * 64)) [
      | inl before ↦ c.loop-k.invariant n before
      | inr at ↦
          let word : n / 64 ≡ c.loop-k.k = omega arith in
          zero_both c.args.words.now c.args.others.now n (ap (λ j. bit_and (get_or c.args.words.now j 0) (get_or c.args.others.now j 0)) word ∙ c.if-both-ne0.false)
    ]
