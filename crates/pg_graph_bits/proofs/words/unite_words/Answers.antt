use Rattle.std.proofs.Common.{rules, ◌+◌, ◌<◌, get_or, bit_or, slice_set, subst, sym, arith}
use Rattle.std.proofs.lemmas.Nat.{or_lt}
use Rattle.pg_graph_bits.proofs.Uniting.{HasUnited, changed, stays, grown_is}
use Rattle.pg_graph_bits.proofs.words.unite_words.Goals as goal
use Rattle.pg_graph_bits.proofs.words.unite_words.Goals.{then-word-words, else-word-words}

pub loop-k-preserved : goal.loop-k-preserved
loop-k-preserved c =
    let words = c.args.words.now in
    let others = c.args.others.now in
    let new = c.loop-k.words in
    let k = c.loop-k.k in
    let at = HasUnited words others (slice_set new k (bit_or (get_or new k 0) (get_or others k 0))) in
    let small : get_or new k 0 < 18446744073709551616 = search rules in
    let other : get_or others k 0 < 18446744073709551616 = search rules in
    let fits = or_lt 64 (get_or new k 0) (get_or others k 0) small other in
    elim c.if-word-words.branch [
      | then-word-words w ↦
          subst (λ b. at b (k + 1)) (sym w.grown-is)
          (changed words others new k (omega arith) c.loop-k.grown c.loop-k.invariant small fits (λ e. w.if-word-words.true e))
      | else-word-words w ↦
          subst (λ b. at b (k + 1)) (sym w.grown-is)
          (stays words others new k (omega arith) c.loop-k.grown c.loop-k.invariant w.if-word-words.false)
    ]

pub returns-clause-grown : goal.returns-clause-grown
returns-clause-grown c = (c.loop-k.invariant.adds, grown_is c.args.words.now c.args.others.now c.loop-k.words c.loop-k.grown c.loop-k.k c.loop-k.invariant (omega arith) (omega arith))
