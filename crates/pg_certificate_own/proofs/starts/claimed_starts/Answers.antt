use Rattle.std.proofs.Common.{◌∙◌, sym}
use Rattle.pg_certificate_own.proofs.OneByOne.{after_taken, after_passed}
use Rattle.pg_certificate_own.proofs.starts.claimed_starts.Goals as goal
use Rattle.pg_certificate_own.proofs.starts.claimed_starts.Goals.{then-contains+in_ok-claimed_start+in_ok-push, else-contains}

pub loop-number-preserved : goal.loop-number-preserved
loop-number-preserved c =
    let g = c.args.grammar.now in
    let starts = c.args.starts.now in
    let set = c.args.set.now in
    let k = c.loop-number.number in
    elim c.if-contains.branch [
      | then-contains+in_ok-claimed_start+in_ok-push w ↦
          after_taken g starts set k w.index-starts-number.result w.in_ok-claimed_start.field-0 c.loop-number.claimed c.if-contains.claimed c.loop-number-test.true
          w.index-starts-number.is (sym c.contains.ensures ∙ w.if-contains.true) w.in_ok-claimed_start.ensures (w.claimed-is ∙ w.in_ok-push.ensures.ok)
          c.loop-number.invariant
      | else-contains w ↦
          after_passed g starts set k c.loop-number.claimed c.if-contains.claimed c.loop-number-test.true (sym c.contains.ensures ∙ w.if-contains.false) w.claimed-is
          c.loop-number.invariant
    ]
