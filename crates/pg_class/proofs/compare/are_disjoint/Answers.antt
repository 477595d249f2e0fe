use Rattle.std.proofs.lemmas.List.{drop_more}
use Rattle.pg_class.proofs.Disjoint.{IsClass-rest, leave_first, leave_other}
use Rattle.pg_class.proofs.compare.are_disjoint.Goals as goal

pub loop-i-preserved-then-range-next : goal.loop-i-preserved-then-range-next
loop-i-preserved-then-range-next c =
    let now = c.loop-i.invariant in
    let range = drop_more c.args.class.now c.loop-i.i (0, 0) c.loop-i-test.true in
    let next = drop_more c.args.other.now c.loop-i.j (0, 0) c.if-j-other.true in
    let step = leave_first _ _ _ _ _ _ range next now.other c.if-range-next.true in
    record {
      class = IsClass-rest _ _ _ range now.class;
      other = now.other;
      left = (λ h. now.left.0 (step.0 h), λ h. step.1 (now.left.1 h));
    }

pub loop-i-preserved : goal.loop-i-preserved
loop-i-preserved c =
    let now = c.loop-i.invariant in
    let range = drop_more c.args.class.now c.loop-i.i (0, 0) c.loop-i-test.true in
    let next = drop_more c.args.other.now c.loop-i.j (0, 0) c.if-j-other.true in
    let step = leave_other _ _ _ _ _ _ range next now.class c.if-next-range.true in
    record {
      class = now.class;
      other = IsClass-rest _ _ _ next now.other;
      left = (λ h. now.left.0 (step.0 h), λ h. step.1 (now.left.1 h));
    }
