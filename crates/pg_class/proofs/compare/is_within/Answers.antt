use Rattle.std.proofs.Common.{arith, tests}
use Rattle.std.proofs.lemmas.Bool.{false≢true}
use Rattle.std.proofs.lemmas.List.{drop_more, drop_all}
use Rattle.pg_class.proofs.Disjoint.{IsClass-rest}
use Rattle.pg_class.proofs.Within.{leave_low, leave_covered, begins_below, not_within_nothing, nothing_within}
use Rattle.pg_class.proofs.compare.is_within.Goals as goal
use Rattle.pg_class.proofs.compare.is_within.Goals.{then-loop-i-test+else-j-other, else-loop-i-test}

pub loop-i-preserved-then-next-range : goal.loop-i-preserved-then-next-range
loop-i-preserved-then-next-range c =
    let now = c.loop-i.invariant in
    let range = drop_more c.args.class.now c.loop-i.i (0, 0) c.loop-i-test.true in
    let next = drop_more c.args.other.now c.loop-i.j (0, 0) c.if-j-other.true in
    let step = leave_low _ _ _ _ _ _ range next now.class now.other c.if-next-range.true in
    record {
      place = now.place;
      class = now.class;
      other = IsClass-rest _ _ _ next now.other;
      left = (λ h. now.left.0 (step.0 h), λ h. step.1 (now.left.1 h));
    }

pub loop-i-preserved : goal.loop-i-preserved
loop-i-preserved c =
    let now = c.loop-i.invariant in
    let range = drop_more c.args.class.now c.loop-i.i (0, 0) c.loop-i-test.true in
    let next = drop_more c.args.other.now c.loop-i.j (0, 0) c.if-j-other.true in
    let step = leave_covered _ _ _ _ _ _ range next c.if-next-range-2.true c.if-next-range.false in
    record {
      place = omega arith;
      class = IsClass-rest _ _ _ range now.class;
      other = now.other;
      left = (λ h. now.left.0 (step.0 h), λ h. step.1 (now.left.1 h));
    }

pub returns-else-next-range-2 : goal.returns-else-next-range-2
returns-else-next-range-2 c =
    let now = c.loop-i.invariant in
    let range = drop_more c.args.class.now c.loop-i.i (0, 0) c.loop-i-test.true in
    let next = drop_more c.args.other.now c.loop-i.j (0, 0) c.if-j-other.true in (
      λ e. absurd (false≢true e),
      λ h. absurd (begins_below _ _ _ _ _ _ range next now.class now.other c.if-next-range-2.false (now.left.1 h)),
    )

pub returns : goal.returns
returns c =
    let now = c.loop-i.invariant in
    elim c.loop-i-test.branch [
      | then-loop-i-test+else-j-other w ↦
          let range = drop_more c.args.class.now c.loop-i.i (0, 0) w.loop-i-test.true in
          let next = drop_all c.loop-i.j c.args.other.now w.if-j-other.false in (
            λ e. absurd (grind (arith, tests)),
            λ h. absurd (not_within_nothing _ _ _ _ range next now.class (now.left.1 h)),
          )
      | else-loop-i-test w ↦ (
        λ _. now.left.0 (nothing_within _ _ (drop_all c.loop-i.i c.args.class.now w.loop-i-test.false)),
        λ _. grind (arith, tests),
      )
    ]
