use Rattle.std.proofs.Common.{◌≡◌, length, drop, arith}
use Rattle.std.proofs.lemmas.Grind.{common_steps}
use Rattle.std.proofs.lemmas.List.{take_at}
use Rattle.pg_sets_nullable.proofs.NullableMarks.{marked}
use Rattle.pg_sets_nullable.proofs.nullable.nullable_nodes.Goals as goal

pub returns : goal.returns
returns c = λ p.
    let new = c.mark_round.new.marks in
    let long : length new ≡ c.loop.marks.len = omega arith in
    rw (take_at new (drop (length new) c.loop.marks.items) c.loop.marks.len long)
    (λ h. c.mark_round.ensures.nullable p h, λ h. marked new c.loop-test.ensures.closed h)

pub loop-preserved : goal.loop-preserved
loop-preserved c = grind (arith, common_steps)
