use Rattle.std.proofs.Common.{◌≡◌, ◌≤◌, ◌+◌, ◌-◌, ℕ, cond, sym, ap, ◌∙◌, arith, length-set}
use Rattle.pg_table.specs.Rows.{row_of}
use Rattle.pg_expand.proofs.RowNumbers.{row_next, numbered_more}
use Rattle.pg_expand.proofs.lookup.row_numbers.Goals as goal
use Rattle.pg_expand.proofs.lookup.row_numbers.Goals.{then-holds, else-holds}

pub loop-looser-preserved : goal.loop-looser-preserved
loop-looser-preserved c =
    let before = c.loop-looser.invariant in
    let next = row_next c.args.operators.now c.loop-looser.looser c.loop-looser-test.true in
    let number : c.if-holds.number ≡ row_of c.args.operators.now (10 - (c.loop-looser.looser + 1)) = elim c.if-holds.branch [
      | then-holds w ↦ (let held = ap {B = ℕ} (λ b. cond b 1 0) (sym c.holds.ensures ∙ w.if-holds.true) in omega (arith, held, next))
      | else-holds w ↦ (let free = ap {B = ℕ} (λ b. cond b 1 0) (sym c.holds.ensures ∙ w.if-holds.false) in omega (arith, free, next))
    ] in
    let few : c.if-holds.number ≤ c.loop-looser.looser + 1 = elim c.if-holds.branch [ then-holds w ↦ omega arith | else-holds w ↦ omega arith ] in
    record {
      long = omega (arith, length-set {A = ℕ});
      number = number;
      few = few;
      numbered = numbered_more c.args.operators.now c.loop-looser.looser c.from.result c.if-holds.number c.loop-looser.numbers c.loop-looser-test.true before.long c.from.ensures number before.numbered;
    }
