use Rattle.std.proofs.Common.{◌≡◌, ◌+◌, suc, sym, subst, arith}
use Rattle.pg_machine_plan.specs.Layout.{AreRows, a_term, a_row}
use Rattle.pg_machine_plan.proofs.judge_expressions.after_rows.Goals as goal

pub loop-row-init : goal.loop-row-init
loop-row-init c = (a_term c.in_ok-end.ensures, omega arith)

pub loop-row-preserved : goal.loop-row-preserved
loop-row-preserved c =
    let before = c.loop-row.invariant.1 in
    let head : c.loop-row.head ≡ c.in_ok-head-2.head + 1 = omega arith in
    let row : suc c.loop-row.row ≡ c.loop-row.row + 1 = omega arith in
    let tighter = subst (λ pc. AreRows c.args.plan.now c.args.keep c.args.node c.args.term c.loop-row.row pc c.loop-row.end) head c.loop-row.invariant.0 in
    let end = c.in_ok-end-2.ensures.end in (
      subst (λ n. AreRows c.args.plan.now c.args.keep c.args.node c.args.term n c.in_ok-head-2.head c.in_ok-end-2.end) row
          (subst (AreRows c.args.plan.now c.args.keep c.args.node c.args.term (suc c.loop-row.row) c.in_ok-head-2.head) (sym end) (a_row c.in_ok-end-2.ensures.row tighter)),
      omega arith,
    )
