use Rattle.std.proofs.Common.{◌≡◌, ◌∙◌, ap, sym, subst, arith}
use Rattle.std.proofs.lemmas.Grind.{common_steps}
use Rattle.pg_table.specs.Rows.{precedences}
use Rattle.pg_expand.specs.Rows.{rows_of}
use Rattle.pg_expand.specs.Laws.{DeriveFittingTrees}
use Rattle.pg_expand.proofs.Levels.{rows_exact}
use Rattle.pg_expand.proofs.Steps.{row_added, row_skipped}
use Rattle.pg_expand.proofs.expansion.expand.Goals as goal
use Rattle.pg_expand.proofs.expansion.expand.Goals.{then-holds+in_ok-row_at+in_ok-push, else-holds}

pub loop-precedence-preserved : goal.loop-precedence-preserved
loop-precedence-preserved c =
    elim c.if-holds.branch [
      | then-holds+in_ok-row_at+in_ok-push w ↦ row_added c.operators-operators.result.now precedences c.loop-precedence.precedence-index c.loop-precedence.rows.items c.if-holds.rows.items w.in_ok-row_at.field-0 (omega arith)
          (sym c.holds.ensures ∙ w.if-holds.true) c.loop-precedence.invariant w.in_ok-row_at.ensures (ap (λ rows. rows.items) w.rows-is ∙ w.in_ok-push.ensures.items)
      | else-holds w ↦ rw w.rows-is (row_skipped c.operators-operators.result.now precedences c.loop-precedence.precedence-index c.loop-precedence.rows.items (omega arith)
          (sym c.holds.ensures ∙ w.if-holds.false) c.loop-precedence.invariant)
    ]

pub returns-clause-fitting : goal.returns-clause-fitting
returns-clause-fitting c =
    let all : c.new.result ≡ rows_of c.args.table.now.operators = grind (arith, common_steps) in
    subst (λ rows. DeriveFittingTrees rows c.args.table.now.operators) (sym all) (rows_exact c.args.table.now.operators c.operators-operators.ensures.table.operators)
