use Rattle.std.proofs.Common.{◌≡◌, subst, slice_get}
use Rattle.pg_machine_plan.specs.Columns.{verdict_at, told}
use Rattle.pg_machine_plan.specs.Verdicts.{node_verdict}
use Rattle.pg_machine_plan.proofs.verdict_columns.tell.Goals as goal

pub returns : goal.returns
returns c = λ follows.
    told c.args.index c.node_verdict-verdict.result follows c.requires
    (subst (λ i. c.node_verdict-verdict.result ≡ node_verdict c.args.grammar.now (verdict_at c.args.column.now) c.args.next (slice_get c.args.grammar.now.nodes i)) c.new.ensures
    c.node_verdict-verdict.ensures)
