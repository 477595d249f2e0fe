use Rattle.std.proofs.Common.{◌≡◌, subst}
use Rattle.std.specs.Prelude.{Option, IfOk, IfSome}
use Rattle.pg_machine_plan.specs.Plans.{Plan, program}
use Rattle.pg_machine_quick.specs.Ran.{StopsAt}
use Rattle.pg_machine_quick.specs.Running.{shown}
use Rattle.pg_machine_quick.specs.Tape.{first_tape}
use Rattle.pg_machine_quick.specs.declared.running.Running.{Running}
use Rattle.pg_machine_quick.proofs.Ran.{answers_so}
use Rattle.pg_table.specs.Tables.{Table}
use Rattle.pg_machine_quick.proofs.run.attempt.Goals as goal

pub returns : goal.returns
returns c =
    let g = c.args.grammar.now in
    let text = c.args.text.now in
    let so = subst (λ (p : Plan). IfOk c.stopped.result (λ (ran : Option Running). IfSome ran (λ (s : Running). (table : Table) →
    table.operators ≡ c.in_ok-operators.operators → StopsAt (program g p text) table (first_tape (program g p text)) (shown s)))) c.in_ok-marked.ensures c.stopped.ensures in
    answers_so c.tapes_answer.ensures (program g c.args.plan.now text) c.args.table.now c.in_ok-operators.operators c.in_ok-operators.ensures (c.requires text) c.stopped.result so
