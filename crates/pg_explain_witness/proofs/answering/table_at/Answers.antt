use Rattle.std.proofs.Common.{◌∙◌}
use Rattle.std.proofs.lemmas.Result.{IfOk-weaker}
use Rattle.pg_language.specs.Answers.{given}
use Rattle.pg_language.specs.declared.reading.Reading.TheVariants.{Library}
use Rattle.pg_explain_witness.proofs.NodeRuns.{IsFresh, entered_if}
use Rattle.pg_explain_witness.proofs.answering.table_at.Goals as goal

pub returns : goal.returns
returns g c =
    let case = c.args.case.now in
    let m = c.new-machine.result in
    let made = c.new-machine.ensures in
    let came = c.in_ok-came.came in
    let fresh : IsFresh case.table.now m.frames m.lists.forest m.lists.trail.items m.lists.messages m.table = (made.frames, made.forest, made.trail, made.messages, made.table ∙ c.in_ok-own.ensures) in
    IfOk-weaker c.table_if_at-found.result _ _
    (λ o h. entered_if (given Library case.grammar.now case.text.now) case.table.now c.args.node c.args.place came.steps c.start_of-start.result m.frames m.lists.forest m.lists.trail.items m.lists.messages m.table
    c.runs.new.machine came.mode o c.start_of-start.ensures fresh c.in_ok-came.ensures h) c.table_if_at-found.ensures
