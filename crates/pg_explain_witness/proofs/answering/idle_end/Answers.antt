use Rattle.std.proofs.lemmas.Result.{IfOk-weaker}
use Rattle.pg_language.specs.Answers.{given}
use Rattle.pg_language.specs.declared.reading.Reading.TheVariants.{Library}
use Rattle.pg_explain_witness.proofs.NodeRuns.{IsFresh, idle_if}
use Rattle.pg_explain_witness.proofs.answering.idle_end.Goals as goal

pub returns : goal.returns
returns g c =
    let case = c.args.case.now in
    let m = c.new-machine.result in
    let made = c.new-machine.ensures in
    let fresh : IsFresh c.args.under m.frames m.lists.forest m.lists.trail.items m.lists.messages m.table = (made.frames, made.forest, made.trail, made.messages, made.table) in
    IfOk-weaker c.lies_idle-found.result _ _
    (λ o h. idle_if (given Library case.grammar.now case.text.now) c.args.under c.args.node c.args.place c.in_ok-came.came.steps m.frames m.lists.forest m.lists.trail.items m.lists.messages m.table _ o
    fresh c.in_ok-came.ensures h) c.lies_idle-found.ensures
