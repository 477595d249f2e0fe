use Rattle.pg_language.specs.Answers.{given}
use Rattle.pg_language.specs.declared.reading.Reading.TheVariants.{Library}
use Rattle.pg_explain_witness.specs.Running.{IsSo}
use Rattle.pg_explain_witness.proofs.NodeRuns.{IsFresh, answers_as}
use Rattle.pg_explain_witness.proofs.answering.answers_so.Goals as goal

pub returns : goal.returns
returns g c =
    let case = c.args.case.now in
    let m = c.new-machine.result in
    let made = c.new-machine.ensures in
    let fresh : IsFresh c.args.under m.frames m.lists.forest m.lists.trail.items m.lists.messages m.table = (made.frames, made.forest, made.trail, made.messages, made.table) in
    λ e. answers_as (given Library case.grammar.now case.text.now) (IsSo c.args.manner) c.args.under c.args.node c.args.place c.in_ok-came.came.steps m.frames m.lists.forest m.lists.trail.items m.lists.messages m.table _
    fresh c.in_ok-came.ensures (c.lies_so-answers.ensures e)
