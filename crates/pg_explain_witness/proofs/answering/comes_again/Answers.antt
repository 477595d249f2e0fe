use Rattle.pg_language.specs.Answers.{given}
use Rattle.pg_language.specs.declared.reading.Reading.TheVariants.{Library}
use Rattle.pg_explain_witness.proofs.NodeRuns.{IsFresh, again_if}
use Rattle.pg_explain_witness.proofs.answering.comes_again.Goals as goal

pub returns : goal.returns
returns g c =
    let case = c.args.case.now in
    let m = c.new-machine.result in
    let made = c.new-machine.ensures in
    let came = c.in_ok-came.came in
    let fresh : IsFresh c.args.under m.frames m.lists.forest m.lists.trail.items m.lists.messages m.table = (made.frames, made.forest, made.trail, made.messages, made.table) in
    λ e. again_if (given Library case.grammar.now case.text.now) c.args.under c.args.node c.args.place came.steps m.frames m.lists.forest m.lists.trail.items m.lists.messages m.table c.runs.new.machine came.mode
    fresh c.in_ok-came.ensures (c.is_again-comes.ensures.some e) (c.is_again-comes.ensures.at e)
