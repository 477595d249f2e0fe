use Rattle.std.proofs.Common.{◌∙◌, arith}
use Rattle.std.proofs.lemmas.Result.{IfOk-weaker}
use Rattle.pg_pred.specs.Offer.{offer_of}
use Rattle.pg_language.specs.Answers.{given}
use Rattle.pg_machine.proofs.Running.{running_begins, running_after, running_ends}
use Rattle.pg_machine.proofs.watched.probe_watched.Goals as goal

pub watched_turns-requires-clause-ready : goal.watched_turns-requires-clause-ready
watched_turns-requires-clause-ready g c =
    let m = c.new-machine.result in
    let run = c.args.run.now in
    let begins = running_begins (offer_of run.registry.now) (given run.reading run.grammar.now run.text.now) c.args.table.now c.args.max_steps c.start_of.result
    m.frames m.lists.forest m.lists.trail.items m.lists.messages m.table c.start_of.ensures c.new-machine.ensures.frames c.new-machine.ensures.forest c.new-machine.ensures.trail c.new-machine.ensures.messages
    (c.new-machine.ensures.table ∙ c.in_ok-own.ensures) in
    (0, begins.ready, omega arith)

pub returns : goal.returns
returns g c =
    let m = c.new-machine.result in
    let run = c.args.run.now in
    let begins = running_begins (offer_of run.registry.now) (given run.reading run.grammar.now run.text.now) c.args.table.now c.args.max_steps c.start_of.result
    m.frames m.lists.forest m.lists.trail.items m.lists.messages m.table c.start_of.ensures c.new-machine.ensures.frames c.new-machine.ensures.forest c.new-machine.ensures.trail c.new-machine.ensures.messages
    (c.new-machine.ensures.table ∙ c.in_ok-own.ensures) in
    let progress = c.in_ok-progress.progress in
    let after = running_after (offer_of run.registry.now) (given run.reading run.grammar.now run.text.now) c.args.table.now c.args.max_steps progress.steps _ _
    c.requires begins c.in_ok-progress.ensures.after c.in_ok-progress.ensures.within in
    IfOk-weaker c.ended-outcome.result _ _
    (λ o e. running_ends (offer_of run.registry.now) (given run.reading run.grammar.now run.text.now) c.args.table.now c.args.max_steps progress.steps _ o after e c.in_ok-progress.ensures.last) c.ended-outcome.ensures
