use Rattle.std.proofs.Common.{◌≡◌, ◌∙◌, ◌-◌, ◌^◌, sym, ap, subst, arith}
use Rattle.std.proofs.lemmas.Result.{IfOk-weaker}
use Rattle.pg_pred.specs.Offer.{offer_of}
use Rattle.pg_table.specs.Tables.{Table}
use Rattle.pg_language.specs.Answers.{given}
use Rattle.pg_language.specs.declared.reading.Reading.TheVariants.{Library}
use Rattle.pg_machine_turns.specs.Ready.{AreReady}
use Rattle.pg_machine.proofs.Discarding.{skip_waits, skip_ready, discarding_begins, discarding_after, discarding_ends}
use Rattle.pg_machine.proofs.Whole.{some_node}
use Rattle.pg_machine.proofs.treeless.probe_treeless.Goals as goal

pub turns-requires-clause-ready : goal.turns-requires-clause-ready
turns-requires-clause-ready g c = (
  0,
  subst (AreReady (offer_of c.args.registry.now) c.args.grammar.now 1) (sym c.in_ok-machine.ensures.frames) (skip_ready (offer_of c.args.registry.now) c.args.grammar.now 1 c.in_ok-own.own),
  omega arith,
)

pub returns : goal.returns
returns g c =
    let text = c.args.text.now in
    let table = c.args.table.now in
    let m = c.in_ok-machine.machine in
    let frames = c.in_ok-machine.ensures.frames ∙ ap skip_waits (sym c.in_ok-machine.ensures.table) in
    let own = c.in_ok-machine.ensures.table ∙ c.in_ok-own.ensures in
    let progress = c.in_ok-progress.progress in
    IfOk-weaker c.ended-outcome.result _ _
    (λ e k o n answers few.
    let begins = discarding_begins (given Library c.args.grammar.now text) table o n c.start_of.result m.frames m.lists.forest m.lists.trail.items m.lists.messages m.table c.start_of.ensures frames
    c.in_ok-machine.ensures.forest c.in_ok-machine.ensures.trail c.in_ok-machine.ensures.messages own answers in
    let after = discarding_after (given Library c.args.grammar.now text) table o n progress.steps _ _ begins c.in_ok-progress.ensures.after in
    discarding_ends (given Library c.args.grammar.now text) table o n progress.steps c.saturating_sub-steps.result _ e (some_node answers.body) after few c.in_ok-progress.ensures.last c.saturating_sub-steps.ensures k)
    c.ended-outcome.ensures
