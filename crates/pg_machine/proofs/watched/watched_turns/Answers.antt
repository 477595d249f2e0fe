use Rattle.std.proofs.Common.{◌≡◌, sym, ◌∙◌, inl, inr, false}
use Rattle.pg_pred.specs.Offer.{offer_of}
use Rattle.pg_language.specs.Answers.{given}
use Rattle.pg_machine_turns.specs.Tape.{tape_is_last}
use Rattle.pg_machine_turns.specs.View.{tape_of}
use Rattle.pg_machine_turns.proofs.TapeRuns.{going_begins, going_turn, going_ready}
use Rattle.pg_machine.proofs.watched.watched_turns.Goals as goal
use Rattle.pg_machine.proofs.watched.watched_turns.Goals.{then-loop-steps-test+else-not-is_over, else-loop-steps-test}

pub loop-steps-init : goal.loop-steps-init
loop-steps-init g c =
    let run = c.args.run.now in
    going_begins (offer_of run.registry.now) (given run.reading run.grammar.now run.text.now) (tape_of c.args.begun c.args.machine.now) c.args.most c.requires.ready

pub one_turn-requires-clause-ready : goal.one_turn-requires-clause-ready
one_turn-requires-clause-ready g c =
    let run = c.args.run.now in
    going_ready (offer_of run.registry.now) (given run.reading run.grammar.now run.text.now) (tape_of c.args.begun c.args.machine.now) c.args.most c.loop-steps.steps
    (tape_of c.loop-steps.mode c.loop-steps.machine) c.loop-steps.invariant c.loop-steps-test.true

pub loop-steps-preserved : goal.loop-steps-preserved
loop-steps-preserved g c =
    let run = c.args.run.now in
    let going : tape_is_last (tape_of c.loop-steps.mode c.loop-steps.machine) ≡ false = sym c.is_over.ensures ∙ c.if-not-is_over.true in
    going_turn (offer_of run.registry.now) (given run.reading run.grammar.now run.text.now) (tape_of c.args.begun c.args.machine.now) c.args.most c.loop-steps.steps
    (tape_of c.loop-steps.mode c.loop-steps.machine) _ c.requires.fits c.loop-steps.invariant c.loop-steps-test.true going c.in_ok-mode.ensures

pub returns-clause-after : goal.returns-clause-after
returns-clause-after g c = c.loop-steps.invariant.after

pub returns-clause-within : goal.returns-clause-within
returns-clause-within g c = c.loop-steps.invariant.within

pub returns-clause-last : goal.returns-clause-last
returns-clause-last g c = elim c.loop-steps-test.branch [ then-loop-steps-test+else-not-is_over w ↦ inr (sym w.is_over.ensures ∙ w.if-not-is_over.false) | else-loop-steps-test w ↦ inl w.loop-steps-test.false ]
