use Rattle.std.proofs.Common.{◌≡◌, ◌-◌, ◌^◌, ap, subst, sym, ◌∙◌}
use Rattle.std.proofs.lemmas.Result.{IfOk-weaker}
use Rattle.pg_pred.specs.Offer.{offer_of}
use Rattle.pg_language.specs.Answers.{Given}
use Rattle.pg_machine_lists.specs.ViewLevels.{given_of}
use Rattle.pg_machine_turns.specs.Tape.{tape_turn, tape_with}
use Rattle.pg_machine_turns.specs.Ready.{IsTapeReady}
use Rattle.pg_machine_turns.specs.View.{tape_of}
use Rattle.pg_machine_turns.proofs.machine.Machine.step.Goals as goal

pub hand_on-requires : goal.hand_on-requires
hand_on-requires g c = subst (λ s. IsTapeReady (offer_of c.args.context.registry.now) c.args.context.given.grammar.now (2 ^ 64 - 1) (tape_of s c.args.self.now)) c.in-With.is c.requires.ready

pub returns-in-With : goal.returns-in-With
returns-in-With g c =
    let m = c.args.self.now in
    let G : Given = given_of c.args.context.given in
    let handed : tape_with c.in-With.reply m.frames m.lists.forest m.lists.trail.items m.lists.messages m.table ≡ tape_of c.args.mode m = ap (λ s. tape_of s m) (sym c.in-With.is) in
    let turned : tape_turn G (tape_with c.in-With.reply m.frames m.lists.forest m.lists.trail.items m.lists.messages m.table) ≡ tape_turn G (tape_of c.args.mode m) = ap (tape_turn G) handed in
    IfOk-weaker c.hand_on.result
    (λ mode. tape_of mode c.hand_on.new.self ≡ tape_turn G (tape_with c.in-With.reply m.frames m.lists.forest m.lists.trail.items m.lists.messages m.table))
    (λ mode. tape_of mode c.hand_on.new.self ≡ tape_turn G (tape_of c.args.mode m))
    (λ mode h. h ∙ turned) c.hand_on.ensures
