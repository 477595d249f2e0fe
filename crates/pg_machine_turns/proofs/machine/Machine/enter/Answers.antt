use Rattle.std.proofs.Common.{◌≡◌, sym, ap, ◌∙◌}
use Rattle.std.specs.Prelude.{Some, None, slice_get, option_copied}
use Rattle.std.proofs.lemmas.Result.{IfOk-weaker}
use Rattle.pg_machine_lists.specs.ViewLevels.{given_of}
use Rattle.pg_machine_turns.specs.Tape.{tape_enter_at}
use Rattle.pg_machine_turns.proofs.machine.Machine.enter.Goals as goal

pub enter_form-requires : goal.enter_form-requires
enter_form-requires g c =
    let there : slice_get c.args.context.given.grammar.now.nodes c.args.node ≡ Some c.in-Some.form.now =
    ap (λ ns. slice_get ns c.args.node) (sym c.nodes.ensures.all) ∙ ap (slice_get c.nodes.result.now) (sym c.index.ensures) ∙ sym c.item_at.ensures ∙ ap option_copied c.in-Some.is in
    there

pub returns-in-Some : goal.returns-in-Some
returns-in-Some g c =
    let m = c.args.self.now in
    let there : slice_get c.args.context.given.grammar.now.nodes c.args.node ≡ Some c.in-Some.form.now =
    ap (λ ns. slice_get ns c.args.node) (sym c.nodes.ensures.all) ∙ ap (slice_get c.nodes.result.now) (sym c.index.ensures) ∙ sym c.item_at.ensures ∙ ap option_copied c.in-Some.is in
    IfOk-weaker c.enter_form.result _ _
    (λ mode h. h ∙ ap (λ o. tape_enter_at (given_of c.args.context.given) o c.args.place m.frames m.lists.forest m.lists.trail.items m.lists.messages m.table) (sym there)) c.enter_form.ensures

pub returns-in-None : goal.returns-in-None
returns-in-None g c =
    let m = c.args.self.now in
    let none : slice_get c.args.context.given.grammar.now.nodes c.args.node ≡ None =
    ap (λ ns. slice_get ns c.args.node) (sym c.nodes.ensures.all) ∙ ap (slice_get c.nodes.result.now) (sym c.index.ensures) ∙ sym c.item_at.ensures ∙ ap option_copied c.in-None.is in
    ap (λ o. tape_enter_at (given_of c.args.context.given) o c.args.place m.frames m.lists.forest m.lists.trail.items m.lists.messages m.table) (sym none)
