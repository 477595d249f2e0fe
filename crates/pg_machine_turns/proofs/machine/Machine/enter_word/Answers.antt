use Rattle.std.proofs.Common.{◌≡◌, sym, ap, ◌∙◌}
use Rattle.std.specs.Prelude.{Some, None, slice_get, option_copied}
use Rattle.std.proofs.lemmas.Result.{IfOk-weaker}
use Rattle.pg_language.specs.Leaves.{some_word_outcome}
use Rattle.pg_machine_turns.specs.Spots.{spot_at}
use Rattle.pg_machine_turns.specs.Tape.{tape_told}
use Rattle.pg_grammar_value.proofs.Sites.{class_at_head, class_at_rest}
use Rattle.pg_machine_turns.proofs.machine.Machine.enter_word.Goals as goal

pub word-requires-clause-head : goal.word-requires-clause-head
word-requires-clause-head c =
    let there : slice_get c.args.grammar.now.words c.args.word ≡ Some c.in-Some.item.now =
    ap (λ ws. slice_get ws c.args.word) (sym c.word_items.ensures.all) ∙ ap (slice_get c.word_items.result.now) (sym c.index.ensures) ∙ sym c.item_at.ensures ∙ ap option_copied c.in-Some.is in
    class_at_head c.args.grammar.now c.args.word c.in-Some.item.now there

pub word-requires-clause-rest : goal.word-requires-clause-rest
word-requires-clause-rest c =
    let there : slice_get c.args.grammar.now.words c.args.word ≡ Some c.in-Some.item.now =
    ap (λ ws. slice_get ws c.args.word) (sym c.word_items.ensures.all) ∙ ap (slice_get c.word_items.result.now) (sym c.index.ensures) ∙ sym c.item_at.ensures ∙ ap option_copied c.in-Some.is in
    class_at_rest c.args.grammar.now c.args.word c.in-Some.item.now there

pub returns-in-Some : goal.returns-in-Some
returns-in-Some c =
    let m = c.args.self.now in
    let there : slice_get c.args.grammar.now.words c.args.word ≡ Some c.in-Some.item.now =
    ap (λ ws. slice_get ws c.args.word) (sym c.word_items.ensures.all) ∙ ap (slice_get c.word_items.result.now) (sym c.index.ensures) ∙ sym c.item_at.ensures ∙ ap option_copied c.in-Some.is in
    IfOk-weaker c.word.result _ _
    (λ mode h. h ∙ ap (λ o. tape_told (some_word_outcome c.args.grammar.now c.args.text.now (spot_at m.table c.args.place) o) m.frames m.lists.forest m.lists.trail.items m.lists.messages m.table) (sym there)) c.word.ensures

pub returns-in-None : goal.returns-in-None
returns-in-None c =
    let m = c.args.self.now in
    let none : slice_get c.args.grammar.now.words c.args.word ≡ None =
    ap (λ ws. slice_get ws c.args.word) (sym c.word_items.ensures.all) ∙ ap (slice_get c.word_items.result.now) (sym c.index.ensures) ∙ sym c.item_at.ensures ∙ ap option_copied c.in-None.is in
    ap (λ o. tape_told (some_word_outcome c.args.grammar.now c.args.text.now (spot_at m.table c.args.place) o) m.frames m.lists.forest m.lists.trail.items m.lists.messages m.table) (sym none)
