use Rattle.std.proofs.Common.{◌≡◌, ◌+◌, ◌∷◌, sym, ap, ◌∙◌, suc, take, drop}
use Rattle.std.specs.Prelude.{Some, slice_get}
use Rattle.std.specs.List.{prefix_len}
use Rattle.std.proofs.lemmas.Result.{IfOk-weaker}
use Rattle.pg_grammar_form.specs.ClassItems.{has_character}
use Rattle.pg_language.specs.Runs.{run_at}
use Rattle.pg_machine_turns.specs.View.{tape_of}
use Rattle.pg_machine_turns.proofs.Characters.{word_taken}
use Rattle.pg_machine_turns.proofs.LeavesRead.{word_told, word_fits}
use Rattle.pg_machine_turns.proofs.machine.Machine.word.Goals as goal

pub slice_bounds-characters-end : goal.slice_bounds-characters-end
slice_bounds-characters-end c =
    let all : c.after.result.now ≡ drop c.args.place c.args.text.now = c.after.ensures ∙ ap (drop c.args.place) c.characters-in-Some.ensures.same in
    let rest : c.after-rest.result.now ≡ drop (c.args.place + 1) c.args.text.now = c.after-rest.ensures ∙ ap (drop (c.args.place + 1)) c.characters.ensures.same in
    word_fits c.args.text.now c.after.result.now c.after-rest.result.now c.args.place c.run_len-count.result c.next_in.result c.in-Some.c (sym c.next_in.ensures.value) c.in-Some.is all rest c.run_len-count.ensures.within

pub returns-else-not-begins_word : goal.returns-else-not-begins_word
returns-else-not-begins_word c =
    let m = c.args.self.now in
    let p = has_character c.args.grammar.now.classes c.args.item.now.rest in
    let all : c.after.result.now ≡ drop c.args.place c.args.text.now = c.after.ensures ∙ ap (drop c.args.place) c.characters-in-Some.ensures.same in
    let rest : c.after-rest.result.now ≡ drop (c.args.place + 1) c.args.text.now = c.after-rest.ensures ∙ ap (drop (c.args.place + 1)) c.characters.ensures.same in
    let there : slice_get c.args.text.now c.args.place ≡ Some c.in-Some.c = sym c.next_in.ensures.value ∙ c.in-Some.is in
    let count : c.run_len-count.result ≡ prefix_len p (drop (c.args.place + 1) c.args.text.now) = c.run_len-count.ensures.value ∙ ap (prefix_len p) rest in
    let whole : take (c.run_len-count.result + 1) c.after.result.now ≡ c.in-Some.c ∷ run_at c.args.grammar.now c.args.text.now c.args.item.now.rest (suc c.args.place) =
    ap (take (c.run_len-count.result + 1)) all ∙ word_taken p c.args.text.now c.args.place c.in-Some.c c.run_len-count.result there count in
    IfOk-weaker c.read_word.result _ _
    (λ mode h. word_told m.frames m.lists.forest m.lists.trail.items m.lists.messages m.table (tape_of mode c.read_word.new.self) c.args.grammar.now c.args.text.now c.args.item.now c.args.place c.in-Some.c
    (take (c.run_len-count.result + 1) c.after.result.now) there (sym c.begins_word.ensures ∙ c.if-not-begins_word.false) whole h) c.read_word.ensures
