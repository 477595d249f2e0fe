use Rattle.std.proofs.Common.{◌≡◌, ◌==◌, sym, ap, ◌∙◌, false, length, drop, nat_eq}
use Rattle.std.specs.Prelude.{slice_get}
use Rattle.std.specs.List.{common_prefix_len}
use Rattle.std.proofs.lemmas.Result.{IfOk-weaker}
use Rattle.pg_machine_turns.specs.View.{tape_of}
use Rattle.pg_machine_turns.proofs.LeavesRead.{string_taken, string_failed, other_length}
use Rattle.pg_machine_turns.proofs.machine.Machine.string.Goals as goal

pub returns-then-count-characters : goal.returns-then-count-characters
returns-then-count-characters c =
    let m = c.args.self.now in
    let rest : c.after-rest.result.now ≡ drop c.args.place c.args.text.now = c.after-rest.ensures ∙ ap (drop c.args.place) c.characters.ensures.same in
    let whole : common_prefix_len nat_eq c.args.characters.now (drop c.args.place c.args.text.now) ≡ length c.args.characters.now =
    ap (common_prefix_len nat_eq c.args.characters.now) (sym rest) ∙ sym c.matched-count.ensures.value ∙ c.if-count-characters.true in
    IfOk-weaker c.take.result _ _
    (λ mode h. string_taken m.frames m.lists.forest m.lists.trail.items m.lists.messages m.table (tape_of mode c.take.new.self) c.args.text.now c.args.characters.now c.args.place whole h) c.take.ensures

pub returns : goal.returns
returns c =
    let m = c.args.self.now in
    let rest : c.after-rest.result.now ≡ drop c.args.place c.args.text.now = c.after-rest.ensures ∙ ap (drop c.args.place) c.characters.ensures.same in
    let count : common_prefix_len nat_eq c.args.characters.now (drop c.args.place c.args.text.now) ≡ c.matched-count.result = ap (common_prefix_len nat_eq c.args.characters.now) (sym rest) ∙ sym c.matched-count.ensures.value in
    let next : c.character_at-next.result ≡ slice_get (drop c.args.place c.args.text.now) c.matched-count.result = c.character_at-next.ensures ∙ ap (λ xs. slice_get xs c.matched-count.result) rest in
    let other : (c.matched-count.result == length c.args.characters.now) ≡ false = other_length c.matched-count.result (length c.args.characters.now) c.if-count-characters.false in
    IfOk-weaker c.fail_wanting.result _ _
    (λ mode h. string_failed m.frames m.lists.forest m.lists.trail.items m.lists.messages m.table (tape_of mode c.fail_wanting.new.self) c.args.text.now c.args.characters.now c.args.place c.matched-count.result count other c.character_at-next.result next h) c.fail_wanting.ensures
