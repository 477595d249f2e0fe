use Rattle.std.proofs.Common.{sym, ◌∙◌}
use Rattle.std.proofs.lemmas.Result.{IfOk-weaker}
use Rattle.pg_machine_turns.specs.View.{tape_of}
use Rattle.pg_machine_turns.proofs.LeavesRead.{word_taken_whole}
use Rattle.pg_machine_turns.proofs.machine.Machine.read_word.Goals as goal

pub returns : goal.returns
returns c =
    let m = c.args.self.now in
    IfOk-weaker c.take.result _ _
    (λ mode h. word_taken_whole m.frames m.lists.forest m.lists.trail.items m.lists.messages m.table (tape_of mode c.take.new.self) c.args.item.now c.args.place c.args.word.now (sym c.contains.ensures ∙ c.if-contains.false) h) c.take.ensures
