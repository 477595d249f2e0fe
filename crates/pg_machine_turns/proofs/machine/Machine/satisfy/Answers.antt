use Rattle.std.proofs.Common.{sym, ◌∙◌}
use Rattle.std.proofs.lemmas.Result.{IfOk-weaker}
use Rattle.pg_machine_turns.specs.View.{tape_of}
use Rattle.pg_machine_turns.proofs.LeavesRead.{satisfy_taken}
use Rattle.pg_machine_turns.proofs.machine.Machine.satisfy.Goals as goal

pub returns-then-node_has : goal.returns-then-node_has
returns-then-node_has c =
    let m = c.args.self.now in
    IfOk-weaker c.take.result _ _
    (λ mode h. satisfy_taken m.frames m.lists.forest m.lists.trail.items m.lists.messages m.table (tape_of mode c.take.new.self) c.args.grammar.now c.args.text.now c.args.class.now c.args.place c.in-Some.c
    (sym c.next_in.ensures.value ∙ c.in-Some.is) (sym c.node_has.ensures ∙ c.if-node_has.true) h) c.take.ensures
