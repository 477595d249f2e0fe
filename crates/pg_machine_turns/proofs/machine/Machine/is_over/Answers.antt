use Rattle.std.proofs.Common.{ap, sym, ◌∙◌}
use Rattle.pg_machine_turns.specs.Tape.{tape_is_last}
use Rattle.pg_machine_turns.specs.View.{tape_of}
use Rattle.pg_machine_turns.proofs.Stack.{last_reply}
use Rattle.pg_machine_turns.proofs.machine.Machine.is_over.Goals as goal

pub returns-in-With : goal.returns-in-With
returns-in-With c =
    let m = c.args.self.now in
    c.is_empty.ensures ∙ last_reply c.in-With.field-0 m.frames m.lists.forest m.lists.trail.items m.lists.messages m.table
    ∙ ap (λ s. tape_is_last (tape_of s m)) (sym c.in-With.is)
