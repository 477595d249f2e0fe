use Rattle.std.proofs.Common.{sym, ◌∙◌}
use Rattle.pg_message_tape.specs.Repeats.{first_of, second_of}
use Rattle.pg_message_tape.proofs.Repeats.{turn_even, turn_odd}
use Rattle.pg_message_tape.proofs.repeated.Repeated.next.Goals as goal

pub returns-then-self-eq0 : goal.returns-then-self-eq0
returns-then-self-eq0 c =
    let r = c.args.self.now in
    c.second.ensures ∙ sym (turn_even r.more (second_of r) (first_of r) c.if-self-eq0.true)

pub returns-else-self-eq0 : goal.returns-else-self-eq0
returns-else-self-eq0 c =
    let r = c.args.self.now in
    c.first.ensures ∙ sym (turn_odd r.more (second_of r) (first_of r) c.if-self-eq0.false)
