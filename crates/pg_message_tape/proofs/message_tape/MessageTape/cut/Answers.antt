use Rattle.std.proofs.Common.{◌≡◌, sym, ap, ◌∙◌, take}
use Rattle.pg_message_tape.specs.Repeats.{said, more_said}
use Rattle.pg_message_tape.proofs.Repeats.{take_said}
use Rattle.pg_message_tape.proofs.message_tape.MessageTape.cut.Goals as goal

pub returns-then-self-eq0 : goal.returns-then-self-eq0
returns-then-self-eq0 c =
    let none : more_said c.self.inside.entries.items ≡ 0 = sym c.self.invariant.0 ∙ c.if-self-eq0.true in
    ap said c.truncate.ensures.items ∙ take_said c.args.count c.self.inside.entries.items none ∙ ap (take c.args.count) c.self.view_is
