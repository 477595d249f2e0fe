use Rattle.std.proofs.Common.{◌≡◌, ◌+◌, ◌∷◌, ◌++◌, [], rules, refl, ◌∙◌}
use Rattle.pg_message_tape.specs.Messages.{tape_message_of}
use Rattle.pg_message_tape.specs.Repeats.{next_of}
use Rattle.pg_message_tape.proofs.Repeats.{said_again}
use Rattle.pg_message_tape.proofs.repeated.say_in_turn.Goals as goal

pub returns-else-not-is_next-clause-said : goal.returns-else-not-is_next-clause-said
returns-else-not-is_next-clause-said c =
    let e : c.args.entries.now.items ≡ c.in-Some.rest.now ++ c.in-Some.last.now ∷ [] = search rules in
    let next : tape_message_of c.args.message.now ≡ next_of c.in-Some.last.now = c.is_next.ensures c.if-not-is_next.false ∙ c.next.ensures in
    said_again c.args.entries.now.items c.in-Some.rest.now c.in-Some.last.now (c.in-Some.last.now.more + 1) (tape_message_of c.args.message.now) e refl next
