use Rattle.std.proofs.Common.{rules, ◌≡◌, ◌∷◌, false}
use Rattle.pg_message.specs.Messages.{has_text}
use Rattle.pg_message.proofs.TextLists.{room_left}
use Rattle.pg_message.proofs.messages.append_reserved.Goals as goal

pub loop-text-preserved-then-not-has_text : goal.loop-text-preserved-then-not-has_text
loop-text-preserved-then-not-has_text c =
    let taken : c.loop-text.text-iterator ≡ c.in-Some.text ∷ c.next.new.self = search rules in
    let missing : has_text c.loop-text.texts.items c.in-Some.text ≡ false = search rules in
    let left = room_left c.loop-text.texts.items c.loop-text.text-iterator c.next.new.self c.in-Some.text c.loop-text.texts.capacity taken missing c.loop-text.invariant.room in
    record { room = rw (c.push_reserved.ensures.items, c.push_reserved.ensures.capacity) left; so_far = search (rules, taken, missing) }
