use Rattle.std.proofs.Common.{◌≡◌, length, take}
use Rattle.pg_message_tape.proofs.message_tape.MessageTape.cut_counted.Given as goal

abbrev pub invariant-cut : goal.invariant-cut
invariant-cut l = take l.count l.self ≡ take l.count l.fn.self

abbrev pub decreases-cut : goal.decreases-cut
decreases-cut l = length l.self
