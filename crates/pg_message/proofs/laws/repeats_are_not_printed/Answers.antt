use Rattle.pg_message.proofs.Repeats.{printed-with_messages}
use Rattle.pg_message.proofs.laws.repeats_are_not_printed.Goals as goal

pub returns : goal.returns
returns c = printed-with_messages
