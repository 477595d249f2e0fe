use Rattle.pg_message.proofs.Nothing.{merged-nothing, nothing-merged}
use Rattle.pg_message.proofs.laws.errors_without_messages_change_nothing.Goals as goal

pub returns-clause-after : goal.returns-clause-after
returns-clause-after c = merged-nothing

pub returns-clause-before : goal.returns-clause-before
returns-clause-before c = nothing-merged
