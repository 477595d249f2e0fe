use Rattle.pg_message.proofs.Merging.{merged_assoc}
use Rattle.pg_message.proofs.laws.merging_is_associative.Goals as goal

pub returns : goal.returns
returns c = merged_assoc
