use Rattle.pg_class.proofs.Unique.{same_class}
use Rattle.pg_class.proofs.class.ranges_are_unique.Goals as goal

pub returns : goal.returns
returns c = same_class
