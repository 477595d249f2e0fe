use Rattle.std.proofs.Common.{[]}
use Rattle.pg_class.proofs.Unique.{same_class}
use Rattle.pg_sets_own.proofs.own.no_characters.Goals as goal

pub returns : goal.returns
returns c = same_class c.in_ok-class.class [] c.ranges-ranges.ensures.class tt (λ y is. c.in_ok-class.ensures y is)
