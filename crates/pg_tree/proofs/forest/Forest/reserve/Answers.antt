use Rattle.std.proofs.Common.{length, ap, arith}
use Rattle.pg_tree.specs.Stored.{kept_in}
use Rattle.pg_tree.proofs.Showing.{length-listed}
use Rattle.pg_tree.proofs.forest.Forest.reserve.Goals as goal

pub reserve-requires-clause-within : goal.reserve-requires-clause-within
reserve-requires-clause-within c = omega (arith, c.requires, ap length c.self.view_is, length-listed (kept_in c.self.inside.store))
