use Rattle.std.proofs.Common.{◌≡◌, take}
use Rattle.pg_sets_own.proofs.own.copies.Given as goal

abbrev pub invariant-loop-listed : goal.invariant-loop-listed
invariant-loop-listed l = l.own.items ≡ take l.listed-index l.starts
