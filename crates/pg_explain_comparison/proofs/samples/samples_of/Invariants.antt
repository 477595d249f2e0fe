use Rattle.std.proofs.Common.{All}
use Rattle.pg_explain_comparison.specs.Kept.{IsSample}
use Rattle.pg_explain_comparison.proofs.samples.samples_of.Given as goal

abbrev pub invariant-loop-draft : goal.invariant-loop-draft
invariant-loop-draft g l = All (IsSample l.grammar l.table) l.samples.items
