use Rattle.std.proofs.Common.{All, IfSome, sym, subst}
use Rattle.pg_explain_comparison.specs.Kept.{IsSample}
use Rattle.pg_explain_comparison.proofs.More.{one_more}
use Rattle.pg_explain_comparison.proofs.samples.samples_of.Goals as goal

pub loop-draft-preserved-in-Continue-branch-4 : goal.loop-draft-preserved-in-Continue-branch-4
loop-draft-preserved-in-Continue-branch-4 g c =
    let is = subst (λ found. IfSome found (IsSample c.args.grammar.now c.args.table.now)) c.in-Some-2.is c.in_ok-sample.ensures in
    subst (All (IsSample c.args.grammar.now c.args.table.now)) (sym c.in_ok-push.ensures.items)
    (one_more (IsSample c.args.grammar.now c.args.table.now) c.loop-draft.samples.items c.in-Some-2.sample c.loop-draft.invariant is)
