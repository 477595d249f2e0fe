use Rattle.pg_explain_witness.specs.Going.{goes_on}
use Rattle.pg_explain_witness.proofs.going.goes_so_far.Goals as goal

pub loop-preserved : goal.loop-preserved
loop-preserved g c = goes_on c.loop.invariant (c.in_ok-goes_on.ensures c.if-not-branch.false)
