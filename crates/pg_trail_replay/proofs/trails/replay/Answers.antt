-- The replay comes to an end.
use Rattle.pg_trail_replay.proofs.Ending.{halts}
use Rattle.pg_trail_replay.proofs.trails.replay.Goals as goal

pub invariant_of-journey : goal.invariant_of-journey
invariant_of-journey c = record { halts = halts c.args.grammar.now c.args.text.now c.args.table.now c.args.trail.now c.nodes-nodes.ensures.grammar.preorder }
