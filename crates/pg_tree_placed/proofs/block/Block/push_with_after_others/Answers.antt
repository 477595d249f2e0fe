use Rattle.std.proofs.Common.{rules, slice_set}
use Rattle.pg_tree_placed.proofs.Putting.{prefix_longer, stopped_put}
use Rattle.pg_tree_placed.proofs.block.Block.push_with_after_others.Goals as goal

pub returns-in_err-flush-clause-so : goal.returns-in_err-flush-clause-so
returns-in_err-flush-clause-so g c =
    let contents = g.W.Write.contents in
    stopped_put c.from_residual.result (contents c.args.writer.now.inner) (contents c.flush.new.writer.inner) c.args.self.now c.flush.new.self
    (slice_set c.args.bytes.now c.args.at c.args.byte) (search rules) (prefix_longer _ _ _ _ c.in_err-flush.ensures.prefix)
