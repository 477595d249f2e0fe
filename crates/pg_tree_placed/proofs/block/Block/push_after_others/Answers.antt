use Rattle.std.proofs.Common.{rules}
use Rattle.pg_tree_placed.proofs.Putting.{prefix_longer, stopped_put, passed_last}
use Rattle.pg_tree_placed.proofs.block.Block.push_after_others.Goals as goal

pub returns-in_err-flush-clause-so : goal.returns-in_err-flush-clause-so
returns-in_err-flush-clause-so g c =
    let contents = g.W.Write.contents in
    stopped_put c.from_residual.result (contents c.args.writer.now.inner) (contents c.flush.new.writer.inner) c.args.self.now c.flush.new.self c.args.bytes.now (search rules)
    (prefix_longer _ _ _ _ c.in_err-flush.ensures.prefix)

pub returns-clause-so : goal.returns-clause-so
returns-clause-so g c =
    let contents = g.W.Write.contents in
    passed_last c.write_all.result (contents c.args.writer.now.inner) (contents c.flush.new.writer.inner) (contents c.write_all.new.writer.inner) c.args.self.now c.flush.new.self c.args.bytes.now
    c.in_ok-flush.ensures.ok c.in_ok-flush.ensures.empty c.write_all.ensures.ok c.write_all.ensures.prefix
