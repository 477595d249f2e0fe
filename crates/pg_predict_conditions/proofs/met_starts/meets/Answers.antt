use Rattle.pg_predict_conditions.proofs.Ends.{told_by_bounds, told_by_ends, told_apart}
use Rattle.pg_predict_conditions.proofs.met_starts.meets.Goals as goal

pub returns-else-not-tell_apart : goal.returns-else-not-tell_apart
returns-else-not-tell_apart c =
    told_by_bounds c.args.start.now c.args.other.now c.args.own.now c.args.others.now c.tell_apart.result c.requires.own c.requires.other c.tell_apart.ensures c.if-not-tell_apart.false

pub returns-then-share_an_end : goal.returns-then-share_an_end
returns-then-share_an_end c =
    told_by_ends c.args.start.now c.args.other.now c.args.own.now c.args.others.now c.share_an_end.result c.requires.own c.requires.other c.share_an_end.ensures c.if-share_an_end.true

pub returns-else-share_an_end : goal.returns-else-share_an_end
returns-else-share_an_end c = told_apart c.args.start.now c.args.other.now c.apart.result c.apart.ensures
