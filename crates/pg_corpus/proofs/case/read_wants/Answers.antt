use Rattle.std.proofs.Common.{◌<◌, length, rules}
use Rattle.pg_corpus.proofs.Parts.{wants}
use Rattle.pg_corpus.proofs.case.read_wants.Goals as goal

pub returns-clause-wanting : goal.returns-clause-wanting
returns-clause-wanting c =
    let some : 0 < length c.without_feed-wanted.result.now = search rules in
    (wants c.args.bytes.now c.cut.result.0.now c.cut.result.1.now c.cut-2.result.0.now c.cut-2.result.1.now c.without_feed-wanted.result.now
    c.cut.ensures c.without_feed-wanted.ensures some c.cut-2.ensures).1
