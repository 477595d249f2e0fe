use Rattle.pg_text.proofs.Spelling.{one_more}
use Rattle.pg_text.proofs.texts.add.Goals as goal

pub returns : goal.returns
returns c = rw c.in_ok-insert.ensures.keys (one_more c.args.set.now.keys c.args.text)
