use Rattle.std.proofs.lemmas.Result.{IfOk-weaker}
use Rattle.pg_sets_own.proofs.Owned.{gap_starts}
use Rattle.pg_sets_own.proofs.operators.gap_start.Goals as goal

pub returns : goal.returns
returns c = IfOk-weaker c.class.result _ _ (λ start is. gap_starts c.args.item.now c.in_ok-gap.gap start c.requires.item c.in_ok-gap.ensures is) c.class.ensures
