use Rattle.pg_explain_comparison.proofs.Read.{if_whole}
use Rattle.pg_explain_comparison.proofs.reading.read.Goals as goal

pub returns-in-Answered : goal.returns-in-Answered
returns-in-Answered g c =
    if_whole c.args.grammar.now c.args.text.now c.args.table.now _ c.whole.result c.in_ok-outcome.ensures c.in-Answered.is c.whole.ensures
