use Rattle.pg_explain_comparison.proofs.Read.{if_answered}
use Rattle.pg_explain_comparison.proofs.fate.fate_of.Goals as goal

pub returns-in-Answered : goal.returns-in-Answered
returns-in-Answered g c =
    if_answered c.args.grammar.now c.args.sample.now.text c.args.table.now c.args.sample.now.forest _ c.read_or_not.result c.in_ok-outcome.ensures c.in-Answered.is c.read_or_not.ensures
