use Rattle.std.proofs.Common.{Err, ap}
use Rattle.pg_bench_json.proofs.Listed.{listed_refused, partly_refused}
use Rattle.pg_bench_json.proofs.json.list_refused.Goals as goal

pub returns-in-Ok-clause-ok : goal.returns-in-Ok-clause-ok
returns-in-Ok-clause-ok g c = listed_refused c.args.refused.now.grammar c.args.refused.now _ _ c.grammar-grammar.ensures.refused c.in-Ok.ensures.ok

pub returns-in-Err-Writer-clause-prefix : goal.returns-in-Err-Writer-clause-prefix
returns-in-Err-Writer-clause-prefix g c is =
    let written = c.in-Err-Writer.ensures.prefix (ap Err c.in-Err-Writer.field-0-is) in
    partly_refused c.args.refused.now.grammar c.args.refused.now _ _ c.grammar-grammar.ensures.refused written
