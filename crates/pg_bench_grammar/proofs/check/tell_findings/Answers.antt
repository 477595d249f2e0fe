use Rattle.std.proofs.Common.{Err, ap}
use Rattle.pg_bench_grammar.proofs.Judged.{told_refused, partly_refused}
use Rattle.pg_bench_grammar.proofs.check.tell_findings.Goals as goal

pub returns-in-Ok-clause-ok : goal.returns-in-Ok-clause-ok
returns-in-Ok-clause-ok g c = λ asked. told_refused c.args.refused.now.grammar c.args.refused.now _ _ c.grammar-grammar.ensures.refused c.in-Ok.ensures.ok asked

pub returns-in-Err-Writer-clause-prefix : goal.returns-in-Err-Writer-clause-prefix
returns-in-Err-Writer-clause-prefix g c = λ is asked.
    let written = c.in-Err-Writer.ensures.prefix (ap Err c.in-Err-Writer.field-0-is) in
    partly_refused c.args.refused.now.grammar c.args.refused.now _ _ c.grammar-grammar.ensures.refused written asked
