use Rattle.std.proofs.Common.{Err, ap}
use Rattle.pg_predict_lines.specs.Lines.{front_at}
use Rattle.pg_bench_places.proofs.Told.{refused_told, refused_partly}
use Rattle.pg_bench_places.proofs.placed.tell_refused.Goals as goal

pub returns-in-Ok-write_fronted-clause-ok : goal.returns-in-Ok-write_fronted-clause-ok
returns-in-Ok-write_fronted-clause-ok g c =
    let contents = g.W.Write.contents in
    refused_told c.args.refused.now.grammar c.args.certificate (contents c.args.writer.now.inner) (contents c.write_fronted.new.writer.inner) c.args.refused.now (front_at c.in-Ok.fronts)
    c.grammar-grammar.ensures.refused c.in-Ok-write_fronted.ensures.ok

pub returns-in-Err-Writer-clause-prefix : goal.returns-in-Err-Writer-clause-prefix
returns-in-Err-Writer-clause-prefix g c is =
    let contents = g.W.Write.contents in
    refused_partly c.args.refused.now.grammar c.args.certificate (contents c.args.writer.now.inner) (contents c.write_fronted.new.writer.inner) c.args.refused.now (front_at c.in-Ok.fronts)
    c.grammar-grammar.ensures.refused (c.in-Err-Writer.ensures.prefix (ap Err c.in-Err-Writer.field-0-is))
