use Rattle.std.proofs.Common.{subst}
use Rattle.std.specs.Io.KnownBytes.{Appends}
use Rattle.pg_tree.specs.Bytes.{AppendsPrefix}
use Rattle.pg_bench_places.proofs.Told.{accepted_told, accepted_partly}
use Rattle.pg_bench_places.proofs.placed.tell_accepted.Goals as goal

pub returns-clause-ok : goal.returns-clause-ok
returns-clause-ok g c =
    let contents = g.W.Write.contents in
    accepted_told c.args.checked.now.grammar c.args.certificate (contents c.args.writer.now.inner) (contents c.write_page.new.writer.inner) c.in-Ok.line.items c.in-Ok.ensures
    (subst (Appends (contents c.args.writer.now.inner) (contents c.write_page.new.writer.inner)) c.as_slice.ensures.value c.in_ok-write_page.ensures.ok)

pub returns-in_err-write_page-clause-prefix : goal.returns-in_err-write_page-clause-prefix
returns-in_err-write_page-clause-prefix g c is =
    let contents = g.W.Write.contents in
    accepted_partly c.args.checked.now.grammar c.args.certificate (contents c.args.writer.now.inner) (contents c.write_page.new.writer.inner) c.in-Ok.line.items c.in-Ok.ensures
    (subst (AppendsPrefix (contents c.args.writer.now.inner) (contents c.write_page.new.writer.inner)) c.as_slice.ensures.value c.in_err-write_page.ensures.prefix)
