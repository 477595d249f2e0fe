use Rattle.std.proofs.Common.{subst, sym}
use Rattle.std.specs.Prelude.{IfOk}
use Rattle.pg_bench_grammar.specs.Checking.{IsTold, IsPartlyTold}
use Rattle.pg_bench_grammar.proofs.Judged.{told_accepted, partly_accepted, told_certificate, partly_certified}
use Rattle.pg_bench_grammar.proofs.Results.{if_ok_with, on_this_err}
use Rattle.pg_bench_grammar.proofs.check.tell_checked.Goals as goal

pub returns-then-certificate-clause-ok : goal.returns-then-certificate-clause-ok
returns-then-certificate-clause-ok g c =
    let contents = g.W.Write.contents in
    subst (λ asked. IfOk c.tell_certificate.result (IsTold c.args.checked.now.grammar asked (contents c.args.writer.now.inner) (contents c.tell_certificate.new.writer.inner)))
    (sym c.if-certificate.true)
    (if_ok_with c.tell_certificate.result _ _
    (told_certificate c.args.checked.now (contents c.args.writer.now.inner) (contents c.tell_certificate.new.writer.inner) c.grammar-grammar.ensures.checked)
    c.tell_certificate.ensures.yes c.tell_certificate.ensures.ok)

pub returns-then-certificate-clause-prefix : goal.returns-then-certificate-clause-prefix
returns-then-certificate-clause-prefix g c is =
    let contents = g.W.Write.contents in
    subst (λ asked. IsPartlyTold c.args.checked.now.grammar asked (contents c.args.writer.now.inner) (contents c.tell_certificate.new.writer.inner)) (sym c.if-certificate.true)
    (partly_certified c.args.checked.now (contents c.args.writer.now.inner) (contents c.tell_certificate.new.writer.inner) c.grammar-grammar.ensures.checked
    (c.tell_certificate.ensures.prefix is))

pub returns-else-certificate-clause-ok : goal.returns-else-certificate-clause-ok
returns-else-certificate-clause-ok g c =
    let contents = g.W.Write.contents in
    subst (λ asked. IfOk c.tell_accepted.result (IsTold c.args.checked.now.grammar asked (contents c.args.writer.now.inner) (contents c.tell_accepted.new.writer.inner)))
    (sym c.if-certificate.false)
    (if_ok_with c.tell_accepted.result _ _
    (told_accepted c.args.checked.now (contents c.args.writer.now.inner) (contents c.tell_accepted.new.writer.inner) c.grammar-grammar.ensures.checked)
    c.tell_accepted.ensures.yes c.tell_accepted.ensures.ok)

pub returns-else-certificate-clause-prefix : goal.returns-else-certificate-clause-prefix
returns-else-certificate-clause-prefix g c is =
    let contents = g.W.Write.contents in
    subst (λ asked. IsPartlyTold c.args.checked.now.grammar asked (contents c.args.writer.now.inner) (contents c.tell_accepted.new.writer.inner)) (sym c.if-certificate.false)
    (partly_accepted c.args.checked.now (contents c.args.writer.now.inner) (contents c.tell_accepted.new.writer.inner) c.grammar-grammar.ensures.checked
    (on_this_err c.tell_accepted.result c.tell_accepted.ensures.prefix is))
