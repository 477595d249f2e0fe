use Rattle.std.proofs.Common.{◌+◌, [], map, take, sym, subst}
use Rattle.std.proofs.lemmas.Result.{err_from_is_err_and}
use Rattle.serde_json.specs.View.{view}
use Rattle.pg_certificate.specs.Readings.{GivesEach}
use Rattle.pg_certificate.specs.Certificates.{SaysClaim}
use Rattle.pg_certificate.proofs.Found.{one_more, all_found, one_refused}
use Rattle.pg_certificate.proofs.read.read_each_claim.Goals as goal

pub loop-value-init : goal.loop-value-init
loop-value-init c = subst (λ found. GivesEach (SaysClaim c.args.grammar.now) [] found) (sym c.new-certificate.ensures) tt

pub returns-in_err-read_claim : goal.returns-in_err-read_claim
returns-in_err-read_claim c =
    let p = err_from_is_err_and c.from_residual.result c.from_residual.ensures.1 in
    rw (p.1, p.2) (one_refused view (SaysClaim c.args.grammar.now) c.args.list.now c.loop-value.value-index c.value-item.result _ c.loop-value-test.true c.value-item.is c.in_err-read_claim.ensures)

pub loop-value-preserved : goal.loop-value-preserved
loop-value-preserved c =
    subst (λ found. GivesEach (SaysClaim c.args.grammar.now) (map view (take (c.loop-value.value-index + 1) c.args.list.now)) found) (sym c.in_ok-push.ensures.ok)
    (one_more view (SaysClaim c.args.grammar.now) c.args.list.now c.loop-value.value-index c.value-item.result c.loop-value.certificate c.in_ok-read_claim.field-0 c.loop-value-test.true c.value-item.is
    c.loop-value.invariant c.in_ok-read_claim.ensures)

pub returns : goal.returns
returns c = all_found view (SaysClaim c.args.grammar.now) c.args.list.now c.loop-value.value-index c.loop-value.certificate c.loop-value-test.false c.loop-value.invariant
