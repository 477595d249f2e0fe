use Rattle.std.proofs.Common.{◌+◌, [], map, take, sym, subst}
use Rattle.std.proofs.lemmas.Result.{err_from_is_err_and}
use Rattle.serde_json.specs.View.{view}
use Rattle.pg_certificate.specs.Readings.{GivesEach}
use Rattle.pg_certificate.specs.Claims.{SaysRange}
use Rattle.pg_certificate.proofs.Found.{one_more, all_found, one_refused}
use Rattle.pg_certificate.proofs.read_class.read_each_range.Goals as goal

pub loop-value-init : goal.loop-value-init
loop-value-init c = subst (λ found. GivesEach SaysRange [] found) (sym c.new-ranges.ensures.items) tt

pub returns-in_err-read_range : goal.returns-in_err-read_range
returns-in_err-read_range c =
    let p = err_from_is_err_and c.from_residual.result c.from_residual.ensures.1 in
    rw (p.1, p.2) (one_refused view SaysRange c.args.list.now c.loop-value.value-index c.value-item.result _ c.loop-value-test.true c.value-item.is c.in_err-read_range.ensures)

pub loop-value-preserved : goal.loop-value-preserved
loop-value-preserved c =
    subst (λ found. GivesEach SaysRange (map view (take (c.loop-value.value-index + 1) c.args.list.now)) found) (sym c.in_ok-push.ensures.items)
    (one_more view SaysRange c.args.list.now c.loop-value.value-index c.value-item.result c.loop-value.ranges.items c.in_ok-read_range.field-0 c.loop-value-test.true c.value-item.is
    c.loop-value.invariant c.in_ok-read_range.ensures)

pub returns : goal.returns
returns c = all_found view SaysRange c.args.list.now c.loop-value.value-index c.loop-value.ranges.items c.loop-value-test.false c.loop-value.invariant
