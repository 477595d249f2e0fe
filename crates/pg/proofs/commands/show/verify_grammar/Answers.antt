use Rattle.std.proofs.lemmas.Result.{IfOk-weaker}
use Rattle.pg_pred.specs.Offer.{offer_of}
use Rattle.pg.proofs.Statuses.{verdict_status}
use Rattle.pg.proofs.commands.show.verify_grammar.Goals as goal

pub returns : goal.returns
returns g c =
    IfOk-weaker c.print_verdict.result _ _
    (λ status is.
    verdict_status (offer_of c.args.registry.now) c.args.bytes.now c.args.certificate.now c.verify_bytes-verdict.result status c.verify_bytes-verdict.ensures.ok c.verify_bytes-verdict.ensures.err c.verify_bytes-verdict.ensures.refuted is)
    c.print_verdict.ensures
