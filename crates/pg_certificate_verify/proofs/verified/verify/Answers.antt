use Rattle.pg_certificate_verify.proofs.Refuting.{claims_refuted, claims_fit}
use Rattle.pg_certificate_verify.proofs.verified.verify.Goals as goal

pub returns-in-Err-clause-refuted : goal.returns-in-Err-clause-refuted
returns-in-Err-clause-refuted c =
    let said = c.verify_claims.ensures in
    claims_refuted c.args.grammar.now c.args.bytes.now c.verify_claims.result said.not_closed said.not_broken c.in-Err.fault c.in-Err.is said.not_json said.json said.not_a_certificate

pub returns-in-Err-clause-fits : goal.returns-in-Err-clause-fits
returns-in-Err-clause-fits c =
    claims_fit c.args.grammar.now c.args.bytes.now c.verify_claims.result c.verify_claims.ensures.not_closed c.verify_claims.ensures.not_broken c.in-Err.fault c.in-Err.is
