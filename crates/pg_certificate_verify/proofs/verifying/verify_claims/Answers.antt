use Rattle.std.proofs.Common.{◌≡◌, Err, ap, ◌∙◌}
use Rattle.pg_certificate_verify.specs.declared.verify_fault.VerifyFault.TheVariants.{NotACertificate}
use Rattle.pg_certificate_verify.proofs.verifying.verify_claims.Goals as goal

pub returns-in-Err-clause-json : goal.returns-in-Err-clause-json
returns-in-Err-clause-json c = λ is.
    let same : c.fault_of.result ≡ NotACertificate = cc in
    c.read_certificate.ensures.json (c.in-Err.is ∙ ap Err (c.fault_of.ensures.certificate same))

pub returns-in-Err-clause-not_a_certificate : goal.returns-in-Err-clause-not_a_certificate
returns-in-Err-clause-not_a_certificate c = λ is certificate text.
    let same : c.fault_of.result ≡ NotACertificate = cc in
    c.read_certificate.ensures.not_a_certificate (c.in-Err.is ∙ ap Err (c.fault_of.ensures.certificate same)) certificate text
