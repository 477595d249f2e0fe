-- What is found of claims that don't hold refutes the certificate.
use Rattle.std.proofs.Common.{ℕ, List, Result}
use Rattle.std.specs.Prelude.{IsErrOf}
use Rattle.std.proofs.lemmas.Option.{slice_get_within}
use Rattle.serde_json.specs.Data.{Data}
use Rattle.pg_certificate.specs.Certificates.{IsCertificateText, IsJsonOf}
use Rattle.pg_certificate.specs.declared.certificate.RuleClaim.{RuleClaim}
use Rattle.pg_predict.specs.declared.violation.Broken.{Broken}
use Rattle.pg_grammar_value.specs.Grammar.{Grammar}
use Rattle.pg_certificate_verify.specs.Refuted.{IsRefuted, FitsFault}
use Rattle.pg_certificate_verify.specs.Verified.{ClaimFails}
use Rattle.pg_certificate_verify.specs.declared.verify_fault.NotClosed.{NotClosed}
use Rattle.pg_certificate_verify.specs.declared.verify_fault.VerifyFault.{VerifyFault}
use Rattle.pg_certificate_verify.specs.declared.verify_fault.VerifyFault.TheVariants as fault

module _ {T : Type 0} (g : Grammar) (bytes : List ℕ) (r : Result T VerifyFault) (closed : (failing : NotClosed) → IsErrOf r (fault.NotClosed failing) → ClaimFails g bytes failing)
    (unbroken : (broken : Broken) → IsErrOf r (fault.Broken broken) → ⊥) where
  pub claims_refuted : (found : VerifyFault) → IsErrOf r found → (IsErrOf r fault.NotJson → (value : Data) → IsJsonOf bytes value → ⊥)
      → (IsErrOf r fault.NotACertificate → (value : Data) × IsJsonOf bytes value)
      → (IsErrOf r fault.NotACertificate → (certificate : List RuleClaim) → IsCertificateText g bytes certificate → ⊥) → IsRefuted g bytes found
  claims_refuted fault.NotJson is no_json json certificate = λ value. no_json is value.0 value.1
  claims_refuted fault.NotACertificate is no_json json certificate = (json is, λ read. certificate is read.0 read.1)
  claims_refuted (fault.NotClosed failing) is no_json json certificate = closed failing is
  claims_refuted (fault.Broken broken) is no_json json certificate = absurd (unbroken broken is)
  claims_refuted fault.Memory is no_json json certificate = tt

  pub claims_fit : (found : VerifyFault) → IsErrOf r found → FitsFault g found
  claims_fit fault.NotJson is = tt
  claims_fit fault.NotACertificate is = tt
  claims_fit (fault.NotClosed failing) is = let first = (closed failing is).first in slice_get_within g.rules failing.rule first.rule first.there
  claims_fit (fault.Broken broken) is = absurd (unbroken broken is)
  claims_fit fault.Memory is = tt
