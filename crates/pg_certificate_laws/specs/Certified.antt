-- Facts about a grammar's own certificate.
use Rattle.std.specs.Prelude.{◌≡◌, ◌++◌, ℕ, List, codes}
use Rattle.pg_certificate_own.specs.Own.{IsOwnCertificate}
use Rattle.pg_predict.specs.Conditions.{IsFaultless}
use Rattle.pg_grammar_value.specs.Grammar.{Grammar, IsGrammar}
use Rattle.pg_certificate_verify.specs.Refuted.{IsVerified, IsRefuted}
use Rattle.pg_certificate_verify.specs.declared.verify_fault.VerifyFault.{VerifyFault}
use Rattle.pg_certificate_verify.specs.declared.verify_fault.VerifyFault.TheVariants.{Memory}

-- if nothing is wrong with a grammar, its own certificate is verified
abbrev pub OwnCertificatesAreVerified : Type 0
OwnCertificatesAreVerified = (g : Grammar) (text : List ℕ) → IsGrammar g → IsFaultless g → IsOwnCertificate g text → IsVerified g text

-- it is also verified with a line end after it, as it is printed
abbrev pub OwnCertificateLinesAreVerified : Type 0
OwnCertificateLinesAreVerified = (g : Grammar) (text : List ℕ) → IsGrammar g → IsFaultless g → IsOwnCertificate g text → IsVerified g (text ++ codes "\n")

-- it isn't refuted: the only fault that can be found with it is that memory ran out
abbrev pub OwnCertificatesAreNotRefuted : Type 0
OwnCertificatesAreNotRefuted = (g : Grammar) (text : List ℕ) (fault : VerifyFault) → IsGrammar g → IsFaultless g → IsOwnCertificate g text → IsRefuted g text fault
    → fault ≡ Memory
