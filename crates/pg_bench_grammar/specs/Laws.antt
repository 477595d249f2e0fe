-- Laws that connect the check of a grammar file with the verification of its certificate.
use Rattle.std.specs.Prelude.{ℕ, List, true, false, codes}
use Rattle.pg_pred.specs.Offer.{Offer}
use Rattle.pg_bench_grammar.specs.Checking.{IsJudgedFile}
use Rattle.pg_bench_grammar.specs.Verifying.{IsVerifiedFile}

-- if bytes are verified as a certificate of a grammar file's grammar, the grammar is accepted, and this is printed of it
abbrev pub VerifiedFilesAreAccepted : Type 0
VerifiedFilesAreAccepted = (offer : Offer) (file certificate : List ℕ) → IsVerifiedFile offer file certificate → IsJudgedFile offer file false true (codes "accepted\n")

-- if a grammar file's grammar is accepted and its certificate is wanted, what is printed is verified as a certificate
abbrev pub PrintedCertificatesAreVerified : Type 0
PrintedCertificatesAreVerified = (offer : Offer) (file said : List ℕ) → IsJudgedFile offer file true true said → IsVerifiedFile offer file said
