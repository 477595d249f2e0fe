-- What the verification of a certificate of a grammar file prints, with a registry that offers predicates and builders.
use Rattle.std.specs.Prelude.{◌≡◌, ℕ, List}
use Rattle.pg_pred.specs.Offer.{Offer}
use Rattle.pg_grammar_value.specs.Grammar.{Grammar}
use Rattle.pg_file_making.specs.Spells.{SpellsWithinLimits}
use Rattle.pg_certificate_verify.specs.Refuted.{IsVerified, IsRefuted}
use Rattle.pg_certificate_verify.specs.Texts.{fault_text}
use Rattle.pg_certificate_verify.specs.declared.verify_fault.VerifyFault.{VerifyFault}

-- the certificate shows that the grammar is accepted
abbrev pub IsVerifiedFile : Offer → List ℕ → List ℕ → Type 0
IsVerifiedFile offer file certificate = (g : Grammar) × SpellsWithinLimits offer file g × IsVerified g certificate

-- the certificate doesn't show that the grammar is accepted, and this is printed as the reason
abbrev pub IsVerdict : Grammar → List ℕ → List ℕ → Type 0
IsVerdict g certificate said = (fault : VerifyFault) × IsRefuted g certificate fault × (said ≡ fault_text g fault)

-- as `IsVerdict`, for the grammar that a file spells
abbrev pub IsVerdictOf : Offer → List ℕ → List ℕ → List ℕ → Type 0
IsVerdictOf offer file certificate said = (g : Grammar) × SpellsWithinLimits offer file g × IsVerdict g certificate said
