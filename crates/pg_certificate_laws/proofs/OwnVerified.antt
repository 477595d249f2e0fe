-- A grammar's own certificate is verified, and not refuted.
use Rattle.std.proofs.Common.{ℕ, List, ◌++◌, codes, ◌∙◌}
use Rattle.pg_certificate.specs.Certificates.{IsCertificateText}
use Rattle.pg_certificate.specs.declared.certificate.RuleClaim.{RuleClaim}
use Rattle.pg_certificate_own.specs.Own.{IsOwnCertificate}
use Rattle.pg_predict.specs.Conditions.{IsFaultless}
use Rattle.pg_grammar_value.specs.Grammar.{Grammar, IsGrammar}
use Rattle.pg_certificate_verify.specs.Refuted.{IsVerified}
use Rattle.pg_certificate_laws.specs.Certified.{OwnCertificateLinesAreVerified, OwnCertificatesAreVerified, OwnCertificatesAreNotRefuted}
use Rattle.pg_certificate_laws.specs.Own.{AreOwnClaims}
use Rattle.pg_certificate_laws.proofs.LineEnd.{read_line, utf8_line}
use Rattle.pg_certificate_laws.proofs.OwnFaultless.{own_break_nothing}
use Rattle.pg_certificate_laws.proofs.OwnHolds.{own_hold}
use Rattle.pg_certificate_laws.proofs.OwnMade.{said_there, cost_by_costs_there}
use Rattle.pg_certificate_laws.proofs.OwnSets.{sets_there}
use Rattle.pg_certificate_laws.proofs.Unrefuted.{not_refuted}

-- its claims are its own
own_claims : (g : Grammar) (text : List ℕ) (is : IsOwnCertificate g text) → AreOwnClaims g is.claims
own_claims g text is = record { sets = is.sets; are_sets = is.are_sets; costs = is.costs; are_costs = is.are_costs; least = is.least }

-- whatever is read as its claims is verified
read_verified : (g : Grammar) (bytes : List ℕ) (claims : List RuleClaim) → IsGrammar g → IsFaultless g → AreOwnClaims g claims → IsCertificateText g bytes claims → IsVerified g bytes
read_verified g bytes claims grammar faultless own text =
    let said = said_there g grammar claims in
    let cost = cost_by_costs_there g grammar said.0.costs in
    let sets = sets_there g claims grammar own said.0.nullable said.1.nullable in
    record {
      said = said.0;
      sets = sets.0;
      cost = cost.0;
      hold = record { certificate = claims; text = text; said_so = said.1; are_sets = sets.1; hold = own_hold g claims said.0 grammar own said.1 };
      is_cost = cost.1;
      faultless = own_break_nothing g claims said.0 sets.0 cost.0 grammar faultless own said.1 sets.1 cost.1;
    }

pub own_verified : OwnCertificatesAreVerified
own_verified g text grammar faultless is = read_verified g text is.claims grammar faultless (own_claims g text is) is.again

pub own_line_verified : OwnCertificateLinesAreVerified
own_line_verified g text grammar faultless is =
    let read = is.again in
    read_verified g (text ++ codes "\n") is.claims grammar faultless (own_claims g text is) (read.0, (utf8_line text read.1.0, read_line text ∙ read.1.1), read.2)

pub own_not_refuted : OwnCertificatesAreNotRefuted
own_not_refuted g text fault grammar faultless is refuted = not_refuted g text fault grammar (own_verified g text grammar faultless is) refuted
