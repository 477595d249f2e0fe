-- Facts about bytes that are a certificate: if its claims hold, and if one fails.
use Rattle.std.specs.Prelude.{ℕ, List}
use Rattle.pg_certificate.specs.Certificates.{IsCertificateText}
use Rattle.pg_certificate.specs.declared.certificate.RuleClaim.{RuleClaim}
use Rattle.pg_grammar_value.specs.Grammar.{Grammar}
use Rattle.pg_certificate_verify.specs.Judged.{Said, IsSaid, AllHold, IsFirstFault}
use Rattle.pg_certificate_verify.specs.NodeSets.{NodeSets, AreNodeSets}
use Rattle.pg_certificate_verify.specs.declared.verify_fault.NotClosed.{NotClosed}

-- the bytes are a certificate of the grammar, all of its claims hold, and these are the facts about nodes and the sets of nodes by them
pub record ClaimsHold (g : Grammar) (bytes : List ℕ) (said : Said) (sets : NodeSets) : Type 0 where
  pub certificate : List RuleClaim
  pub text : IsCertificateText g bytes certificate
  pub said_so : IsSaid g certificate said
  pub are_sets : AreNodeSets g certificate said.nullable sets
  pub hold : AllHold g certificate said

-- the bytes are a certificate of the grammar, and this is the first of its claims that fails
pub record ClaimFails (g : Grammar) (bytes : List ℕ) (fault : NotClosed) : Type 0 where
  pub certificate : List RuleClaim
  pub text : IsCertificateText g bytes certificate
  pub said : Said
  pub said_so : IsSaid g certificate said
  pub first : IsFirstFault g certificate said fault
