-- Facts about bytes that show a grammar to be accepted, and about bytes that don't.
use Rattle.std.specs.Prelude.{◌<◌, ℕ, List, [], length}
use Rattle.serde_json.specs.Data.{Data}
use Rattle.pg_certificate.specs.Certificates.{IsCertificateText, IsJsonOf}
use Rattle.pg_certificate.specs.declared.certificate.RuleClaim.{RuleClaim}
use Rattle.pg_predict_costs.specs.FoundCost.{IsCostByCosts}
use Rattle.pg_predict.specs.Broken.{IsTheFirst}
use Rattle.pg_predict.specs.Conditions.{claimed_facts, IsFaultlessBy}
use Rattle.pg_predict.specs.declared.violation.Broken.{Broken}
use Rattle.pg_sets.specs.Sets.{Sets}
use Rattle.pg_grammar_value.specs.Grammar.{Grammar}
use Rattle.pg_certificate_verify.specs.Judged.{Said}
use Rattle.pg_certificate_verify.specs.NodeSets.{NodeSets}
use Rattle.pg_certificate_verify.specs.Verified.{ClaimsHold, ClaimFails}
use Rattle.pg_certificate_verify.specs.declared.verify_fault.VerifyFault.{VerifyFault}
use Rattle.pg_certificate_verify.specs.declared.verify_fault.VerifyFault.TheVariants as fault

-- the sets of the claims in the form of a grammar's, without heads and ranks
abbrev pub judged_sets : Said → NodeSets → Sets
judged_sets said sets = record { nullable = said.nullable; starts = sets.starts; firsts = sets.firsts; follows = sets.follows; heads = []; ranks = [] }

-- the bytes are a certificate of the grammar, all of its claims hold, and no condition is broken by its sets and its cost
pub record IsVerified (g : Grammar) (bytes : List ℕ) : Type 0 where
  pub said : Said
  pub sets : NodeSets
  pub cost : ℕ
  pub hold : ClaimsHold g bytes said sets
  pub is_cost : IsCostByCosts g said.costs cost
  pub faultless : IsFaultlessBy g (claimed_facts (judged_sets said sets) cost)

-- all claims hold, and this is the first condition that is broken by them
pub record IsBroken (g : Grammar) (bytes : List ℕ) (broken : Broken) : Type 0 where
  pub said : Said
  pub sets : NodeSets
  pub cost : ℕ
  pub hold : ClaimsHold g bytes said sets
  pub is_cost : IsCostByCosts g said.costs cost
  pub first : IsTheFirst g (claimed_facts (judged_sets said sets) cost) broken

-- the bytes are the JSON of some value
abbrev pub AreJson : List ℕ → Type 0
AreJson bytes = (value : Data) × IsJsonOf bytes value

-- the bytes are a certificate of the grammar
abbrev pub AreCertificate : Grammar → List ℕ → Type 0
AreCertificate g bytes = (certificate : List RuleClaim) × IsCertificateText g bytes certificate

-- the meaning of each fault
abbrev pub IsRefuted : Grammar → List ℕ → VerifyFault → Type 0
IsRefuted g bytes fault.NotJson = ¬ (AreJson bytes)
IsRefuted g bytes fault.NotACertificate = AreJson bytes × ¬ (AreCertificate g bytes)
IsRefuted g bytes (fault.NotClosed failing) = ClaimFails g bytes failing
IsRefuted g bytes (fault.Broken broken) = IsBroken g bytes broken
IsRefuted g bytes fault.Memory = Unit {0}

-- the rule or the node in a fault is the grammar's
abbrev pub FitsFault : Grammar → VerifyFault → Type 0
FitsFault g fault.NotJson = Unit {0}
FitsFault g fault.NotACertificate = Unit {0}
FitsFault g (fault.NotClosed failing) = failing.rule < length g.rules
FitsFault g (fault.Broken broken) = broken.node < length g.nodes
FitsFault g fault.Memory = Unit {0}
