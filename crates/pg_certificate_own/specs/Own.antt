-- The text of a grammar's own certificate.
use Rattle.std.specs.Prelude.{◌≡◌, ℕ, List}
use Rattle.pg_certificate.specs.Certificates.{IsCertificateText}
use Rattle.pg_certificate.specs.Values.{certificate_json}
use Rattle.pg_certificate.specs.declared.certificate.RuleClaim.{RuleClaim}
use Rattle.pg_predict_costs.specs.Rounds.{AreCutCosts}
use Rattle.pg_certificate_own.specs.Least.{AreLeast}
use Rattle.pg_sets.specs.Sets.{Sets, AreSets}
use Rattle.pg_grammar_value.specs.Grammar.{Grammar}

-- the text is that of the claims made from the sets of the grammar and the costs of its nodes, and is read as these claims again
pub record IsOwnCertificate (g : Grammar) (text : List ℕ) : Type 0 where
  pub sets : Sets
  pub are_sets : AreSets g sets
  pub costs : List ℕ
  pub are_costs : AreCutCosts g sets.nullable costs
  pub claims : List RuleClaim
  pub least : AreLeast g sets costs 0 g.rules claims
  pub is : text ≡ certificate_json g claims
  pub again : IsCertificateText g text claims
