use Rattle.pg_language.proofs.Onward.{leads_on}
use Rattle.pg_language.proofs.laws.derivations_lead_on.Goals as goal

pub returns : goal.returns
returns c = λ g text p a b forest trail d. leads_on d
