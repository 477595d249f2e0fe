use Rattle.std.proofs.Common.{subst}
use Rattle.pg_predict.specs.Refusals.{RefusedGrammar, IsRefused}
use Rattle.pg_predict.proofs.Violations.{refusal_is}
use Rattle.pg_predict.proofs.refused.Refused.sets.Goals as goal

pub returns-clause-refused : goal.returns-clause-refused
returns-clause-refused c = subst (λ (r : RefusedGrammar). IsRefused r.grammar r) c.self.view_is (refusal_is c.self.inside.source c.self.invariant)
