use Rattle.pg_predict_conditions.specs.Conditions.{claimed_facts}
use Rattle.pg_certificate_verify.proofs.Violated.{NothingBefore}
use Rattle.pg_certificate_verify.proofs.breaking.first_node.Given as goal

abbrev pub invariant-loop-number : goal.invariant-loop-number
invariant-loop-number l = NothingBefore l.claims.grammar.now (claimed_facts l.claims.sets.now l.claims.cost) l.number
