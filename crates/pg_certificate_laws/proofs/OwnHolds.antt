-- All that a grammar's own claims say holds.
use Rattle.std.proofs.Common.{List, length}
use Rattle.pg_certificate.specs.declared.certificate.RuleClaim.{RuleClaim}
use Rattle.pg_grammar_value.proofs.Numbers.{bodies_are_nodes}
use Rattle.pg_grammar_value.specs.Follows.{BodiesAreNodes}
use Rattle.pg_grammar_value.specs.Grammar.{Grammar, IsGrammar}
use Rattle.pg_certificate_verify.specs.Judged.{Holds}
use Rattle.pg_certificate_verify.specs.declared.verify_fault.Condition.{Condition}
use Rattle.pg_certificate_verify.specs.declared.verify_fault.Condition.TheVariants as condition
use Rattle.pg_certificate_laws.specs.Own.{AreOwnClaims, OwnClaimsHold}
use Rattle.pg_certificate_laws.proofs.OwnClaims.{AreExact, are_exact, nullable_so}
use Rattle.pg_certificate_laws.proofs.OwnClosed.{own_sets_closed}
use Rattle.pg_certificate_laws.proofs.OwnCosts.{cost_there, costs_hold}
use Rattle.pg_certificate_laws.proofs.OwnRanks.{ranks_hold}

pub bodies_of : (g : Grammar) → IsGrammar g → BodiesAreNodes (length g.nodes) g.rules
bodies_of g grammar = bodies_are_nodes g.rules g.nodes grammar.bodies

pub exact : (g : Grammar) (claims : List RuleClaim) → IsGrammar g → AreOwnClaims g claims → AreExact g claims
exact g claims grammar own = are_exact g own.sets own.costs claims (bodies_of g grammar) own.are_sets own.least

pub own_hold : OwnClaimsHold
own_hold g claims said grammar own said_so r rule at = each
  where
    each : (one : Condition) → Holds g claims said r rule one
    each condition.Nullable = (own_sets_closed g own.sets own.costs claims grammar (bodies_of g grammar) own.are_sets own.least said.nullable said_so.nullable r rule at).nullable
    each condition.First = (own_sets_closed g own.sets own.costs claims grammar (bodies_of g grammar) own.are_sets own.least said.nullable said_so.nullable r rule at).first
    each condition.Follow = (own_sets_closed g own.sets own.costs claims grammar (bodies_of g grammar) own.are_sets own.least said.nullable said_so.nullable r rule at).follow
    each condition.Rank = ranks_hold g grammar claims (exact g claims grammar own) said.nullable said_so.nullable said.ranks said_so.ranks r rule at
    each condition.Cost =
        let all = exact g claims grammar own in
        let cost = (cost_there g grammar own.sets own.are_sets claims all).1 in
        costs_hold g grammar own.sets own.are_sets own.costs own.are_costs claims own.least all cost.costs cost.are_costs said.nullable
        (nullable_so g grammar claims all said.nullable said_so.nullable) said.costs said_so.costs r rule at
