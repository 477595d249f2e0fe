-- What the claims of a grammar's own certificate mean for its nodes.
use Rattle.std.specs.Prelude.{◌≡◌, ℕ, Bool, true, List, Some, slice_get, length}
use Rattle.pg_certificate.specs.declared.certificate.RuleClaim.{RuleClaim}
use Rattle.pg_predict_costs.specs.FoundCost.{IsCostByCosts}
use Rattle.pg_predict_costs.specs.Rounds.{AreCutCosts}
use Rattle.pg_graph.specs.Marks.{is_marked}
use Rattle.pg_sets_nullable.specs.Nullable.{Nullable}
use Rattle.pg_certificate_own.specs.Least.{AreLeast}
use Rattle.pg_sets_own.specs.declared.listed.ListedStart.{ListedStart}
use Rattle.pg_predict.specs.Conditions.{claimed_facts, IsFaultless, IsFaultlessBy}
use Rattle.pg_sets.specs.First.{IsFirst}
use Rattle.pg_sets.specs.Follow.{IsFollow}
use Rattle.pg_sets.specs.Sets.{Sets, AreSets}
use Rattle.pg_grammar_value.specs.Follows.{BodiesAreNodes}
use Rattle.pg_grammar_value.specs.Grammar.{Grammar, IsGrammar}
use Rattle.pg_grammar_value.specs.declared.grammar.Rule.{Rule}
use Rattle.pg_certificate_verify.specs.Claimed.{claimed_nullable}
use Rattle.pg_certificate_verify.specs.Closed.{IsFirstClosed, IsFollowClosed}
use Rattle.pg_certificate_verify.specs.First.{IsFirstBy}
use Rattle.pg_certificate_verify.specs.Follow.{IsFollowBy}
use Rattle.pg_certificate_verify.specs.Judged.{Said, IsSaid, AllHold}
use Rattle.pg_certificate_verify.specs.Nullable.{AreNullableBy}
use Rattle.pg_certificate_verify.specs.Refuted.{judged_sets}
use Rattle.pg_certificate_verify.specs.NodeSets.{NodeSets, AreNodeSets}

-- what is nullable by the claims is nullable, and starts that begin or follow a node by the claims do so by the least sets
pub record SayNoMore (g : Grammar) (claims : List RuleClaim) (marks : List Bool) : Type 0 where
  pub nullable : (p : ℕ) → is_marked marks p ≡ true → Nullable g p
  pub first : (p : ℕ) (listed : ListedStart) → IsFirstBy g claims marks listed p → IsFirst g listed.start p
  pub follow : (p : ℕ) (listed : ListedStart) → IsFollowBy g claims marks listed p → IsFollow g listed.start p

-- the claims made from a grammar's own sets claim no more about its nodes than is true
abbrev pub OwnClaimsSayNoMore : Type 0
OwnClaimsSayNoMore = (g : Grammar) (sets : Sets) (costs : List ℕ) (claims : List RuleClaim) → IsGrammar g → BodiesAreNodes (length g.nodes) g.rules → AreSets g sets
    → AreLeast g sets costs 0 g.rules claims → (marks : List Bool) → AreNullableBy g claims marks → SayNoMore g claims marks

-- the claims about a rule are closed: it is claimed nullable if its body is nullable by the claims, and every start that begins the body or
-- stands behind a use of the rule is covered
pub record IsClosed (g : Grammar) (claims : List RuleClaim) (marks : List Bool) (r : ℕ) (rule : Rule) : Type 0 where
  pub nullable : is_marked marks rule.body ≡ true → claimed_nullable claims r ≡ true
  pub first : IsFirstClosed g claims marks r rule
  pub follow : IsFollowClosed g claims marks r

-- this holds for the claims made from a grammar's own sets
abbrev pub OwnSetsAreClosed : Type 0
OwnSetsAreClosed = (g : Grammar) (sets : Sets) (costs : List ℕ) (claims : List RuleClaim) → IsGrammar g → BodiesAreNodes (length g.nodes) g.rules → AreSets g sets
    → AreLeast g sets costs 0 g.rules claims → (marks : List Bool) → AreNullableBy g claims marks → (r : ℕ) (rule : Rule) → slice_get g.rules r ≡ Some rule
    → IsClosed g claims marks r rule

-- ---- with costs

-- the claims are those made from the sets of the grammar and the costs of its nodes; a cost above the greatest number is that number
pub record AreOwnClaims (g : Grammar) (claims : List RuleClaim) : Type 0 where
  pub sets : Sets
  pub are_sets : AreSets g sets
  pub costs : List ℕ
  pub are_costs : AreCutCosts g sets.nullable costs
  pub least : AreLeast g sets costs 0 g.rules claims

-- each rule meets all five conditions
abbrev pub OwnClaimsHold : Type 0
OwnClaimsHold = (g : Grammar) (claims : List RuleClaim) (said : Said) → IsGrammar g → AreOwnClaims g claims → IsSaid g claims said → AllHold g claims said

-- if nothing is wrong with the grammar, no condition is broken by the claimed sets and cost
abbrev pub OwnClaimsBreakNothing : Type 0
OwnClaimsBreakNothing = (g : Grammar) (claims : List RuleClaim) (said : Said) (sets : NodeSets) (cost : ℕ) → IsGrammar g → IsFaultless g → AreOwnClaims g claims
    → IsSaid g claims said → AreNodeSets g claims said.nullable sets → IsCostByCosts g said.costs cost → IsFaultlessBy g (claimed_facts (judged_sets said sets) cost)
