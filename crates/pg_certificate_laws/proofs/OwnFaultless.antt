-- What a grammar's own claims say is what is so, and where nothing is wrong by that, nothing is broken by the claims.
use Rattle.std.proofs.Common.{◌≡◌, ◌<◌, ℕ, Bool, List, ◌∷◌, length, refl, ◌∙◌, subst, arith}
use Rattle.std.specs.List.{AllByRecursion}
use Rattle.std.proofs.lemmas.Option.{slice_get_within}
use Rattle.pg_graph_bits.specs.Numbers.{set_at}
use Rattle.pg_certificate.specs.Fitting.{FitsClaim}
use Rattle.pg_certificate.specs.declared.certificate.RuleClaim.{RuleClaim}
use Rattle.pg_predict_costs.proofs.Sizing.{cut_step_cost}
use Rattle.pg_predict_costs.specs.FoundCost.{IsCostByCosts}
use Rattle.pg_predict_costs.specs.Rounds.{AreCutCosts}
use Rattle.pg_predict_costs.specs.StepCost.{IsStepCost}
use Rattle.pg_predict_costs.specs.Steps.{cut_off}
use Rattle.pg_certificate_own.proofs.Origin.{least_fits}
use Rattle.pg_sets_own.specs.declared.listed.ListedStart.{ListedStart}
use Rattle.pg_predict.specs.Conditions.{HasStepCost, claimed_facts, least_facts, cost_limit}
use Rattle.pg_sets.specs.First.{IsFirst}
use Rattle.pg_sets.specs.First as first_by
use Rattle.pg_sets.specs.Follow.{IsFollow}
use Rattle.pg_sets.specs.Sets.{HasStart}
use Rattle.pg_start.specs.declared.kind.StartKind.{StartKind}
use Rattle.pg_grammar_value.specs.Grammar.{Grammar, IsGrammar}
use Rattle.pg_certificate_verify.proofs.Costly.{costs_enough}
use Rattle.pg_certificate_verify.specs.Judged.{Said, IsSaid}
use Rattle.pg_certificate_verify.specs.Refuted.{judged_sets}
use Rattle.pg_certificate_verify.specs.NodeSets.{HasListed, NodeSets, AreNodeSets}
use Rattle.pg_certificate_verify.specs.declared.verify_fault.Condition.TheVariants as condition
use Rattle.pg_certificate_laws.specs.Own.{AreOwnClaims, OwnClaimsBreakNothing}
use Rattle.pg_certificate_laws.proofs.OwnBack.{first_back, follow_back}
use Rattle.pg_certificate_laws.proofs.OwnClaims.{AreExact, nullable_so, marked, first_so, follow_so}
use Rattle.pg_certificate_laws.proofs.OwnCosts.{cost_there, cheap}
use Rattle.pg_certificate_laws.proofs.OwnHolds.{bodies_of, exact, own_hold}
use Rattle.pg_certificate_laws.proofs.SameFacts.{AreOne, HasAbove, SayTheSame, violates_there}
use Rattle.pg_graph.proofs.Growing.{set_below}

pub first_inside : {g : Grammar} {start : StartKind} {p : ℕ} → IsFirst g start p → p < length g.nodes
first_inside {g} (first_by.own {p} {n} at owns) = slice_get_within g.nodes p n at
first_inside {g} (first_by.part {p} {n = n} at plain reached is) = slice_get_within g.nodes p n at
first_inside {g} (first_by.rule {p} at there is) = slice_get_within g.nodes p _ at

pub fits : (g : Grammar) (claims : List RuleClaim) → IsGrammar g → AreOwnClaims g claims → AllByRecursion (FitsClaim g) claims
fits g claims grammar own = (least_fits g own.sets own.costs claims grammar (bodies_of g grammar) own.are_sets own.least).each

module _ (g : Grammar) (claims : List RuleClaim) (said : Said) (grammar : IsGrammar g) (own : AreOwnClaims g claims) (said_so : IsSaid g claims said) where
  all : AreExact g claims
  all = exact g claims grammar own

  -- ---- the step cost

  -- the costs of nodes by the claims are what they are, or the greatest number where one is above
  cut_costs : AreCutCosts g own.sets.nullable said.costs
  cut_costs costs are p =
      let low = cheap g grammar own.sets own.are_sets own.costs own.are_costs claims own.least all costs are said.nullable (nullable_so g grammar claims all said.nullable said_so.nullable)
      said.costs said_so.costs p in
      let hold = own_hold g claims said grammar own said_so in
      let high = costs_enough g claims said.nullable said.costs said_so.nullable (λ r rule at. hold r rule at condition.Nullable) said_so.costs (λ r rule at. hold r rule at condition.Cost)
      own.sets.nullable own.are_sets.nullable costs are p in
      omega (arith, low, high)

  cost_is : (cost k : ℕ) → IsCostByCosts g said.costs cost → IsStepCost g own.sets.nullable k → cost ≡ cut_off k
  cost_is cost k by is = by.is ∙ cut_step_cost g own.sets.nullable said.costs by.sizes cut_costs by.are_sizes k is

  above : (cost : ℕ) → IsCostByCosts g said.costs cost → (k : ℕ) → k ≡ cost → cost_limit < k → HasAbove (HasStepCost g)
  above cost by k same over =
      let there = cost_there g grammar own.sets own.are_sets claims all in
      let cut = cost_is cost there.0 by there.1 in
      record {
        number = there.0;
        is = record { marks = own.sets.nullable; nullable = own.are_sets.nullable; cost = there.1 };
        above = omega (arith, same, over, cut);
      }

  -- ---- the sets

  module _ (sets : NodeSets) (are : AreNodeSets g claims said.nullable sets) where
    has_start : (set : List Bool) (listed : ListedStart) → HasListed sets.starts set listed → HasStart sets.starts set listed.start
    has_start set listed h = record { number = h.number; listed = listed; member = h.member; there = h.there; same = refl }

    listed_of : (set : List Bool) (start : StartKind) (h : HasStart sets.starts set start) → HasListed sets.starts set h.listed
    listed_of set start h = record { number = h.number; there = h.there; member = h.member }

    firsts_same : (p : ℕ) → AreOne g (HasStart sets.starts (set_at sets.firsts p)) (λ start. IsFirst g start p)
    firsts_same p listed named = (there, back)
      where
        there : HasStart sets.starts (set_at sets.firsts p) listed.start → IsFirst g listed.start p
        there h =
            let low = set_below sets.firsts p h.number h.member in
            let long = are.long in
            let by = (are.first p h.listed (omega (arith, low, long))).0 (listed_of (set_at sets.firsts p) listed.start h) in
            subst (λ start. IsFirst g start p) h.same (first_so g grammar claims all said.nullable said_so.nullable by)

        back : IsFirst g listed.start p → HasStart sets.starts (set_at sets.firsts p) listed.start
        back is =
            has_start (set_at sets.firsts p) listed
            ((are.first p listed (first_inside is)).1 (first_back g grammar claims all (fits g claims grammar own) said.nullable said_so.nullable listed named is))

    follows_same : (p : ℕ) → p < length g.nodes → AreOne g (HasStart sets.starts (set_at sets.follows p)) (λ start. IsFollow g start p)
    follows_same p inside listed named = (there, back)
      where
        there : HasStart sets.starts (set_at sets.follows p) listed.start → IsFollow g listed.start p
        there h =
            let by = (are.follow p h.listed inside).0 (listed_of (set_at sets.follows p) listed.start h) in
            subst (λ start. IsFollow g start p) h.same (follow_so g grammar claims all said.nullable said_so.nullable by)

        back : IsFollow g listed.start p → HasStart sets.starts (set_at sets.follows p) listed.start
        back is =
            has_start (set_at sets.follows p) listed
            ((are.follow p listed inside).1 (follow_back g grammar claims all (fits g claims grammar own) said.nullable said_so.nullable listed named is refl))

    same_facts : (cost : ℕ) → IsCostByCosts g said.costs cost → SayTheSame g (claimed_facts (judged_sets said sets) cost) (least_facts g)
    same_facts cost by = record {
      nullable = λ p. (nullable_so g grammar claims all said.nullable said_so.nullable p, marked g grammar claims all said.nullable said_so.nullable p);
      first = firsts_same;
      follow = follows_same;
      heads_itself = λ r none. absurd none;
      cost = above cost by;
    }

pub own_break_nothing : OwnClaimsBreakNothing
own_break_nothing g claims said sets cost grammar faultless own said_so are by p kind broken =
    faultless p kind (violates_there g (claimed_facts (judged_sets said sets) cost) (least_facts g) (same_facts g claims said grammar own said_so sets are cost by) broken)
