-- A grammar that was checked has a certificate, and what is written is its own.
use Rattle.std.proofs.Common.{◌≡◌, ◌<◌, ℕ, Option, None, List, Vec, Global, length, sym, subst}
use Rattle.std.specs.Prelude.{MatchOption}
use Rattle.pg_certificate.specs.Certificates.{IsCertificateText}
use Rattle.pg_certificate.specs.Fitting.{FitsGrammar}
use Rattle.pg_certificate.specs.Values.{certificate_json}
use Rattle.pg_certificate.specs.declared.certificate.RuleClaim.{RuleClaim}
use Rattle.pg_predict_costs.specs.Rounds.{AreCutCosts}
use Rattle.pg_predict_costs.specs.StepCost.{IsStepCost}
use Rattle.pg_predict_costs.proofs.Cycles.{no_step_cost}
use Rattle.pg_sets_nullable.specs.Ranks.{rank_at}
use Rattle.pg_certificate_own.specs.Least.{AreLeast}
use Rattle.pg_certificate_own.specs.Own.{IsOwnCertificate}
use Rattle.pg_certificate_own.proofs.Origin.{least_fits}
use Rattle.pg_predict.specs.Checked.{GrammarWithSets, IsChecked}
use Rattle.pg_sets.specs.Sets.{Sets, AreSets}
use Rattle.pg_grammar_value.specs.Follows.{BodiesAreNodes}
use Rattle.pg_grammar_value.specs.Grammar.{Grammar, IsGrammar}

-- it has a step cost
pub costs_there : (checked : GrammarWithSets) (g : Grammar) (sets : Sets) (found : Option (Vec ℕ Global)) → IsChecked checked → g ≡ checked.grammar → sets ≡ checked.sets
    → MatchOption found ((k : ℕ) → IsStepCost g sets.nullable k → ⊥) (λ costs. AreCutCosts g sets.nullable costs.items) → found ≡ None → ⊥
costs_there checked g sets found is same same_sets costs nothing =
    let none = subst (λ o. MatchOption o ((k : ℕ) → IsStepCost g sets.nullable k → ⊥) (λ costs. AreCutCosts g sets.nullable costs.items)) nothing costs in
    let cost = subst (λ h. IsStepCost h sets.nullable checked.cost) (sym same) (subst (λ (all : Sets). IsStepCost checked.grammar all.nullable checked.cost) (sym same_sets) is.cost) in
    none checked.cost cost

-- where there is one, each rule has a rank
pub ranks_there : (g : Grammar) (sets : Sets) (costs : List ℕ) (found : Option (List RuleClaim)) → AreSets g sets → (k : ℕ) × IsStepCost g sets.nullable k
    → MatchOption found ((rule : ℕ) × (rule < length g.rules) × (rank_at sets.ranks rule ≡ None)) (λ claims. AreLeast g sets costs 0 g.rules claims) → found ≡ None → ⊥
ranks_there g sets costs found are cost made nothing =
    let none = subst (λ o. MatchOption o ((rule : ℕ) × (rule < length g.rules) × (rank_at sets.ranks rule ≡ None)) (λ claims. AreLeast g sets costs 0 g.rules claims)) nothing made in
    no_step_cost g sets none.0 are none.1 none.2 cost.0 cost.1

pub own_text : (g : Grammar) (sets : Sets) (costs : List ℕ) (claims : List RuleClaim) (text : List ℕ) → IsGrammar g → BodiesAreNodes (length g.nodes) g.rules → AreSets g sets
    → AreCutCosts g sets.nullable costs → AreLeast g sets costs 0 g.rules claims → text ≡ certificate_json g claims
    → (FitsGrammar g claims → IsCertificateText g text claims) → IsOwnCertificate g text
own_text g sets costs claims text grammar bodies are cut least is again =
    record {
      sets = sets;
      are_sets = are;
      costs = costs;
      are_costs = cut;
      claims = claims;
      least = least;
      is = is;
      again = again (least_fits g sets costs claims grammar bodies are least);
    }
