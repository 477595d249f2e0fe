-- Sets that agree with facts about nodes: the least ones, and claimed ones.
use Rattle.std.proofs.Common.{◌≡◌, ◌↔◌, ◌∙◌, ℕ, Bool, true, List, [], Option, Some, sym, ap, subst}
use Rattle.std.proofs.lemmas.Bool.{false≢true}
use Rattle.pg_graph.specs.Marks.{is_marked}
use Rattle.pg_sets.specs.Sets.{Sets, AreSets}
use Rattle.pg_grammar_value.specs.Grammar.{Grammar}
use Rattle.pg_predict_costs.specs.FoundCost.{IsFoundCost}
use Rattle.pg_predict_conditions.specs.Conditions.{least_facts, claimed_facts}
use Rattle.pg_predict_conditions.specs.Judged.{Facts, is_costly}
use Rattle.pg_predict_conditions.specs.Shown.{AreWellFormed, SetsSay, MarksRecursive, IsOver, AreBySets, AreFacts, AreLeastFacts}
use Rattle.pg_predict_conditions.proofs.StepCosts.{least_costly, claimed_costly}

-- one equivalence behind another
pub both : {A B C : Type 0} → A ↔ B → B ↔ C → A ↔ C
both f h = (λ a. h.0 (f.0 a), λ c. f.1 (h.1 c))

-- ---- the least sets

pub least_formed : (g : Grammar) (sets : Sets) → AreSets g sets → AreWellFormed g sets
least_formed g sets are =
    record { ordered = are.start_sets.ordered; listed = are.start_sets.listed; first_limit = are.start_sets.first_limit; follow_limit = are.start_sets.follow_limit }

pub least_are : (g : Grammar) (sets : Sets) (recursive : List Bool) (cost : Option ℕ) (facts : Facts) → AreSets g sets → MarksRecursive g (least_facts g) recursive
    → IsFoundCost g sets.nullable cost → AreBySets g sets recursive cost facts → AreLeastFacts g facts
least_are g sets recursive cost facts are marks told by =
    let own : AreSets g facts.sets = subst (AreSets g) (sym by.same_sets) are in
    let found : IsFoundCost g facts.sets.nullable facts.cost =
    subst (IsFoundCost g facts.sets.nullable) (sym by.same_cost) (subst (λ (s : Sets). IsFoundCost g s.nullable cost) (sym by.same_sets) told) in
    record {
      least =
          record {
            sets = record { formed = least_formed g facts.sets own; nullable = own.nullable; first = own.start_sets.first; follow = own.start_sets.follow };
            recursive = subst (MarksRecursive g (least_facts g)) (sym by.same_marks) marks;
            worked_out = by.worked_out;
            costly = λ p. both (by.worked_out.over p) (least_costly g facts.sets facts.cost own found p);
          };
      sets = own;
      cost = found;
    }

-- ---- claimed sets

itself : {A : Type 0} → A ↔ A
itself = (λ a. a, λ a. a)

pub claimed_are : (g : Grammar) (sets : Sets) (recursive : List Bool) (cost : ℕ) (facts : Facts) → AreWellFormed g sets → recursive ≡ [] → AreBySets g sets recursive (Some cost) facts
    → AreFacts g (claimed_facts sets cost) facts
claimed_are g sets recursive cost facts formed none by = record {
  sets =
      subst (SetsSay g (claimed_facts sets cost)) (sym by.same_sets)
      (record { formed = formed; nullable = λ p. itself; first = λ p start below. itself; follow = λ p start below. itself });
  recursive = λ p. (λ marked. absurd (false≢true (sym (ap (λ (marks : List Bool). is_marked marks p) (by.same_marks ∙ none)) ∙ marked)), λ is. absurd is.heads_itself);
  worked_out = by.worked_out;
  costly = λ p. both (subst (λ (found : Option ℕ). (is_costly facts p ≡ true) ↔ IsOver g found p) by.same_cost (by.worked_out.over p)) (claimed_costly g sets cost p);
}
