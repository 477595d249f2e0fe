-- A step cost depends only on which nodes are marked as nullable.
use Rattle.std.proofs.Common.{◌≡◌, ℕ, ◌+◌, Bool, List, [], ◌∷◌, refl, ap, ◌∙◌}
use Rattle.std.specs.Prelude.{if◌then◌else◌}
use Rattle.pg_grammar_form.specs.Forms.{Node}
use Rattle.pg_grammar_form.specs.declared.form.Form.TheVariants as form
use Rattle.pg_graph.specs.Marks.{is_marked}
use Rattle.pg_sets_nullable.specs.Parts.{up_to_unmarked}
use Rattle.pg_grammar_value.specs.Grammar.{Grammar}
use Rattle.pg_predict_costs.specs.Steps.{number_at, steps_of_all}
use Rattle.pg_predict_costs.specs.Costs.{node_cost}
use Rattle.pg_predict_costs.specs.StepCost.{IsStepCost}

module _ (one other : List Bool) (same : (p : ℕ) → is_marked one p ≡ is_marked other p) where
  same_parts : (ps : List ℕ) → up_to_unmarked one ps ≡ up_to_unmarked other ps
  same_parts [] = refl
  same_parts (p ∷ ps) =
      ap (λ (b : Bool). p ∷ (if b then up_to_unmarked one ps else [])) (same p)
      ∙ ap (λ (qs : List ℕ). p ∷ (if is_marked other p then qs else [])) (same_parts ps)

  same_cost : (g : Grammar) (f : ℕ → ℕ) (n : Node) → node_cost g one f n ≡ node_cost g other f n
  same_cost g f (form.Leaf leaf) = refl
  same_cost g f (form.Seq parts) = ap (λ ps. 2 + steps_of_all f ps) (same_parts parts)
  same_cost g f (form.Choice parts) = refl
  same_cost g f (form.Many part) = refl
  same_cost g f (form.Chain side used operand separator) = ap (λ ps. 2 + steps_of_all f ps) (same_parts (operand ∷ separator ∷ operand ∷ []))
  same_cost g f (form.Rule rule) = refl
  same_cost g f (form.Expression builders term) = refl
  same_cost g f (form.Around around part) = refl

  pub same_step_cost : (g : Grammar) (k : ℕ) → IsStepCost g one k → IsStepCost g other k
  same_step_cost g k is = record {
    costs = is.costs;
    are_costs = record {
      long = is.are_costs.long;
      each = λ p n at. is.are_costs.each p n at ∙ same_cost g (number_at is.costs) n;
    };
    sizes = is.sizes;
    are_sizes = is.are_sizes;
    is = is.is;
  }
