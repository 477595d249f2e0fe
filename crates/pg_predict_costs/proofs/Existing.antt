-- A grammar in which no rule heads itself has a step cost: costs, since levels fall to what is reached, and sizes, since parts
-- stand after their node.
use Rattle.std.proofs.Common.{◌≡◌, ◌<◌, ◌+◌, ◌-◌, ◌*◌, ℕ, suc, List, [], ◌∷◌, Bool, true, false, Option, Some, None, refl, ap, ◌∙◌, length, slice_get, arith}
use Rattle.std.specs.Prelude.{if◌then◌else◌}
use Rattle.std.specs.Option.{option_map_or}
use Rattle.std.specs.List.{AllByRecursion}
use Rattle.std.proofs.lemmas.Option.{slice_get_within}
use Rattle.pg_grammar_form.proofs.Each.{all-get}
use Rattle.pg_grammar_form.specs.Forms.{Node, parts_of}
use Rattle.pg_grammar_form.specs.declared.form.Form.TheVariants as form
use Rattle.pg_grammar_form.specs.declared.form.Around.{Around}
use Rattle.pg_grammar_value.specs.Grammar.{Grammar, IsGrammar}
use Rattle.pg_grammar_value.specs.declared.grammar.Rule as declared
use Rattle.pg_grammar_value.proofs.Numbers.{parts_are_after, bodies_are_nodes}
use Rattle.pg_graph.specs.Marks.{is_marked}
use Rattle.pg_sets_nullable.specs.Nullable.{Nullable}
use Rattle.pg_sets_nullable.specs.Parts.{up_to_unmarked}
use Rattle.pg_sets_nullable.specs.Ranks.{Chain, head, heads, on_cycle}
use Rattle.pg_sets_nullable.specs.Reached as way
use Rattle.pg_sets_nullable.specs.Reached.{ReachedIn, ReachedPart, Heads}
use Rattle.pg_sets.specs.Sets.{Sets, AreSets}
use Rattle.pg_predict_costs.specs.FoundCost.{HaveRanks}
use Rattle.pg_predict_costs.specs.Levels.{level_of}
use Rattle.pg_predict_costs.specs.Steps.{number_at, steps_of_all, body_steps, row_steps}
use Rattle.pg_predict_costs.specs.Costs.{node_cost, around_cost, tries_ended_string}
use Rattle.pg_predict_costs.specs.StepCost.{own_steps, IsStepCost, grammar_levels, greatest_size}
use Rattle.pg_predict_costs.proofs.Fixed.{AreMade, are_made}
use Rattle.pg_predict_costs.proofs.Levels.{part_falls, rule_falls}

-- ---- what is reached is a part

-- a part that is reached is one of the parts
pub reached_is : (P : ℕ → Type 0) {g : Grammar} {parts : List ℕ} {q : ℕ} → AllByRecursion P parts → ReachedIn g parts q → P q
reached_is P h way.first = h.0
reached_is P h (way.later n r) = reached_is P h.1 r

part_is : (P : ℕ → Type 0) {g : Grammar} {n : Node} {q : ℕ} → AllByRecursion P (parts_of n) → ReachedPart g n q → P q
part_is P h (way.seq r) = reached_is P h r
part_is P h (way.choice {parts = parts} k {part = q} at) = all-get P parts k q h at
part_is P h (way.chain r) = reached_is P (h.0, (h.1.0, (h.0, tt))) r
part_is P h way.many = h.0
part_is P h way.expression = h.0
part_is P h way.around = h.0

-- ---- no rule heads itself where each has a rank

-- the rule that a chain leads to first
pub first_rule : {g : Grammar} {a b : ℕ} → Chain g a b → (c : ℕ) × Heads g a c
first_rule (head {b = b} h) = (b, h)
first_rule (heads {b = b} h rest) = (b, h)

pub acyclic : (g : Grammar) (sets : Sets) → AreSets g sets → HaveRanks g sets.ranks → (r : ℕ) → Chain g r r → ⊥
acyclic g sets are ranked r chain =
    let first = (first_rule chain).1 in
    let below = slice_get_within g.rules r first.rule first.is_rule in
    ranked r below ((are.ranks.cyclic r below).1 (on_cycle chain))

module _ (g : Grammar) (grammar : IsGrammar g) (sets : Sets) (are : AreSets g sets) (no_cycle : (r : ℕ) → Chain g r r → ⊥) where
  abbrev nullable : List Bool
  nullable = sets.nullable

  abbrev level : ℕ → ℕ
  level = level_of g sets

  -- ---- costs

  module _ (f h : ℕ → ℕ) where
    same_reached : (qs : List ℕ) → ((q : ℕ) → ReachedIn g qs q → f q ≡ h q) → steps_of_all f (up_to_unmarked nullable qs) ≡ steps_of_all h (up_to_unmarked nullable qs)
    same_reached [] same = refl
    same_reached (q ∷ qs) same = go (is_marked nullable q) refl (same q way.first) (λ null. same_reached qs (λ r is. same r (way.later null is)))
      where
        go : (b : Bool) → is_marked nullable q ≡ b → f q ≡ h q → (Nullable g q → steps_of_all f (up_to_unmarked nullable qs) ≡ steps_of_all h (up_to_unmarked nullable qs)) →
            f q + steps_of_all f (if b then up_to_unmarked nullable qs else []) ≡ h q + steps_of_all h (if b then up_to_unmarked nullable qs else [])
        go true e first rest = let more = rest ((are.nullable q).0 e) in omega arith
        go false e first rest = omega arith

    same_alternatives : (qs : List ℕ) → ((k q : ℕ) → slice_get qs k ≡ Some q → f q ≡ h q) → steps_of_all f qs ≡ steps_of_all h qs
    same_alternatives [] same = refl
    same_alternatives (q ∷ qs) same =
        let first = same 0 q refl in
        let rest = same_alternatives qs (λ k r at. same (suc k) r at) in
        omega arith

    same_around : (around : Around) (q : ℕ) → f q ≡ h q → around_cost g f around q ≡ around_cost g h around q
    same_around around q e = go (tries_ended_string g.nodes around q)
      where
        go : (b : Bool) → (if b then 8 else 2 + f q) ≡ (if b then 8 else 2 + h q)
        go true = refl
        go false = omega arith

    same_body : (r : ℕ) → ((named : declared.Rule) → slice_get g.rules r ≡ Some named → f named.body ≡ h named.body) → body_steps g.rules f r ≡ body_steps g.rules h r
    same_body r same = go (slice_get g.rules r) refl
      where
        go : (found : Option declared.Rule) → slice_get g.rules r ≡ found → option_map_or (λ (rule : declared.Rule). f rule.body) found 0 ≡ option_map_or (λ (rule : declared.Rule). h rule.body) found 0
        go None e = refl
        go (Some named) e = same named e

    -- a cost is made of those of what is reached, and of bodies
    same_cost : (n : Node) → ((q : ℕ) → ReachedPart g n q → f q ≡ h q) →
        ((r : ℕ) (named : declared.Rule) → n ≡ form.Rule r → slice_get g.rules r ≡ Some named → f named.body ≡ h named.body) →
        node_cost g nullable f n ≡ node_cost g nullable h n
    same_cost (form.Leaf leaf) parts bodies = refl
    same_cost (form.Seq qs) parts bodies = let rest = same_reached qs (λ q is. parts q (way.seq is)) in omega arith
    same_cost (form.Choice qs) parts bodies = let rest = same_alternatives qs (λ k q at. parts q (way.choice k at)) in omega arith
    same_cost (form.Many q) parts bodies = let rest = parts q way.many in omega arith
    same_cost (form.Chain side used q r) parts bodies = let rest = same_reached (q ∷ r ∷ q ∷ []) (λ x is. parts x (way.chain is)) in omega arith
    same_cost (form.Rule r) parts bodies = let rest = same_body r (λ named at. bodies r named refl at) in omega arith
    same_cost (form.Expression builders q) parts bodies = let rest = parts q way.expression in omega arith
    same_cost (form.Around around q) parts bodies = same_around around q (parts q way.around)

  body_inside : (r : ℕ) (named : declared.Rule) → slice_get g.rules r ≡ Some named → named.body < length g.nodes
  body_inside r named at = all-get (λ (one : declared.Rule). one.body < length g.nodes) g.rules r named (bodies_are_nodes g.rules g.nodes grammar.bodies) at

  costs : (numbers : List ℕ) × AreMade g.nodes level (node_cost g nullable) numbers
  costs =
      are_made g.nodes level (node_cost g nullable)
      (λ p n e f h lower.
      same_cost f h n
      (λ q is.
      (let part = part_is (λ x. (p < x) × (x < length g.nodes)) (parts_are_after g.nodes p n grammar.preorder e) is in
      lower q (part_falls g sets are no_cycle p q n e is part.0 part.1) part.1))
      (λ r named is at. lower named.body (rule_falls g sets are no_cycle p r named (e ∙ ap Some is) at) (body_inside r named at)))

  -- ---- sizes

  abbrev size_of : (ℕ → ℕ) → (ℕ → ℕ) → Node → ℕ
  size_of cost size n = own_steps g cost n + steps_of_all size (parts_of n)

  -- nodes that stand later are nearer to the end
  abbrev to_end : ℕ → ℕ
  to_end p = length g.nodes - p

  same_parts : (p : ℕ) (f h : ℕ → ℕ) → ((q : ℕ) → to_end q < to_end p → q < length g.nodes → f q ≡ h q) → (qs : List ℕ) → AllByRecursion (λ q. (p < q) × (q < length g.nodes)) qs → steps_of_all f qs ≡ steps_of_all h qs
  same_parts p f h lower [] after = refl
  same_parts p f h lower (q ∷ qs) after =
      let beyond = after.0.0 in
      let inside = after.0.1 in
      let first = lower q (omega arith) inside in
      let rest = same_parts p f h lower qs after.1 in
      omega arith

  sizes : (cost : ℕ → ℕ) → (numbers : List ℕ) × AreMade g.nodes to_end (size_of cost) numbers
  sizes cost =
      are_made g.nodes to_end (size_of cost)
      (λ p n e f h lower. (let rest = same_parts p f h lower (parts_of n) (parts_are_after g.nodes p n grammar.preorder e) in omega arith))

  pub step_cost_there : (k : ℕ) × IsStepCost g nullable k
  step_cost_there =
      let cost = costs in
      let size = sizes (number_at cost.0) in (
        grammar_levels g * greatest_size (number_at size.0) (row_steps g) g.rules,
        record {
          costs = cost.0;
          are_costs = record { long = cost.1.long; each = cost.1.each };
          sizes = size.0;
          are_sizes = record { long = size.1.long; each = size.1.each };
          is = refl;
        },
      )
