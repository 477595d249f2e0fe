use Rattle.std.proofs.Common.{◌≡◌, ◌↔◌, ◌<◌, ℕ, true, false, nat_eq, List, slice_index_or, Option, Some, slice_get, length, sym, ap, subst, ◌∙◌, arith}
use Rattle.std.proofs.lemmas.Option.{slice_get-get_or}
use Rattle.pg_grammar_value.specs.declared.grammar.Rule as declared
use Rattle.pg_predict_conditions.specs.Shown.{IsOver}
use Rattle.pg_predict_conditions.proofs.StepCosts.{none_over, few_over, start_over}
use Rattle.pg_predict_conditions.proofs.costly.costly_body.Goals as goal

pub returns : goal.returns
returns c =
    let g = c.args.grammar.now in
    let over = c.if-cost-le-COST_LIMIT.false in
    let start = c.start_rule.ensures.start in
    let below = c.start_rule.ensures.rule in
    let number = c.index-start.ensures in
    let inside : c.index-start.result < length g.rules = omega arith in
    let body : declared.Rule = slice_index_or g.rules c.index-start.result c.index-rules-start.result in
    let there : slice_get g.rules c.index-start.result ≡ Some body = slice_get-get_or g.rules c.index-start.result c.index-rules-start.result inside in
    subst (λ (found : Option ℕ). (p : ℕ) → (nat_eq (slice_index_or c.rules.result.now c.index-start.result c.index-rules-start.result).body p ≡ true) ↔ IsOver g found p) (sym c.in-Some.is)
    (subst (λ (rules : List declared.Rule). (p : ℕ) → (nat_eq (slice_index_or rules c.index-start.result c.index-rules-start.result).body p ≡ true) ↔ IsOver g (Some c.in-Some.cost) p)
    (sym c.rules.ensures.all) (start_over g c.in-Some.cost body (omega arith) (ap (slice_get g.rules) (sym (number ∙ start)) ∙ there)))

pub returns-in_default : goal.returns-in_default
returns-in_default c =
    subst (λ (found : Option ℕ). (p : ℕ) → (false ≡ true) ↔ IsOver c.args.grammar.now found p) (sym c.in_default.is) (none_over c.args.grammar.now)

pub returns-then-cost-le-COST_LIMIT : goal.returns-then-cost-le-COST_LIMIT
returns-then-cost-le-COST_LIMIT c =
    subst (λ (found : Option ℕ). (p : ℕ) → (false ≡ true) ↔ IsOver c.args.grammar.now found p) (sym c.in-Some.is)
    (few_over c.args.grammar.now c.in-Some.cost c.if-cost-le-COST_LIMIT.true)
