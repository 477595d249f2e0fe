-- The costs of a grammar's own claims hold: no node costs more by them than it does.
use Rattle.std.proofs.Common.{◌≡◌, ◌<◌, ◌≤◌, ◌+◌, inl, inr, ℕ, zero, suc, Bool, true, false, true≢false, List, [], ◌∷◌, Option, Some, None, slice_get, length, refl, sym, ap, ◌∙◌, arith}
use Rattle.std.specs.Prelude.{if◌then◌else◌}
use Rattle.std.specs.List.{AllByRecursion}
use Rattle.std.specs.Option.{option_map_or}
use Rattle.std.proofs.lemmas.List.{get_or_past}
use Rattle.std.proofs.lemmas.Option.{none-some, same_Some, slice_get_cases}
use Rattle.pg_certificate.specs.declared.certificate.RuleClaim.{RuleClaim}
use Rattle.pg_predict_costs.proofs.Existing.{first_rule, step_cost_there}
use Rattle.pg_predict_costs.specs.Costs.{tries_ended_string, node_cost, AreCosts}
use Rattle.pg_predict_costs.specs.Rounds.{AreCutCosts}
use Rattle.pg_predict_costs.specs.StepCost.{IsStepCost}
use Rattle.pg_predict_costs.specs.Steps.{number_at, cut_off, steps_of_all, body_steps}
use Rattle.pg_derive.proofs.PartsFit.{IsPart, are_parts}
use Rattle.pg_grammar_form.specs.Forms.{Node, parts_of}
use Rattle.pg_grammar_form.specs.declared.form.Form.TheVariants as form
use Rattle.pg_graph.specs.Marks.{is_marked}
use Rattle.pg_sets_nullable.proofs.RankLaws.{ranked_no_cycle}
use Rattle.pg_sets_nullable.specs.Nullable.{Nullable}
use Rattle.pg_sets_nullable.specs.Parts.{up_to_unmarked}
use Rattle.pg_sets_nullable.specs.Ranks.{Chain, on_cycle}
use Rattle.pg_certificate_own.specs.Least.{AreLeast}
use Rattle.pg_sets.specs.Sets.{Sets, AreSets}
use Rattle.pg_grammar_value.specs.Grammar.{Grammar, IsGrammar}
use Rattle.pg_grammar_value.specs.declared.grammar.Rule.{Rule}
use Rattle.pg_certificate_verify.specs.Claimed.{claimed_cost}
use Rattle.pg_certificate_verify.specs.Cost.{cost_by, AreCostsBy}
use Rattle.pg_certificate_verify.specs.Holding.{CostHolds}
use Rattle.pg_certificate_laws.proofs.OwnClaims.{AreExact}

-- ---- costs of nodes by lesser costs of their parts

all_cheaper : (f h : ℕ → ℕ) (ps : List ℕ) → AllByRecursion (λ p. f p ≤ h p) ps → steps_of_all f ps ≤ steps_of_all h ps
all_cheaper f h [] less = omega arith
all_cheaper f h (p ∷ ps) less = let here = less.0 in let rest = all_cheaper f h ps less.1 in omega (arith, here, rest)

-- fewer nodes are marked
abbrev AreFewer : List Bool → List Bool → Type 0
AreFewer marks least = (p : ℕ) → is_marked marks p ≡ true → is_marked least p ≡ true

reached_cheaper : (marks least : List Bool) (f h : ℕ → ℕ) (ps : List ℕ) → AreFewer marks least → AllByRecursion (λ p. f p ≤ h p) ps
    → steps_of_all f (up_to_unmarked marks ps) ≤ steps_of_all h (up_to_unmarked least ps)
reached_cheaper marks least f h [] fewer less = omega arith
reached_cheaper marks least f h (p ∷ ps) fewer less = go (is_marked marks p) (is_marked least p) (fewer p) less.0 (reached_cheaper marks least f h ps fewer less.1)
  where
    go : (b c : Bool) → (b ≡ true → c ≡ true) → f p ≤ h p → steps_of_all f (up_to_unmarked marks ps) ≤ steps_of_all h (up_to_unmarked least ps)
        → f p + steps_of_all f (if b then up_to_unmarked marks ps else []) ≤ h p + steps_of_all h (if c then up_to_unmarked least ps else [])
    go true true sub here rest = omega (arith, here, rest)
    go true false sub here rest = absurd (true≢false (sym (sub refl)))
    go false true sub here rest = omega (arith, here)
    go false false sub here rest = omega (arith, here)

around_cheaper : (b : Bool) (c d : ℕ) → c ≤ d → (if b then 8 else 2 + c) ≤ (if b then 8 else 2 + d)
around_cheaper true c d less = omega arith
around_cheaper false c d less = omega (arith, less)

node_cheaper : (g : Grammar) (claims : List RuleClaim) (marks least : List Bool) (f h : ℕ → ℕ) (n : Node) → AreFewer marks least → AllByRecursion (λ q. f q ≤ h q) (parts_of n)
    → ((r : ℕ) → claimed_cost claims r ≤ body_steps g.rules h r) → cost_by g claims marks f n ≤ node_cost g least h n
node_cheaper g claims marks least f h (form.Leaf leaf) fewer less claimed = omega arith
node_cheaper g claims marks least f h (form.Seq parts) fewer less claimed = let rest = reached_cheaper marks least f h parts fewer less in omega (arith, rest)
node_cheaper g claims marks least f h (form.Choice parts) fewer less claimed = let rest = all_cheaper f h parts less in omega (arith, rest)
node_cheaper g claims marks least f h (form.Many part) fewer less claimed = let here = less.0 in omega (arith, here)
node_cheaper g claims marks least f h (form.Chain side used operand separator) fewer less claimed =
    let rest = reached_cheaper marks least f h (operand ∷ separator ∷ operand ∷ []) fewer (less.0, (less.1.0, (less.0, tt))) in omega (arith, rest)
node_cheaper g claims marks least f h (form.Rule r) fewer less claimed = let here = claimed r in omega (arith, here)
node_cheaper g claims marks least f h (form.Expression builders term) fewer less claimed = let here = less.0 in omega (arith, here)
node_cheaper g claims marks least f h (form.Around around part) fewer less claimed = around_cheaper (tries_ended_string g.nodes around part) (f part) (h part) less.0

-- ---- what is claimed of rules

-- the claim of a rule has the cost of its body
least_cost : (g : Grammar) (sets : Sets) (costs : List ℕ) (k : ℕ) (rules : List Rule) (claims : List RuleClaim) → AreLeast g sets costs k rules claims
    → (r : ℕ) (rule : Rule) (claim : RuleClaim) → slice_get rules r ≡ Some rule → slice_get claims r ≡ Some claim → claim.cost ≡ number_at costs rule.body
least_cost g sets costs k [] claims least r rule claim at there = absurd cc
least_cost g sets costs k (x ∷ xs) [] least r rule claim at there = absurd least
least_cost g sets costs k (x ∷ xs) (c ∷ cs) least zero rule claim at there =
    let one : c ≡ claim = same_Some c claim there in
    let named : x ≡ rule = same_Some x rule at in
    sym (ap (λ (y : RuleClaim). y.cost) one) ∙ (ap (λ (y : RuleClaim). y.cost) least.0.2 ∙ ap (λ (y : Rule). number_at costs y.body) named)
least_cost g sets costs k (x ∷ xs) (c ∷ cs) least (suc r) rule claim at there = least_cost g sets costs (suc k) xs cs least.1 r rule claim at there

-- each rule has a rank, so that none heads itself
pub none_heads_itself : (g : Grammar) (claims : List RuleClaim) → AreExact g claims → (r : ℕ) → Chain g r r → ⊥
none_heads_itself g claims all r chain =
    let first = (first_rule chain).1 in
    let claim = all.claimed r first.rule first.is_rule in
    ranked_no_cycle (all.rules r claim.0 claim.1).so.rank (on_cycle chain)

-- the grammar has a step cost
pub cost_there : (g : Grammar) → IsGrammar g → (sets : Sets) → AreSets g sets → (claims : List RuleClaim) → AreExact g claims → (k : ℕ) × IsStepCost g sets.nullable k
cost_there g grammar sets sets_are claims all = step_cost_there g grammar sets sets_are (none_heads_itself g claims all)

module _ (g : Grammar) (grammar : IsGrammar g) (sets : Sets) (sets_are : AreSets g sets) (costs : List ℕ) (cut : AreCutCosts g sets.nullable costs) (claims : List RuleClaim)
    (least : AreLeast g sets costs 0 g.rules claims) (all : AreExact g claims) (whole : List ℕ) (whole_are : AreCosts g sets.nullable whole) where
  claimed_cut : (r : ℕ) (rule : Rule) (claim : RuleClaim) → slice_get g.rules r ≡ Some rule → slice_get claims r ≡ Some claim → claim.cost ≡ cut_off (number_at whole rule.body)
  claimed_cut r rule claim at there = least_cost g sets costs 0 g.rules claims least r rule claim at there ∙ cut whole whole_are rule.body

  claimed_cheap : (r : ℕ) (found : Option RuleClaim) → slice_get claims r ≡ found → option_map_or (λ (claim : RuleClaim). claim.cost) found 0 ≤ body_steps g.rules (number_at whole) r
  claimed_cheap r None there = omega arith
  claimed_cheap r (Some claim) there =
      let is = all.rules r claim there in
      let same = claimed_cut r is.rule claim is.there there in
      let body : body_steps g.rules (number_at whole) r ≡ number_at whole is.rule.body = ap (λ found. option_map_or (λ (rule : Rule). number_at whole rule.body) found 0) is.there in
      omega (arith, same, body)

  module _ (marks : List Bool) (so : (p : ℕ) → is_marked marks p ≡ true → Nullable g p) (numbers : List ℕ) (by : AreCostsBy g claims marks numbers) where
    fewer : AreFewer marks sets.nullable
    fewer p is = (sets_are.nullable p).1 (so p is)

    -- no node behind this one costs more
    abbrev CheapBehind : ℕ → Type 0
    CheapBehind p = (q : ℕ) → p < q → number_at numbers q ≤ number_at whole q

    parts_cheap : (p : ℕ) (ps : List ℕ) → CheapBehind p → AllByRecursion (IsPart g p) ps → AllByRecursion (λ q. number_at numbers q ≤ number_at whole q) ps
    parts_cheap p [] behind after = tt
    parts_cheap p (q ∷ qs) behind after = (behind q after.0.after, parts_cheap p qs behind after.1)

    node_cheap : (p : ℕ) → CheapBehind p → (found : Option Node) → slice_get g.nodes p ≡ found → number_at numbers p ≤ cut_off (number_at whole p)
    node_cheap p behind None at =
        elim ((slice_get_cases g.nodes p).1) [
          | inl found ↦ absurd (none-some found.0 (sym at ∙ found.2))
          | inr past ↦ let outside = past.0 in let long = by.long in let nothing = get_or_past numbers p 0 (omega arith) in omega arith
        ]
    node_cheap p behind (Some n) at =
        let is = by.each p n at in
        let owed = whole_are.each p n at in
        let less = node_cheaper g claims marks sets.nullable (number_at numbers) (number_at whole) n fewer (parts_cheap p (parts_of n) behind (are_parts g grammar p n at))
        (λ r. claimed_cheap r (slice_get claims r) refl) in
        omega (arith, is, owed, less)

    cheap_from : (room p : ℕ) → length g.nodes ≤ p + room → number_at numbers p ≤ cut_off (number_at whole p)
    cheap_from zero p small = let long = by.long in let nothing = get_or_past numbers p 0 (omega (arith, long, small)) in omega (arith, nothing)
    cheap_from (suc room) p small =
        node_cheap p (λ q after. (let cheap = cheap_from room q (omega (arith, after, small)) in omega (arith, cheap))) (slice_get g.nodes p) refl

    pub cheap : (p : ℕ) → number_at numbers p ≤ cut_off (number_at whole p)
    cheap p = cheap_from (length g.nodes) p (omega arith)

    pub costs_hold : CostHolds g claims numbers
    costs_hold r rule at =
        let claim = all.claimed r rule at in
        let same = claimed_cut r rule claim.0 at claim.1 in
        let low = cheap rule.body in
        let claimed : claimed_cost claims r ≡ claim.0.cost = ap (λ found. option_map_or (λ (one : RuleClaim). one.cost) found 0) claim.1 in
        omega (arith, same, low, claimed)
