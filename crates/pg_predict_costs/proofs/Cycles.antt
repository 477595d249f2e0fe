-- Where a rule heads itself nothing is the cost of its body, which would be above itself.
use Rattle.std.proofs.Common.{◌≡◌, ℕ, zero, suc, ◌+◌, ◌<◌, ◌≤◌, Bool, true, false, not, List, [], ◌∷◌, Option, Some, None, slice_get, length, refl, sym, ap, subst, arith}
use Rattle.std.specs.Prelude.{if◌then◌else◌}
use Rattle.std.specs.Option.{option_map_or, is_some}
use Rattle.std.proofs.lemmas.Bool.{and_parts}
use Rattle.std.proofs.lemmas.Option.{same_Some}
use Rattle.pg_grammar_form.specs.Contents.{is_try}
use Rattle.pg_grammar_form.specs.Forms.{Node}
use Rattle.pg_grammar_form.specs.declared.form.Around.{Around}
use Rattle.pg_grammar_form.specs.declared.form.Form.TheVariants as form
use Rattle.pg_grammar_form.specs.declared.form.Leaf.TheVariants as leaf
use Rattle.pg_graph.specs.Marks.{is_marked}
use Rattle.pg_sets_nullable.specs.Nullable.{Nullable}
use Rattle.pg_sets_nullable.specs.Parts.{up_to_unmarked}
use Rattle.pg_sets_nullable.specs.Ranks.{Chain, head, heads, ReachesCycle, on_cycle, leads_to, rank_at}
use Rattle.pg_sets_nullable.specs.Reached as way
use Rattle.pg_sets_nullable.specs.Reached.{ReachedIn, ReachedPart, ReachesUse, Heads}
use Rattle.pg_sets.specs.Sets.{Sets, AreSets}
use Rattle.pg_grammar_value.specs.Grammar.{Grammar}
use Rattle.pg_predict_costs.specs.Steps.{number_at, steps_of_all, body_steps}
use Rattle.pg_predict_costs.specs.Costs.{is_string, is_not_followed_by, is_at, is_ended_string, tries_ended_string, node_cost, AreCosts}
use Rattle.pg_predict_costs.specs.StepCost.{IsStepCost}

-- each nullable node is marked
abbrev AreMarked : Grammar → List Bool → Type 0
AreMarked g nullable = (p : ℕ) → Nullable g p → is_marked nullable p ≡ true

-- ---- sums

member_below : (f : ℕ → ℕ) (ps : List ℕ) (k q : ℕ) → slice_get ps k ≡ Some q → f q ≤ steps_of_all f ps
member_below f [] zero q at = absurd cc
member_below f [] (suc k) q at = absurd cc
member_below f (p ∷ ps) zero q at = let same = same_Some p q at in subst (λ x. f x ≤ f p + steps_of_all f ps) same (omega arith)
member_below f (p ∷ ps) (suc k) q at = let rest = member_below f ps k q at in omega arith

reached_below : {g : Grammar} (nullable : List Bool) (f : ℕ → ℕ) {ps : List ℕ} {q : ℕ} → AreMarked g nullable → ReachedIn g ps q
    → f q ≤ steps_of_all f (up_to_unmarked nullable ps)
reached_below nullable f marked way.first = omega arith
reached_below nullable f marked (way.later {part = p} {reached = q} {parts = ps} is rest) =
    let below = reached_below nullable f marked rest in
    subst (λ b. f q ≤ f p + steps_of_all f (if b then up_to_unmarked nullable ps else [])) (sym (marked p is)) (omega arith)

fewer : (nullable : List Bool) (f : ℕ → ℕ) (ps : List ℕ) → steps_of_all f (up_to_unmarked nullable ps) ≤ steps_of_all f ps
fewer nullable f [] = omega arith
fewer nullable f (p ∷ ps) = let rest = fewer nullable f ps in go (is_marked nullable p) rest
  where
    go : (b : Bool) → steps_of_all f (up_to_unmarked nullable ps) ≤ steps_of_all f ps
        → f p + steps_of_all f (if b then up_to_unmarked nullable ps else []) ≤ f p + steps_of_all f ps
    go true rest = omega arith
    go false rest = omega arith

-- ---- the lexeme of more than one node

string_cost : (g : Grammar) (nullable : List Bool) (costs : List ℕ) (p : ℕ) → AreCosts g nullable costs → is_at is_string g.nodes p ≡ true → number_at costs p ≡ 2
string_cost g nullable costs p are e = go (slice_get g.nodes p) refl e
  where
    go : (found : Option Node) → slice_get g.nodes p ≡ found → option_map_or is_string found false ≡ true → number_at costs p ≡ 2
    go (Some (form.Leaf (leaf.String text))) at h = are.each p (form.Leaf (leaf.String text)) at
    go _ at h = absurd cc

ending_cost : (g : Grammar) (nullable : List Bool) (costs : List ℕ) (p : ℕ) → AreCosts g nullable costs → is_at is_not_followed_by g.nodes p ≡ true → number_at costs p ≡ 2
ending_cost g nullable costs p are e = go (slice_get g.nodes p) refl e
  where
    go : (found : Option Node) → slice_get g.nodes p ≡ found → option_map_or is_not_followed_by found false ≡ true → number_at costs p ≡ 2
    go (Some (form.Leaf (leaf.NotFollowedBy class))) at h = are.each p (form.Leaf (leaf.NotFollowedBy class)) at
    go _ at h = absurd cc

lexeme_below : (g : Grammar) (nullable : List Bool) (costs : List ℕ) (p : ℕ) → AreCosts g nullable costs → is_at (is_ended_string g.nodes) g.nodes p ≡ true → number_at costs p < 8
lexeme_below g nullable costs p are e = go (slice_get g.nodes p) refl e
  where
    go : (found : Option Node) → slice_get g.nodes p ≡ found → option_map_or (is_ended_string g.nodes) found false ≡ true → number_at costs p < 8
    go (Some (form.Seq (a ∷ b ∷ []))) at h =
        let both = and_parts (is_at is_string g.nodes a) (is_at is_not_followed_by g.nodes b) h in
        let first = string_cost g nullable costs a are both.0 in
        let second = ending_cost g nullable costs b are both.1 in
        let whole = are.each p (form.Seq (a ∷ b ∷ [])) at in
        let most = fewer nullable (number_at costs) (a ∷ b ∷ []) in
        omega arith
    go _ at h = absurd cc

-- ---- what is reached costs less

around_above : (g : Grammar) (nullable : List Bool) (costs : List ℕ) (around : Around) (part : ℕ) → AreCosts g nullable costs
    → number_at costs part < node_cost g nullable (number_at costs) (form.Around around part)
around_above g nullable costs around part are = go (tries_ended_string g.nodes around part) refl
  where
    go : (b : Bool) → tries_ended_string g.nodes around part ≡ b → number_at costs part < (if b then 8 else 2 + number_at costs part)
    go true is = lexeme_below g nullable costs part are (and_parts (is_try around) (is_at (is_ended_string g.nodes) g.nodes part) is).1
    go false is = omega arith

part_below : {g : Grammar} (nullable : List Bool) (costs : List ℕ) {n : Node} {q : ℕ} → AreMarked g nullable → AreCosts g nullable costs → ReachedPart g n q
    → number_at costs q < node_cost g nullable (number_at costs) n
part_below nullable costs marked are (way.seq reached) = let below = reached_below nullable (number_at costs) marked reached in omega arith
part_below nullable costs marked are (way.choice {parts = parts} k {part = q} at) = let below = member_below (number_at costs) parts k q at in omega arith
part_below nullable costs marked are (way.chain reached) = let below = reached_below nullable (number_at costs) marked reached in omega arith
part_below nullable costs marked are way.many = omega arith
part_below nullable costs marked are way.expression = omega arith
part_below {g = g} nullable costs marked are (way.around {around = around} {part = part}) = around_above g nullable costs around part are

use_below : {g : Grammar} (nullable : List Bool) (costs : List ℕ) {p r : ℕ} → AreMarked g nullable → AreCosts g nullable costs → ReachesUse g p r
    → body_steps g.rules (number_at costs) r < number_at costs p
use_below nullable costs marked are (way.here {p = p} {r = r} at) = let is = are.each p (form.Rule r) at in omega arith
use_below nullable costs marked are (way.through {p = p} {n = n} at reached rest) =
    let is = are.each p n at in
    let part = part_below nullable costs marked are reached in
    let below = use_below nullable costs marked are rest in
    omega arith

-- ---- heads cost less

head_below : {g : Grammar} (nullable : List Bool) (costs : List ℕ) {a b : ℕ} → AreMarked g nullable → AreCosts g nullable costs → Heads g a b
    → body_steps g.rules (number_at costs) b < body_steps g.rules (number_at costs) a
head_below nullable costs marked are h =
    let below = use_below nullable costs marked are h.reached in
    let is = ap (λ found. option_map_or (λ rule. number_at costs rule.body) found 0) h.is_rule in
    omega arith

chain_below : {g : Grammar} (nullable : List Bool) (costs : List ℕ) {a b : ℕ} → AreMarked g nullable → AreCosts g nullable costs → Chain g a b
    → body_steps g.rules (number_at costs) b < body_steps g.rules (number_at costs) a
chain_below nullable costs marked are (head h) = head_below nullable costs marked are h
chain_below nullable costs marked are (heads h chain) =
    let first = head_below nullable costs marked are h in
    let rest = chain_below nullable costs marked are chain in
    omega arith

no_cycle : {g : Grammar} (nullable : List Bool) (costs : List ℕ) {a : ℕ} → AreMarked g nullable → AreCosts g nullable costs → ReachesCycle g a → ⊥
no_cycle nullable costs marked are (on_cycle chain) = let below = chain_below nullable costs marked are chain in omega arith
no_cycle nullable costs marked are (leads_to h cycle) = no_cycle nullable costs marked are cycle

pub no_some : (o : Option ℕ) → is_some o ≡ false → o ≡ None
no_some None e = refl
no_some (Some r) e = absurd cc

-- what has something isn't none
pub some_there : (o : Option ℕ) (empty : Bool) → is_some o ≡ not empty → empty ≡ false → o ≡ None → ⊥
some_there None empty e f none = cc
some_there (Some r) empty e f none = cc

-- a grammar with a rule that has no rank has no step cost
pub no_step_cost : (g : Grammar) (sets : Sets) (a : ℕ) → AreSets g sets → a < length g.rules → rank_at sets.ranks a ≡ None
    → (k : ℕ) → IsStepCost g sets.nullable k → ⊥
no_step_cost g sets a are inside none k is =
    no_cycle sets.nullable is.costs (λ p h. (are.nullable p).1 h) is.are_costs ((are.ranks.cyclic a inside).0 none)
