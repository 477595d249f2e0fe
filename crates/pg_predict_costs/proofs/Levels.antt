-- Levels fall from a node to each part that is reached, and from a use of a rule to the rule's body, where no rule heads itself.
use Rattle.std.proofs.Common.{◌≡◌, ◌<◌, ◌≤◌, ◌+◌, ◌-◌, ◌*◌, inl, inr, ℕ, zero, suc, List, [], ◌∷◌, true, Option, Some, None, slice_get, length, max, refl, sym, ap, ◌∙◌, subst, arith}
use Rattle.std.specs.Option.{option_map_or}
use Rattle.std.proofs.lemmas.Bool.{true≢false}
use Rattle.std.proofs.lemmas.Nat.{mul-le}
use Rattle.std.proofs.lemmas.Option.{slice_get_within}
use Rattle.pg_grammar_value.specs.Grammar.{Grammar}
use Rattle.pg_grammar_form.specs.Forms.{Node}
use Rattle.pg_grammar_form.specs.declared.form.Form.TheVariants as form
use Rattle.pg_grammar_value.specs.declared.grammar.Rule as declared
use Rattle.pg_sets_nullable.proofs.Heading.{part_shown, part_noted, used_is}
use Rattle.pg_graph.proofs.Lists.{has_first, has_cases, has_after}
use Rattle.pg_graph.specs.Graphs.{has}
use Rattle.pg_sets_nullable.specs.Parts.{reached_parts, used_rules}
use Rattle.pg_sets_nullable.specs.Ranks.{IsRank, no_heads, above, RankUpTo, up_to, Chain, ReachesCycle, on_cycle, leads_to, rank_at}
use Rattle.pg_sets_nullable.specs.Reached.{ReachedPart, ReachesUse, here, through, Heads}
use Rattle.pg_sets.specs.Sets.{Sets, AreSets}
use Rattle.pg_predict_costs.specs.Levels.{greatest, above_rank, rank_within, level_of}

-- ---- the greatest of some numbers

at_most_greatest : (f : ℕ → ℕ) (ns : List ℕ) (n : ℕ) → has ns n ≡ true → f n ≤ greatest f ns
at_most_greatest f [] n h = absurd (true≢false (sym h))
at_most_greatest f (m ∷ ms) n h =
    elim (has_cases ms m n h) [
      | inl same ↦ let e : f m ≡ f n = ap f same in omega arith
      | inr after ↦ let l = at_most_greatest f ms n after in omega arith
    ]

greatest_at_most : (f : ℕ → ℕ) (ns : List ℕ) (k : ℕ) → ((n : ℕ) → has ns n ≡ true → f n ≤ k) → greatest f ns ≤ k
greatest_at_most f [] k h = omega arith
greatest_at_most f (m ∷ ms) k h =
    let first = h m (has_first ms m) in
    let rest = greatest_at_most f ms k (λ n is. h n (has_after ms m n is)) in
    omega arith

greatest_grows : (f h : ℕ → ℕ) (ns : List ℕ) → ((n : ℕ) → f n ≤ h n) → greatest f ns ≤ greatest h ns
greatest_grows f h [] l = omega arith
greatest_grows f h (m ∷ ms) l = let first = l m in let rest = greatest_grows f h ms l in omega arith

module _ (g : Grammar) (sets : Sets) (are : AreSets g sets) (acyclic : (r : ℕ) → Chain g r r → ⊥) where
  -- ---- more steps

  rank_within_at : (steps p : ℕ) (n : Node) → slice_get g.nodes p ≡ Some n →
      rank_within g sets (suc steps) p ≡ max (greatest (above_rank sets.ranks) (used_rules n)) (greatest (λ q. rank_within g sets steps q) (reached_parts sets.nullable n))
  rank_within_at steps p n e =
      ap (λ found. option_map_or (λ m. max (greatest (above_rank sets.ranks) (used_rules m)) (greatest (λ q. rank_within g sets steps q) (reached_parts sets.nullable m))) found 0) e

  one_more : (steps p : ℕ) → rank_within g sets steps p ≤ rank_within g sets (suc steps) p
  one_more zero p = omega arith
  one_more (suc steps) p = go (slice_get g.nodes p) refl (λ q. one_more steps q)
    where
      go : (found : Option Node) → slice_get g.nodes p ≡ found → ((q : ℕ) → rank_within g sets steps q ≤ rank_within g sets (suc steps) q) → rank_within g sets (suc steps) p ≤ rank_within g sets (suc (suc steps)) p
      go None e ih =
          let none : rank_within g sets (suc steps) p ≡ 0 =
          ap (λ found. option_map_or (λ m. max (greatest (above_rank sets.ranks) (used_rules m)) (greatest (λ q. rank_within g sets steps q) (reached_parts sets.nullable m))) found 0) e in
          omega arith
      go (Some n) e ih =
          let grown = greatest_grows (λ q. rank_within g sets steps q) (λ q. rank_within g sets (suc steps) q) (reached_parts sets.nullable n) ih in
          let is = rank_within_at steps p n e in
          let next = rank_within_at (suc steps) p n e in
          omega arith

  some_more : (k steps p : ℕ) → rank_within g sets steps p ≤ rank_within g sets (k + steps) p
  some_more zero steps p = let same : 0 + steps ≡ steps = omega arith in subst (λ m. rank_within g sets steps p ≤ rank_within g sets m p) (sym same) (omega arith)
  some_more (suc k) steps p =
      let same : suc k + steps ≡ suc (k + steps) = omega arith in
      let before = some_more k steps p in
      let last = one_more (k + steps) p in
      subst (λ m. rank_within g sets steps p ≤ rank_within g sets m p) (sym same) (omega arith)

  more : (steps others p : ℕ) → steps ≤ others → rank_within g sets steps p ≤ rank_within g sets others p
  more steps others p l =
      let same : others - steps + steps ≡ others = omega arith in
      subst (λ m. rank_within g sets steps p ≤ rank_within g sets m p) same (some_more (others - steps) steps p)

  -- ---- parts

  part_within : (p q : ℕ) (n : Node) → slice_get g.nodes p ≡ Some n → ReachedPart g n q → p < q → q < length g.nodes →
      rank_within g sets (length g.nodes - q) q ≤ rank_within g sets (length g.nodes - p) p
  part_within p q n e reached l m =
      let steps = length g.nodes - suc p in
      let same : length g.nodes - p ≡ suc steps = omega arith in
      let at = rank_within_at steps p n e in
      let among = at_most_greatest (λ x. rank_within g sets steps x) (reached_parts sets.nullable n) q (part_noted sets.nullable are.nullable reached) in
      let within = more (length g.nodes - q) steps q (omega arith) in
      subst (λ x. rank_within g sets (length g.nodes - q) q ≤ rank_within g sets x p) (sym same) (omega arith)

  pub part_falls : (p q : ℕ) (n : Node) → slice_get g.nodes p ≡ Some n → ReachedPart g n q → p < q → q < length g.nodes → level_of g sets q < level_of g sets p
  part_falls p q n e reached l m =
      let product = mul-le _ (suc (length g.nodes)) _ (suc (length g.nodes)) (part_within p q n e reached l m) (omega arith) in
      omega arith

  -- ---- rules

  -- a bound on the rules whose uses are reached
  rank_within_below : (steps p k : ℕ) → ((r : ℕ) → ReachesUse g p r → above_rank sets.ranks r ≤ k) → rank_within g sets steps p ≤ k
  rank_within_below zero p k h = omega arith
  rank_within_below (suc steps) p k h = go (slice_get g.nodes p) refl (λ q f. rank_within_below steps q k f)
    where
      go : (found : Option Node) → slice_get g.nodes p ≡ found → ((q : ℕ) → ((r : ℕ) → ReachesUse g q r → above_rank sets.ranks r ≤ k) → rank_within g sets steps q ≤ k) → rank_within g sets (suc steps) p ≤ k
      go None e ih =
          let none : rank_within g sets (suc steps) p ≡ 0 =
          ap (λ found. option_map_or (λ m. max (greatest (above_rank sets.ranks) (used_rules m)) (greatest (λ q. rank_within g sets steps q) (reached_parts sets.nullable m))) found 0) e in
          omega arith
      go (Some n) e ih =
          let at = rank_within_at steps p n e in
          let uses = greatest_at_most (above_rank sets.ranks) (used_rules n) k (λ r is. h r (here (e ∙ ap Some (used_is n r is)))) in
          let parts =
          greatest_at_most (λ q. rank_within g sets steps q) (reached_parts sets.nullable n) k
          (λ q is. ih q (λ r reaches. h r (through e (part_shown g sets.nullable are.nullable n q is) reaches))) in
          omega arith

  cycle : {a : ℕ} → ReachesCycle g a → ⊥
  cycle (on_cycle {a} chain) = acyclic a chain
  cycle (leads_to heads reaches) = cycle reaches

  rank_there : (r : ℕ) → r < length g.rules → (k : ℕ) × (rank_at sets.ranks r ≡ Some k)
  rank_there r below = go (rank_at sets.ranks r) refl
    where
      go : (found : Option ℕ) → rank_at sets.ranks r ≡ found → (k : ℕ) × (rank_at sets.ranks r ≡ Some k)
      go None e = absurd (cycle ((are.ranks.cyclic r below).0 e))
      go (Some k) e = (k, e)

  above_is : (r k : ℕ) → rank_at sets.ranks r ≡ Some k → above_rank sets.ranks r ≡ suc k
  above_is r k e = ap (λ found. option_map_or suc found 0) e

  -- the heads of a rule are ranked below it
  head_below : {r k : ℕ} → IsRank g r k → (s : ℕ) → Heads g r s → above_rank sets.ranks s ≤ k
  head_below (no_heads none) s heads = absurd (none s heads)
  head_below {r} (above {r = k} first is each) s heads = go (each s heads)
    where
      go : RankUpTo g s k → above_rank sets.ranks s ≤ suc k
      go (up_to {s = j} rank l) =
          let below = are.heads.rules r s ((are.heads.members r s).1 heads) in
          let e = above_is s j ((are.ranks.ranked s j below).1 rank) in
          omega arith

  pub rule_falls : (p r : ℕ) (named : declared.Rule) → slice_get g.nodes p ≡ Some (form.Rule r) → slice_get g.rules r ≡ Some named → level_of g sets named.body < level_of g sets p
  rule_falls p r named e at =
      let below = slice_get_within g.rules r named at in
      let inside = slice_get_within g.nodes p (form.Rule r) e in
      let rank = rank_there r below in
      let body =
      rank_within_below (length g.nodes - named.body) named.body rank.0
      (λ s reaches. head_below ((are.ranks.ranked r rank.0 below).0 rank.1) s (record { rule = named; is_rule = at; reached = reaches })) in
      let steps = length g.nodes - suc p in
      let same : length g.nodes - p ≡ suc steps = omega arith in
      let is = rank_within_at steps p (form.Rule r) e in
      let own = at_most_greatest (above_rank sets.ranks) (used_rules (form.Rule r)) r (has_first [] r) in
      let known = above_is r rank.0 rank.1 in
      let raised : suc rank.0 ≤ rank_within g sets (length g.nodes - p) p = subst (λ x. suc rank.0 ≤ rank_within g sets x p) (sym same) (omega arith) in
      let low = mul-le _ (suc (length g.nodes)) _ (suc (length g.nodes)) body (omega arith) in
      let high = mul-le _ (suc (length g.nodes)) _ (suc (length g.nodes)) raised (omega arith) in
      let apart : suc rank.0 * suc (length g.nodes) ≡ rank.0 * suc (length g.nodes) + suc (length g.nodes) = omega arith in
      omega arith
