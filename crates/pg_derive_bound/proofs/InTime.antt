-- The bound on the steps of a run.
use Rattle.std.proofs.Common.{◌≡◌, ◌<◌, ◌≤◌, ◌+◌, ◌*◌, ℕ, zero, suc, max, List, [], ◌∷◌, Bool, refl, ap, length, Some, slice_get, arith, le_refl}
use Rattle.std.proofs.Math.Nat.{add-mul}
use Rattle.std.proofs.lemmas.Nat.{mul-le}
use Rattle.std.proofs.lemmas.Option.{slice_get_within}
use Rattle.pg_grammar_value.specs.Grammar.{Grammar, IsGrammar}
use Rattle.pg_grammar_value.specs.declared.grammar.Rule as declared
use Rattle.pg_graph.specs.Marks.{is_marked}
use Rattle.pg_sets.specs.Sets.{Sets}
use Rattle.pg_table.specs.Tables.{Table, ComesFrom}
use Rattle.pg_predict_costs.specs.Steps.{number_at, row_steps}
use Rattle.pg_predict_costs.specs.StepCost.{IsStepCost, greatest_size, grammar_levels, node_levels, levels_of_all}
use Rattle.pg_language.specs.Answers.{Given, Answers, AnswersStart}
use Rattle.pg_language.specs.Derives.{Spot}
use Rattle.pg_language.specs.Outcomes.{Outcome, ok, failed, empty_round}
use Rattle.pg_language.specs.WholeTexts.{AnswersText, from_start, beginning, nodes_to_end}
use Rattle.pg_language.specs.declared.reading.Reading.TheVariants.{Library}
use Rattle.pg_language.proofs.Unique.{same}
use Rattle.pg_derive.specs.ClosedSets.{NodeSets}
use Rattle.pg_derive.specs.LeastSets.{node_sets}
use Rattle.pg_derive.specs.Predictive.{IsPredictive}
use Rattle.pg_derive.specs.PredictiveLaws.{Predicts, HasAnswer, is_ok, has_failed, as_read}
use Rattle.pg_derive.proofs.Faultless.{accepted}
use Rattle.pg_derive.proofs.Predicted.{exist}
use Rattle.pg_derive.proofs.Readings.{readings_agree}
use Rattle.pg_derive.proofs.Whole.{is_whole}
use Rattle.pg_derive.proofs.AcceptedTexts.{predicts}
use Rattle.pg_derive_bound.specs.Bound.{HasClaimedStepCost, PredictiveStartsAreAnsweredInTime, PredictiveTextsAreAnsweredInTime, AcceptedStartsAreAnsweredInTime, AcceptedTextsAreAnsweredInTime}
use Rattle.pg_derive_bound.proofs.Charges.{Charges}
use Rattle.pg_derive_bound.proofs.Depths.{depth, depth_falls, depth_into, depth_most}
use Rattle.pg_derive_bound.proofs.Nodes.{is_node, fare}
use Rattle.pg_derive_bound.proofs.Paid as paid
use Rattle.pg_derive_bound.proofs.Paid.{End, end_of, Fare, Paid, no_later}
use Rattle.pg_derive_bound.proofs.Pays.{pays}
use Rattle.pg_derive_bound.proofs.Sizes.{low}

-- ---- the greatest size

greatest_least : (size : ℕ → ℕ) (least : ℕ) (rules : List declared.Rule) → least ≤ greatest_size size least rules
greatest_least size least [] = le_refl least
greatest_least size least (rule ∷ rules) = let rest = greatest_least size (max least (size rule.body)) rules in omega arith

greatest_of : (size : ℕ → ℕ) (least : ℕ) (rules : List declared.Rule) (r : ℕ) (named : declared.Rule) → slice_get rules r ≡ Some named → size named.body ≤ greatest_size size least rules
greatest_of size least [] r named e = absurd cc
greatest_of size least (rule ∷ rules) zero named e =
    let is : rule ≡ named = cc in
    let at = ap (λ (rule : declared.Rule). size rule.body) is in
    let rest = greatest_least size (max least (size rule.body)) rules in
    omega arith
greatest_of size least (rule ∷ rules) (suc r) named e = greatest_of size (max least (size rule.body)) rules r named e

-- ---- what is paid

-- a product grows by a share for each level
deeper : (d e levels share : ℕ) → d + levels ≤ e → d * share + levels * share ≤ e * share
deeper d e levels share l = let product = mul-le (d + levels) share e share l (le_refl share) in let sum = add-mul d levels share in omega arith

module _ (g : Grammar) (grammar : IsGrammar g) (sets : NodeSets) (predictive : IsPredictive g sets) (nullable : List Bool) (marks : (p : ℕ) → is_marked nullable p ≡ sets.nullable p) (k : ℕ) (cost : IsStepCost g nullable k) where
  abbrev share : ℕ
  share = greatest_size (number_at cost.sizes) (row_steps g) g.rules

  abbrev climb : ℕ → ℕ
  climb p = depth sets.level g p * share

  abbrev charges : Charges g sets
  charges = record {
    nullable = nullable;
    marks = marks;
    cost = number_at cost.costs;
    size = number_at cost.sizes;
    climb = climb;
    share = share;
    rate = k;
    due = λ i. i * k;
    costs = cost.are_costs.each;
    sizes = cost.are_sizes.each;
    low = low g (is_whole g grammar) sets predictive.nodes nullable marks (number_at cost.costs) (number_at cost.sizes) cost.are_costs.each cost.are_sizes.each;
    bodies = greatest_of (number_at cost.sizes) (row_steps g) g.rules;
    falls = λ p q n e l. deeper (depth sets.level g q) (depth sets.level g p) (node_levels n) share (depth_falls sets.level g p q n e l);
    into = λ p r named e l.
        let further = deeper (depth sets.level g named.body) (depth sets.level g p) 1 share (depth_into sets.level g p r named e l) in omega arith;
    room = λ p. let whole = deeper (depth sets.level g p) (grammar_levels g) 1 share (depth_most sets.level g p) in let is = cost.is in omega arith;
    rises = λ i j l. let product = deeper i j 1 k (omega arith) in omega arith;
  }

-- a grammar with a rule pays for two shares with each character, and a share is some steps
two_shares : (levels share k rules others : ℕ) → k ≡ levels * share → levels ≡ 1 + (rules + others) → 0 < rules → share + share ≤ k
two_shares levels share k rules others is levels_are some = let product = mul-le 2 share levels share (omega arith) (le_refl share) in omega arith

-- the run has an answer
abbrev IsAnswered : End → Type 0
IsAnswered (paid.ends c j) = Unit {0}
IsAnswered (paid.stops c) = Unit {0}
IsAnswered paid.never = ⊥

within : {E B : Type 0} {A : ℕ → Type 0} (f : Fare) (cost toll share m : ℕ) (z : End) → f.due 0 ≡ 0 → cost ≤ share → toll ≤ f.rate → share + share ≤ f.rate → 2 ≤ share → IsAnswered z → Paid f E B A cost toll 0 z m →
    m + m + 2 ≤ f.rate + f.due f.last
within f cost toll share m z first low up two some is (paid.refuses l) = omega arith
within f cost toll share m z first low up two some is (paid.rests e same l) = omega arith
within f cost toll share m z first low up two some is (paid.goes {j = j} x further inside l) = let later = no_later f j f.last inside in omega arith
within f cost toll share m z first low up two some is (paid.breaks x l) = omega arith
within f cost toll share m z first low up two some is (paid.gives_back x a l) = omega arith
within f cost toll share m z first low up two some is paid.stuck = absurd is

-- a run of an accepted grammar ends with an answer
pub never_stuck : {G : Given} {p : ℕ} {a : Spot} {o : Outcome} {m : ℕ} → HasAnswer G p a → Answers G p a o m → IsAnswered (end_of o)
never_stuck {o = ok c b v t e} h d = tt
never_stuck {o = failed c e} h d = tt
never_stuck {o = empty_round} (is_ok c b v t e m run) d = apart (same run d).outcome
  where
    apart : ok c b v t e ≡ empty_round → ⊥
    apart h = absurd cc
never_stuck {o = empty_round} (has_failed c e m run) d = apart (same run d).outcome
  where
    apart : failed c e ≡ empty_round → ⊥
    apart h = absurd cc

-- a choice is read as the library reads it: the report's reading has the same answers, with as many nodes
in_library : (G : Given) (sets : NodeSets) → Predicts G sets → Predicts (as_read Library G) sets
in_library G sets h = record { grammar = h.grammar; predictive = h.predictive; text = h.text }

module _ (G : Given) (sets : NodeSets) (h : Predicts G sets) (k : ℕ) (c : HasClaimedStepCost G sets k) where
  abbrev paying : Charges G.grammar sets
  paying = charges G.grammar h.grammar sets h.predictive c.nullable c.marks k c.cost

  body_within : (table : Table) → ComesFrom G.grammar table → (named : declared.Rule) → slice_get G.grammar.rules G.grammar.start ≡ Some named → (o : Outcome) (m : ℕ) → Answers G named.body (beginning table) o m →
      m + m + 2 ≤ k * (length G.text + 1)
  body_within table from named e o m d =
      let a : Spot = beginning table in
      let inside = is_node G sets h d in
      let read = readings_agree G sets h G.reading Library named.body inside a o m from (omega arith) d in
      let answered = never_stuck (exist (as_read Library G) sets (in_library G sets h) named.body inside a from (omega arith)) read in
      let small = greatest_of (number_at c.cost.sizes) (row_steps G.grammar) G.grammar.rules G.grammar.start named e in
      let some = greatest_least (number_at c.cost.sizes) (row_steps G.grammar) G.grammar.rules in
      let low = paying.low named.body inside in
      let room = paying.room named.body in
      let rules = slice_get_within G.grammar.rules G.grammar.start named e in
      let two = two_shares (grammar_levels G.grammar) paying.share k (length G.grammar.rules) (levels_of_all G.grammar.nodes) c.cost.is refl (omega arith) in
      let paid = pays (as_read Library G) sets (in_library G sets h) paying refl read (omega arith, from) small in
      let bound = within (fare (as_read Library G) sets (in_library G sets h) paying) (paying.cost named.body) (paying.size named.body + paying.climb named.body) paying.share m (end_of o) (omega arith) (omega arith) (omega arith) two (omega arith) answered paid in
      omega arith

  start_within : (table : Table) → ComesFrom G.grammar table → (o : Outcome) (m : ℕ) → AnswersStart G table o m → 2 * m ≤ k * (length G.text + 1)
  start_within table from o m d = let bound = body_within table from d.start d.is_start o m d.body in omega arith

  text_within : (table : Table) → ComesFrom G.grammar table → (o : Outcome) (m : ℕ) → AnswersText G table o m → 2 * m ≤ k * (length G.text + 1)
  text_within table from o m (from_start {start = named} {o = x} {m = n} e d) = to_end x (body_within table from named e x n d)
    where
      to_end : (x : Outcome) → n + n + 2 ≤ k * (length G.text + 1) → 2 * nodes_to_end x n ≤ k * (length G.text + 1)
      to_end (ok c b v t e) l = omega arith
      to_end (failed c e) l = omega arith
      to_end empty_round l = omega arith

pub predictive_starts : PredictiveStartsAreAnsweredInTime
predictive_starts G sets h k c = start_within G sets h k c

pub predictive_texts : PredictiveTextsAreAnsweredInTime
predictive_texts G sets h k c = text_within G sets h k c

by_least : (G : Given) (sets : Sets) (k : ℕ) → IsStepCost G.grammar sets.nullable k → HasClaimedStepCost G (node_sets G.grammar sets) k
by_least G sets k c = record { nullable = sets.nullable; marks = λ p. refl; cost = c }

pub accepted_starts : AcceptedStartsAreAnsweredInTime
accepted_starts G sets h k c = start_within G (node_sets G.grammar sets) (predicts G sets h) k (by_least G sets k c)

pub accepted_texts : AcceptedTextsAreAnsweredInTime
accepted_texts G sets h k c = text_within G (node_sets G.grammar sets) (predicts G sets h) k (by_least G sets k c)
