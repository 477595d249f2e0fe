-- What is still to be found, a question, a series and a node at a time.
use Rattle.std.proofs.Common.{◌≡◌, ℕ, zero, suc, ◌+◌, ◌-◌, ◌<◌, ◌≤◌, Bool, true, false, List, [], ◌∷◌, ◌++◌, Option, Some, None, slice_get, length, append-nil, append_assoc, refl, sym, ap, subst, ◌∙◌, arith}
use Rattle.std.specs.Prelude.{nat_lt, if◌then◌else◌, MatchOption}
use Rattle.std.specs.Option.{option_map_or}
use Rattle.std.proofs.Math.Numerals.{add-one}
use Rattle.std.proofs.lemmas.Option.{slice_get_within, slice_get_past}
use Rattle.pg_grammar_value.specs.Grammar.{Grammar}
use Rattle.pg_grammar_form.specs.Forms.{Node}
use Rattle.pg_predict_conditions.specs.Judged.{Facts, all_below, noted_at, noted_node, noted_grammar, noted, is_costly}
use Rattle.pg_predict_conditions.specs.Questions.{form_series_count, node_series, node_questions, asked_node, found_at}
use Rattle.pg_predict_conditions.specs.Suspects.{AreSuspects}
use Rattle.pg_predict_conditions.specs.Violations.{Violation}
use Rattle.pg_predict_conditions.specs.declared.violation.ViolationKind.{ViolationKind}
use Rattle.pg_predict.specs.Broken.{first_number}
use Rattle.pg_predict.specs.Findings.{condition_number}
use Rattle.pg_predict.specs.declared.asking.Asking.{Asking}
use Rattle.pg_predict.specs.declared.way.Way.{Way}
use Rattle.pg_predict.specs.Rest.{all_from, between, rest_of_series, rest_of_cost, rest_at, rest_of}
use Rattle.pg_predict.proofs.Series.{below_after_first, below_same, node_noted, series_asked}

-- ---- numbers from one on

between_next : (f : ℕ → List (Violation ℕ)) (k n : ℕ) → k < n → between f k n ≡ f k ++ between f (k + 1) n
between_next f k n below =
    let more : n - k ≡ suc (n - (k + 1)) = omega arith in
    ap (all_from f k) more ∙ ap (λ (m : ℕ). f k ++ all_from f m (n - (k + 1))) (sym (add-one k))

between_end : (f : ℕ → List (Violation ℕ)) (k n : ℕ) → n ≤ k → between f k n ≡ []
between_end f k n above = let none : n - k ≡ 0 = omega arith in ap (all_from f k) none

from_later : (f : ℕ → List (Violation ℕ)) (k n : ℕ) → all_from f (suc k) n ≡ all_from (λ i. f (suc i)) k n
from_later f k zero = refl
from_later f k (suc n) = ap (λ (vs : List (Violation ℕ)). f (suc k) ++ vs) (from_later f (suc k) n)

from_first : (f : ℕ → List (Violation ℕ)) (n : ℕ) → all_from f 0 n ≡ all_below f n
from_first f zero = refl
from_first f (suc n) =
    ap (λ (vs : List (Violation ℕ)). f 0 ++ vs) (from_later f 0 n ∙ from_first (λ i. f (suc i)) n) ∙ sym (below_after_first f n)

between_all : (f : ℕ → List (Violation ℕ)) (n : ℕ) → between f 0 n ≡ all_below f n
between_all f n = let all : n - 0 ≡ n = omega arith in ap (all_from f 0) all ∙ from_first f n

-- ---- a question of a series

module _ (facts : Facts) (p : ℕ) (n : Node) (j : ℕ) where
  pub series_end : (k : ℕ) → node_questions facts n j ≤ k → rest_of_series facts p n j k ≡ []
  unfolding rest_of_series
  series_end k above = between_end (asked_node facts p n j) k (node_questions facts n j) above

  series_next : (k : ℕ) (o : Option (ViolationKind ℕ)) → k < node_questions facts n j → found_at p o ≡ asked_node facts p n j k
      → rest_of_series facts p n j k ≡ found_at p o ++ rest_of_series facts p n j (k + 1)
  unfolding rest_of_series
  series_next k o below found =
      between_next (asked_node facts p n j) k (node_questions facts n j) below
      ∙ ap (λ (vs : List (Violation ℕ)). vs ++ between (asked_node facts p n j) (k + 1) (node_questions facts n j)) (sym found)

  pub series_none : (k : ℕ) (o : Option (ViolationKind ℕ)) → k < node_questions facts n j → found_at p o ≡ asked_node facts p n j k → o ≡ None
      → rest_of_series facts p n j k ≡ rest_of_series facts p n j (k + 1)
  series_none k o below found none =
      series_next k o below found ∙ ap (λ (q : Option (ViolationKind ℕ)). found_at p q ++ rest_of_series facts p n j (k + 1)) none

  pub series_some : (k : ℕ) (o : Option (ViolationKind ℕ)) (kind : ViolationKind ℕ) → k < node_questions facts n j → found_at p o ≡ asked_node facts p n j k → o ≡ Some kind
      → rest_of_series facts p n j k ≡ record { node = p; kind = kind } ∷ rest_of_series facts p n j (k + 1)
  series_some k o kind below found some =
      series_next k o below found ∙ ap (λ (q : Option (ViolationKind ℕ)). found_at p q ++ rest_of_series facts p n j (k + 1)) some

-- ---- a series of a node

is_inside : (j c : ℕ) → j < c → nat_lt j c ≡ true
is_inside j c below = grind (arith, below)

is_outside : (j c : ℕ) → c ≤ j → nat_lt j c ≡ false
is_outside j c above = grind (arith, above)

module _ (facts : Facts) (p : ℕ) (n : Node) where
  abbrev series : ℕ → List (Violation ℕ)
  series j = rest_of_series facts p n j 0

  abbrev after : ℕ → List (Violation ℕ)
  after j = between series j (form_series_count n + 1) ++ rest_of_cost facts p 0

  at_inside : (j k : ℕ) → j < form_series_count n + 1 → rest_at facts p n (record { series = j; question = k }) ≡ rest_of_series facts p n j k ++ after (j + 1)
  unfolding rest_at
  at_inside j k below = ap (λ (b : Bool). if b then rest_of_series facts p n j k ++ after (j + 1) else rest_of_cost facts p k) (is_inside j (form_series_count n + 1) below)

  pub at_cost : (j k : ℕ) → form_series_count n + 1 ≤ j → rest_at facts p n (record { series = j; question = k }) ≡ rest_of_cost facts p k
  unfolding rest_at
  at_cost j k above = ap (λ (b : Bool). if b then rest_of_series facts p n j k ++ after (j + 1) else rest_of_cost facts p k) (is_outside j (form_series_count n + 1) above)

  -- at the beginning of a series
  at_series : (j : ℕ) → rest_at facts p n (record { series = j; question = 0 }) ≡ after j
  at_series j = go (nat_lt j (form_series_count n + 1)) refl
    where
      go : (b : Bool) → nat_lt j (form_series_count n + 1) ≡ b → rest_at facts p n (record { series = j; question = 0 }) ≡ after j
      go true e =
          let below : j < form_series_count n + 1 = grind (arith, e) in
          at_inside j 0 below ∙ sym (append_assoc (series j) (between series (j + 1) (form_series_count n + 1)) (rest_of_cost facts p 0))
          ∙ ap (λ (vs : List (Violation ℕ)). vs ++ rest_of_cost facts p 0) (sym (between_next series j (form_series_count n + 1) below))
      go false e =
          let above : form_series_count n + 1 ≤ j = grind (arith, e) in
          at_cost j 0 above ∙ ap (λ (vs : List (Violation ℕ)). vs ++ rest_of_cost facts p 0) (sym (between_end series j (form_series_count n + 1) above))

  pub at_none : (j k : ℕ) → j < form_series_count n + 1 → rest_of_series facts p n j k ≡ []
      → rest_at facts p n (record { series = j; question = k }) ≡ rest_at facts p n (record { series = j + 1; question = 0 })
  at_none j k below none =
      at_inside j k below ∙ ap (λ (vs : List (Violation ℕ)). vs ++ after (j + 1)) none ∙ sym (at_series (j + 1))

  pub at_some : (j k l : ℕ) (v : Violation ℕ) → j < form_series_count n + 1 → rest_of_series facts p n j k ≡ v ∷ rest_of_series facts p n j l
      → rest_at facts p n (record { series = j; question = k }) ≡ v ∷ rest_at facts p n (record { series = j; question = l })
  at_some j k l v below some =
      at_inside j k below ∙ ap (λ (vs : List (Violation ℕ)). vs ++ after (j + 1)) some
      ∙ ap (λ (vs : List (Violation ℕ)). v ∷ vs) (sym (at_inside j l below))

  -- all that is noted at the node
  series_noted : (g : Grammar) → AreSuspects g facts.sets facts.meetings facts.suspects → slice_get g.nodes p ≡ Some n → (j : ℕ) → series j ≡ node_series facts p n j
  unfolding rest_of_series
  series_noted g are at j = between_all (asked_node facts p n j) (node_questions facts n j) ∙ series_asked g facts p n j are at

  pub at_first : (g : Grammar) → AreSuspects g facts.sets facts.meetings facts.suspects → slice_get g.nodes p ≡ Some n
      → rest_at facts p n (record { series = 0; question = 0 }) ≡ noted_at g facts p
  at_first g are at =
      at_series 0
      ∙ ap (λ (vs : List (Violation ℕ)). vs ++ rest_of_cost facts p 0)
      (between_all series (form_series_count n + 1) ∙ below_same series (node_series facts p n) (form_series_count n + 1) (λ j below. series_noted g are at j)
      ∙ node_noted g facts p n at)

  -- where no series is left, it is the step cost
  pub at_last : (o : Option (ViolationKind ℕ)) (j k c l : ℕ) (all : List (Violation ℕ)) → all ≡ rest_at facts p n (record { series = j; question = k }) → c ≡ form_series_count n + 1 → c ≤ j
      → MatchOption o (rest_of_cost facts p k ≡ []) (λ kind. rest_of_cost facts p k ≡ record { node = p; kind = kind } ∷ rest_of_cost facts p l)
      → MatchOption o (all ≡ []) (λ kind. all ≡ record { node = p; kind = kind } ∷ rest_at facts p n (record { series = c; question = l }))
  at_last None j k c l all e count above none = e ∙ at_cost j k (subst (λ (m : ℕ). m ≤ j) count above) ∙ none
  at_last (Some kind) j k c l all e count above some =
      e ∙ at_cost j k (subst (λ (m : ℕ). m ≤ j) count above) ∙ some
      ∙ ap (λ (vs : List (Violation ℕ)). record { node = p; kind = kind } ∷ vs) (sym (at_cost c l (subst (λ (m : ℕ). form_series_count n + 1 ≤ m) (sym count) (omega arith))))

  -- the number of the first condition that is broken there
  pub number_some : (g : Grammar) (first : Asking) (kind : ViolationKind ℕ) (more : List (Violation ℕ)) → AreSuspects g facts.sets facts.meetings facts.suspects
      → slice_get g.nodes p ≡ Some n → first ≡ record { series = 0; question = 0 } → rest_at facts p n first ≡ record { node = p; kind = kind } ∷ more
      → Some (condition_number kind) ≡ first_number (noted_at g facts p)
  number_some g first kind more are at begins some =
      sym (ap first_number (sym (ap (rest_at facts p n) begins ∙ at_first g are at) ∙ some))

  pub number_none : (g : Grammar) (first : Asking) → AreSuspects g facts.sets facts.meetings facts.suspects
      → slice_get g.nodes p ≡ Some n → first ≡ record { series = 0; question = 0 } → rest_at facts p n first ≡ [] → None ≡ first_number (noted_at g facts p)
  number_none g first are at begins none = sym (ap first_number (sym (ap (rest_at facts p n) begins ∙ at_first g are at) ∙ none))

  -- all that is noted at the node, from the first question on
  pub at_begin : (g : Grammar) (first : Asking) → AreSuspects g facts.sets facts.meetings facts.suspects → slice_get g.nodes p ≡ Some n
      → first ≡ record { series = 0; question = 0 } → rest_at facts p n first ≡ noted_at g facts p
  at_begin g first are at begins = ap (rest_at facts p n) begins ∙ at_first g are at

-- ---- a node of a grammar

get_none : {A : Type 0} (xs : List A) (i : ℕ) → slice_get xs i ≡ None → length xs ≤ i
get_none [] i e = omega arith
get_none (x ∷ xs) zero e = absurd cc
get_none (x ∷ xs) (suc i) e = let more = get_none xs i e in omega arith

module _ (g : Grammar) (facts : Facts) where
  abbrev nodes_from : ℕ → List (Violation ℕ)
  nodes_from p = between (noted_at g facts) p (length g.nodes)

  of_there : (p : ℕ) (n : Node) (asking : Asking) → slice_get g.nodes p ≡ Some n → rest_of g facts (record { node = p; asking = asking }) ≡ rest_at facts p n asking ++ nodes_from (p + 1)
  unfolding rest_of
  of_there p n asking at = ap (λ (o : Option Node). option_map_or (λ n. rest_at facts p n asking) o [] ++ nodes_from (p + 1)) at

  of_nowhere : (p : ℕ) (asking : Asking) → slice_get g.nodes p ≡ None → rest_of g facts (record { node = p; asking = asking }) ≡ nodes_from (p + 1)
  unfolding rest_of
  of_nowhere p asking at = ap (λ (o : Option Node). option_map_or (λ n. rest_at facts p n asking) o [] ++ nodes_from (p + 1)) at

  pub of_end : (p : ℕ) (asking : Asking) → length g.nodes ≤ p → rest_of g facts (record { node = p; asking = asking }) ≡ []
  of_end p asking above = of_nowhere p asking (slice_get_past g.nodes p above) ∙ between_end (noted_at g facts) (p + 1) (length g.nodes) (omega arith)

  of_some : (p : ℕ) (n : Node) (asking other : Asking) (v : Violation ℕ) → slice_get g.nodes p ≡ Some n → rest_at facts p n asking ≡ v ∷ rest_at facts p n other
      → rest_of g facts (record { node = p; asking = asking }) ≡ v ∷ rest_of g facts (record { node = p; asking = other })
  of_some p n asking other v at some =
      of_there p n asking at ∙ ap (λ (vs : List (Violation ℕ)). vs ++ nodes_from (p + 1)) some ∙ ap (λ (vs : List (Violation ℕ)). v ∷ vs) (sym (of_there p n other at))

  -- at a node with this number
  pub of_found : (i p : ℕ) (n : Node) (asking other : Asking) (kind : ViolationKind ℕ) → p ≡ i → slice_get g.nodes p ≡ Some n
      → rest_at facts p n asking ≡ record { node = p; kind = kind } ∷ rest_at facts p n other
      → rest_of g facts (record { node = i; asking = asking }) ≡ record { node = i; kind = kind } ∷ rest_of g facts (record { node = i; asking = other })
  of_found i p n asking other kind e at some =
      subst (λ (q : ℕ). rest_of g facts (record { node = q; asking = asking }) ≡ record { node = q; kind = kind } ∷ rest_of g facts (record { node = q; asking = other })) e
      (of_some p n asking other (record { node = p; kind = kind }) at some)

  module _ (are : AreSuspects g facts.sets facts.meetings facts.suspects) where
    -- from the first question at a node on
    of_node : (p : ℕ) → rest_of g facts (record { node = p; asking = record { series = 0; question = 0 } }) ≡ nodes_from p
    of_node p = go (slice_get g.nodes p) refl
      where
        go : (o : Option Node) → slice_get g.nodes p ≡ o → rest_of g facts (record { node = p; asking = record { series = 0; question = 0 } }) ≡ nodes_from p
        go (Some n) at =
            of_there p n (record { series = 0; question = 0 }) at
            ∙ ap (λ (vs : List (Violation ℕ)). vs ++ nodes_from (p + 1)) (at_first facts p n g are at)
            ∙ sym (between_next (noted_at g facts) p (length g.nodes) (slice_get_within g.nodes p n at))
        go None at =
            let above = get_none g.nodes p at in
            of_nowhere p (record { series = 0; question = 0 }) at
            ∙ between_end (noted_at g facts) (p + 1) (length g.nodes) (omega arith) ∙ sym (between_end (noted_at g facts) p (length g.nodes) above)

    of_none : (p : ℕ) (n : Node) (asking : Asking) → slice_get g.nodes p ≡ Some n → rest_at facts p n asking ≡ []
        → rest_of g facts (record { node = p; asking = asking }) ≡ rest_of g facts (record { node = p + 1; asking = record { series = 0; question = 0 } })
    of_none p n asking at none = of_there p n asking at ∙ ap (λ (vs : List (Violation ℕ)). vs ++ nodes_from (p + 1)) none ∙ sym (of_node (p + 1))

    pub of_left : (i p : ℕ) (n : Node) (asking first : Asking) → p ≡ i → slice_get g.nodes p ≡ Some n → rest_at facts p n asking ≡ [] → first ≡ record { series = 0; question = 0 }
        → rest_of g facts (record { node = i; asking = asking }) ≡ rest_of g facts (record { node = i + 1; asking = first })
    of_left i p n asking first e at none begins =
        subst (λ (q : ℕ). rest_of g facts (record { node = q; asking = asking }) ≡ rest_of g facts (record { node = q + 1; asking = first })) e
        (of_none p n asking at none ∙ ap (λ (a : Asking). rest_of g facts (record { node = p + 1; asking = a })) (sym begins))

    pub of_all : rest_of g facts (record { node = 0; asking = record { series = 0; question = 0 } }) ≡ noted_grammar g facts
    of_all = of_node 0 ∙ between_all (noted_at g facts) (length g.nodes)
