-- What the questions at a node find is what is noted of it.
use Rattle.std.proofs.Common.{◌≡◌, ℕ, zero, suc, ◌+◌, ◌-◌, ◌<◌, Bool, true, false, List, [], ◌++◌, Option, Some, slice_get, length, append-nil, append_assoc, refl, sym, ap, ◌∙◌, arith}
use Rattle.std.specs.Prelude.{nat_lt, if◌then◌else◌}
use Rattle.std.specs.Option.{option_map_or}
use Rattle.std.proofs.Math.Numerals.{add-one}
use Rattle.pg_grammar_value.specs.Grammar.{Grammar}
use Rattle.pg_grammar_form.specs.Forms.{Node}
use Rattle.pg_grammar_form.specs.declared.form.Form.TheVariants as form
use Rattle.pg_graph.specs.Marks.{is_marked}
use Rattle.pg_predict_conditions.specs.Violations.{Violation}
use Rattle.pg_predict_conditions.specs.Judged.{Facts, all_below, part_at, noted_choice, noted_form, noted_node, empty_alternatives, meeting_alternatives, meetings_of_alternative, alternatives_that_meet, alternative_and_follow, alternatives_and_follow, ends_nullable}
use Rattle.pg_predict_conditions.specs.Questions.{choice_series, form_series, form_series_count, node_series, asked_choice, asked_node, choice_questions, node_questions}
use Rattle.pg_predict_conditions.specs.Suspects.{AreSuspects}
use Rattle.pg_predict_conditions.proofs.Unsuspected.{none_noted}

-- ---- one number after another

-- the first is apart
pub below_after_first : (f : ℕ → List (Violation ℕ)) (n : ℕ) → all_below f (suc n) ≡ f 0 ++ all_below (λ k. f (suc k)) n
below_after_first f zero = sym (append-nil (f 0))
below_after_first f (suc n) = ap (λ xs. xs ++ f (suc n)) (below_after_first f n) ∙ append_assoc (f 0) (all_below (λ k. f (suc k)) n) (f (suc n))

-- what is the same for each is the same for all
pub below_same : (f h : ℕ → List (Violation ℕ)) (n : ℕ) → ((k : ℕ) → k < n → f k ≡ h k) → all_below f n ≡ all_below h n
below_same f h zero same = refl
below_same f h (suc n) same =
    ap (λ xs. xs ++ f n) (below_same f h n (λ k below. same k (omega arith))) ∙ ap (λ xs. all_below h n ++ xs) (same n (omega arith))

-- ---- the series of a choice

alternative_series : (facts : Facts) (p : ℕ) (parts : List ℕ) (k : ℕ) → k < length parts → choice_series facts p parts (suc k) ≡ meetings_of_alternative facts p parts k
alternative_series facts p parts k below = ap (λ (b : Bool). if b then meetings_of_alternative facts p parts k else alternatives_and_follow facts p parts) (inside k below)
  where
    inside : (k : ℕ) → k < length parts → nat_lt k (length parts) ≡ true
    inside k below = grind (arith, below)

last_series : (facts : Facts) (p : ℕ) (parts : List ℕ) → choice_series facts p parts (suc (length parts)) ≡ alternatives_and_follow facts p parts
last_series facts p parts = ap (λ (b : Bool). if b then meetings_of_alternative facts p parts (length parts) else alternatives_and_follow facts p parts) outside
  where
    outside : nat_lt (length parts) (length parts) ≡ false
    outside = grind arith

choice_noted : (facts : Facts) (p : ℕ) (parts : List ℕ) → all_below (choice_series facts p parts) (suc (suc (length parts))) ≡ noted_choice facts p parts
choice_noted facts p parts =
    ap (λ xs. xs ++ choice_series facts p parts (suc (length parts))) (below_after_first (choice_series facts p parts) (length parts))
    ∙ append_assoc (empty_alternatives facts p parts) (all_below (λ k. choice_series facts p parts (suc k)) (length parts)) (choice_series facts p parts (suc (length parts)))
    ∙ ap (λ xs. empty_alternatives facts p parts ++ (xs ++ choice_series facts p parts (suc (length parts))))
    (below_same (λ k. choice_series facts p parts (suc k)) (meetings_of_alternative facts p parts) (length parts) (alternative_series facts p parts))
    ∙ ap (λ xs. empty_alternatives facts p parts ++ (alternatives_that_meet facts p parts ++ xs)) (last_series facts p parts)

-- ---- the series of a node

form_noted : (facts : Facts) (p : ℕ) (n : Node) → all_below (form_series facts p n) (form_series_count n) ≡ noted_form facts p n
form_noted facts p (form.Leaf l) = refl
form_noted facts p (form.Seq parts) = refl
form_noted facts p (form.Choice parts) =
    let two : length parts + 2 ≡ suc (suc (length parts)) = omega arith in ap (all_below (choice_series facts p parts)) two ∙ choice_noted facts p parts
form_noted facts p (form.Many part) = refl
form_noted facts p (form.Chain side used operand separator) = refl
form_noted facts p (form.Rule rule) = refl
form_noted facts p (form.Expression builders term) = expression_noted
  where
    expression_noted : all_below (form_series facts p (form.Expression builders term)) 4 ≡ noted_form facts p (form.Expression builders term)
    expression_noted =
        append_assoc (form_series facts p (form.Expression builders term) 0 ++ form_series facts p (form.Expression builders term) 1) (form_series facts p (form.Expression builders term) 2)
        (form_series facts p (form.Expression builders term) 3)
form_noted facts p (form.Around around part) = refl

pub node_noted : (g : Grammar) (facts : Facts) (p : ℕ) (n : Node) → slice_get g.nodes p ≡ Some n → all_below (node_series facts p n) (form_series_count n + 1) ≡ noted_node g facts p
node_noted g facts p n at =
    ap (all_below (node_series facts p n)) (add-one (form_series_count n)) ∙ below_after_first (node_series facts p n) (form_series_count n)
    ∙ ap (λ xs. node_series facts p n 0 ++ xs) (form_noted facts p n)
    ∙ ap (λ (o : Option Node). node_series facts p n 0 ++ option_map_or (noted_form facts p) o []) (sym at)

-- ---- the questions of a series

follow_asked : (facts : Facts) (p : ℕ) (parts : List ℕ) (n : ℕ)
    → all_below (λ k. if ends_nullable facts parts then alternative_and_follow facts p parts k else []) n ≡ (if ends_nullable facts parts then all_below (alternative_and_follow facts p parts) n else [])
follow_asked facts p parts n = go (ends_nullable facts parts)
  where
    none : (m : ℕ) → all_below (λ k. []) m ≡ []
    none zero = refl
    none (suc m) = append-nil (all_below (λ k. []) m) ∙ none m

    go : (b : Bool) → all_below (λ k. if b then alternative_and_follow facts p parts k else []) n ≡ (if b then all_below (alternative_and_follow facts p parts) n else [])
    go true = refl
    go false = none n

choice_asked : (g : Grammar) (facts : Facts) (p : ℕ) (parts : List ℕ) (j : ℕ) → AreSuspects g facts.sets facts.meetings facts.suspects → slice_get g.nodes p ≡ Some (form.Choice parts)
    → all_below (asked_choice facts p parts j) (choice_questions facts parts j) ≡ choice_series facts p parts j
choice_asked g facts p parts zero are at = refl
choice_asked g facts p parts (suc j) are at = go (nat_lt j (length parts)) refl (is_marked facts.suspects (part_at parts j)) refl
  where
    go : (inside : Bool) → nat_lt j (length parts) ≡ inside → (suspect : Bool) → is_marked facts.suspects (part_at parts j) ≡ suspect
        → all_below (λ k. if inside then meeting_alternatives facts p parts j k else (if ends_nullable facts parts then alternative_and_follow facts p parts k else []))
        (if inside then (if suspect then length parts else 0) else length parts - 1)
        ≡ (if inside then meetings_of_alternative facts p parts j else alternatives_and_follow facts p parts)
    go true inside true marked = refl
    go true inside false unmarked = sym (none_noted facts p parts j (are p parts at) unmarked)
    go false outside suspect mark = follow_asked facts p parts (length parts - 1)

pub series_asked : (g : Grammar) (facts : Facts) (p : ℕ) (n : Node) (j : ℕ) → AreSuspects g facts.sets facts.meetings facts.suspects → slice_get g.nodes p ≡ Some n
    → all_below (asked_node facts p n j) (node_questions facts n j) ≡ node_series facts p n j
series_asked g facts p n zero are at = refl
series_asked g facts p (form.Leaf l) (suc j) are at = refl
series_asked g facts p (form.Seq parts) (suc j) are at = refl
series_asked g facts p (form.Choice parts) (suc j) are at = choice_asked g facts p parts j are at
series_asked g facts p (form.Many part) (suc j) are at = refl
series_asked g facts p (form.Chain side used operand separator) (suc j) are at = refl
series_asked g facts p (form.Rule rule) (suc j) are at = refl
series_asked g facts p (form.Expression builders term) (suc j) are at = refl
series_asked g facts p (form.Around around part) (suc j) are at = refl
