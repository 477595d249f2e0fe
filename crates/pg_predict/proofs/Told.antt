-- What is written from texts is what is said of violations.
use Rattle.std.proofs.Common.{◌≡◌, ℕ, zero, suc, List, [], ◌∷◌, ◌++◌, Option, Some, None, map, get_or, slice_get, string_bytes, append_assoc, refl, sym, ap, ◌∙◌}
use Rattle.std.specs.Prelude.{codes}
use Rattle.std.specs.Fmt.{decimal}
use Rattle.std.specs.Option.{option_map, option_map_or}
use Rattle.std.proofs.Math.ListN.{get_or-map}
use Rattle.pg_grammar_value.specs.Grammar.{Grammar}
use Rattle.pg_start.specs.declared.kind.StartKind.TheVariants.{End}
use Rattle.pg_sets_own.specs.PrintedStarts.{start_text}
use Rattle.pg_sets_own.specs.declared.listed.ListedStart.{ListedStart}
use Rattle.pg_predict_conditions.specs.Violations.{Violation}
use Rattle.pg_predict_conditions.specs.WithStarts.{Starts, start_at, kind_with_starts, with_starts}
use Rattle.pg_predict.specs.Findings.{Finding, rule_of, name_of, name_text, number_in_rule, placed_text, condition_number, code_text, words_text, kind_text, violation_text, finding_of, line_of, lines_of}
use Rattle.pg_predict_conditions.specs.Judged.{Facts, all_starts}
use Rattle.pg_predict.specs.Found.{Found, IsThere, found_by, found_there, violations_of, findings_of, lines_found}
use Rattle.pg_predict.specs.Texts.{name_at, start_text_at, AreTexts, IsSource}
use Rattle.pg_predict_conditions.specs.declared.operator_facts.OperatorFacts.{OperatorFacts}
use Rattle.pg_predict.specs.declared.places.Place.{Place}
use Rattle.pg_predict.specs.declared.source.Source.{Source}
use Rattle.pg_predict.specs.declared.texts.Texts.{Texts}
use Rattle.pg_predict_conditions.specs.declared.violation.ViolationKind.{ViolationKind}
use Rattle.pg_predict_conditions.specs.declared.violation.ViolationKind.TheVariants.{LeftRecursion, EmptyRound, EmptyAlternative, AlternativesMeet, AlternativeMeetsFollow, RoundMeetsFollow, EmptyOperand, OperandMeetsOperators, FollowMeetsOperators, GapMeets, StepCostOver}

-- ---- the start of operators

pub own_some : (facts : Facts) (listed : ListedStart) → option_map (λ (operators : OperatorFacts). operators.operator) facts.operators ≡ Some listed → (all_starts facts).own ≡ listed
own_some facts listed = go facts.operators
  where
    go : (o : Option OperatorFacts) → option_map (λ (operators : OperatorFacts). operators.operator) o ≡ Some listed
        → option_map_or (λ (operators : OperatorFacts). operators.operator) o (record { start = End; word = 0 }) ≡ listed
    go None e = absurd cc
    go (Some operators) e = cc

pub own_none : (facts : Facts) → option_map (λ (operators : OperatorFacts). operators.operator) facts.operators ≡ None → (all_starts facts).own ≡ record { start = End; word = 0 }
own_none facts = go facts.operators
  where
    go : (o : Option OperatorFacts) → option_map (λ (operators : OperatorFacts). operators.operator) o ≡ None
        → option_map_or (λ (operators : OperatorFacts). operators.operator) o (record { start = End; word = 0 }) ≡ record { start = End; word = 0 }
    go None e = refl
    go (Some operators) e = absurd cc

-- ---- the texts

read_or : {X : Type 0} (f : X → List ℕ) (xs : List X) (i : ℕ) (d : List ℕ) → option_map_or f (slice_get xs i) d ≡ get_or (map f xs) i d
read_or f [] zero d = refl
read_or f [] (suc i) d = refl
read_or f (x ∷ xs) zero d = refl
read_or f (x ∷ xs) (suc i) d = read_or f xs i d

name_same : (g : Grammar) (starts : Starts) (texts : Texts) → AreTexts g starts texts → (r : ℕ) → name_at texts r ≡ name_of g.rules r
name_same g starts texts are r =
    read_or string_bytes texts.names.items r [] ∙ ap (λ names. get_or names r []) are.names ∙ sym (read_or name_text g.rules r [])

start_same : (g : Grammar) (starts : Starts) (texts : Texts) → AreTexts g starts texts → (s : ℕ) → start_text_at texts s ≡ start_text g (start_at starts s)
start_same g starts texts are s =
    read_or string_bytes texts.listed.items s (string_bytes texts.own) ∙ ap (λ listed. get_or listed s (string_bytes texts.own)) are.listed
    ∙ ap (get_or (map (start_text g) starts.listed) s) are.own ∙ get_or-map (start_text g) starts.listed s starts.own

-- two starts that meet
both_same : (g : Grammar) (starts : Starts) (texts : Texts) → AreTexts g starts texts → (front : List ℕ) (s t : ℕ)
    → front ++ (start_text_at texts s ++ (codes " and " ++ start_text_at texts t)) ≡ front ++ (start_text g (start_at starts s) ++ (codes " and " ++ start_text g (start_at starts t)))
both_same g starts texts are front s t =
    ap (λ bs. front ++ (bs ++ (codes " and " ++ start_text_at texts t))) (start_same g starts texts are s)
    ∙ ap (λ bs. front ++ (start_text g (start_at starts s) ++ (codes " and " ++ bs))) (start_same g starts texts are t)

words_same : (g : Grammar) (starts : Starts) (texts : Texts) → AreTexts g starts texts → (kind : ViolationKind ℕ)
    → words_text (start_text_at texts) kind ≡ words_text (start_text g) (kind_with_starts starts kind)
words_same g starts texts are LeftRecursion = refl
words_same g starts texts are EmptyRound = refl
words_same g starts texts are (EmptyAlternative k) = refl
words_same g starts texts are (AlternativesMeet j k s t) =
    ap (λ bs. codes "alternatives " ++ (decimal j ++ (codes " and " ++ (decimal k ++ bs)))) (both_same g starts texts are (codes " meet at ") s t)
words_same g starts texts are (AlternativeMeetsFollow k s t) =
    ap (λ bs. codes "alternative " ++ (decimal k ++ bs)) (both_same g starts texts are (codes " meets the follow set at ") s t)
words_same g starts texts are (RoundMeetsFollow s t) = both_same g starts texts are (codes "repetition meets its follow set at ") s t
words_same g starts texts are EmptyOperand = refl
words_same g starts texts are (OperandMeetsOperators s) = ap (λ bs. codes "operand meets operators at " ++ bs) (start_same g starts texts are s)
words_same g starts texts are (FollowMeetsOperators s) = ap (λ bs. codes "follow set meets operators at " ++ bs) (start_same g starts texts are s)
words_same g starts texts are (GapMeets s) = ap (λ bs. codes "gap meets " ++ bs) (start_same g starts texts are s)
words_same g starts texts are StepCostOver = refl

number_same : (starts : Starts) (kind : ViolationKind ℕ) → condition_number kind ≡ condition_number (kind_with_starts starts kind)
number_same starts LeftRecursion = refl
number_same starts EmptyRound = refl
number_same starts (EmptyAlternative k) = refl
number_same starts (AlternativesMeet j k s t) = refl
number_same starts (AlternativeMeetsFollow k s t) = refl
number_same starts (RoundMeetsFollow s t) = refl
number_same starts EmptyOperand = refl
number_same starts (OperandMeetsOperators s) = refl
number_same starts (FollowMeetsOperators s) = refl
number_same starts (GapMeets s) = refl
number_same starts StepCostOver = refl

kind_same : (g : Grammar) (starts : Starts) (texts : Texts) → AreTexts g starts texts → (kind : ViolationKind ℕ)
    → kind_text (start_text_at texts) kind ≡ violation_text g (kind_with_starts starts kind)
kind_same g starts texts are kind =
    ap (λ n. code_text n ++ (codes " " ++ words_text (start_text_at texts) kind)) (number_same starts kind)
    ∙ ap (λ bs. code_text (condition_number (kind_with_starts starts kind)) ++ (codes " " ++ bs)) (words_same g starts texts are kind)

-- ---- findings

-- the code of a finding is that of its condition
pub code_same : (source : Source) (place : Place) (kind : ViolationKind ℕ) → code_text (condition_number kind) ≡ code_text (found_there source place kind).finding.number
code_same source place kind = ap code_text (number_same (all_starts source.judge) kind)

-- the line is what stands before the words, and these
pub line_pieces : (source : Source) (place : Place) (kind : ViolationKind ℕ) (code front words : List ℕ) → IsThere source place → code ≡ code_text (condition_number kind)
    → front ≡ name_at source.texts place.rule ++ (codes ":" ++ (decimal place.number ++ (codes ": " ++ (code ++ codes " ")))) → words ≡ words_text (start_text_at source.texts) kind
    → front ++ words ≡ (found_there source place kind).finding.line
line_pieces source place kind code front words is code_is front_is words_is =
    let g = source.grammar in
    let texts = source.texts in
    let starts = all_starts source.judge in
    let text = kind_text (start_text_at texts) kind in
    let rule : place.rule ≡ rule_of g.rules place.node = ap (λ (q : Place). q.rule) is.stands in
    let number : place.number ≡ number_in_rule g.rules place.node = ap (λ (q : Place). q.number) is.stands in
    ap (λ bs. bs ++ words) (front_is ∙ ap (λ bs. name_at texts place.rule ++ (codes ":" ++ (decimal place.number ++ (codes ": " ++ (bs ++ codes " "))))) code_is)
    ∙ ap (λ bs. (name_at texts place.rule ++ (codes ":" ++ (decimal place.number ++ (codes ": " ++ (code_text (condition_number kind) ++ codes " "))))) ++ bs) words_is
    ∙ regroup (name_at texts place.rule) (codes ":") (decimal place.number) (codes ": ") (code_text (condition_number kind)) (codes " ") (words_text (start_text_at texts) kind)
    ∙ ap (λ r. placed_text (name_at texts r) place.number text) rule
    ∙ ap (λ n. placed_text (name_at texts (rule_of g.rules place.node)) n text) number
    ∙ ap (λ name. placed_text name (number_in_rule g.rules place.node) text) (name_same g starts texts is.is_source.texts (rule_of g.rules place.node))
    ∙ ap (placed_text (name_of g.rules (rule_of g.rules place.node)) (number_in_rule g.rules place.node)) (kind_same g starts texts is.is_source.texts kind)
  where
    regroup : (a b c d e f w : List ℕ) → (a ++ (b ++ (c ++ (d ++ (e ++ f))))) ++ w ≡ a ++ (b ++ (c ++ (d ++ (e ++ (f ++ w)))))
    regroup a b c d e f w = simp append_assoc

-- with its line feed
pub line_parts : (f : Found) (front words : List ℕ) → front ++ words ≡ f.finding.line → line_of f.finding ≡ front ++ (words ++ 10 ∷ [])
line_parts f front words e = ap (λ bs. bs ++ 10 ∷ []) (sym e) ∙ append_assoc front words (10 ∷ [])

-- all of them
pub violations_found : (source : Source) (vs : List (Violation ℕ)) → violations_of (map (found_by source) vs) ≡ vs
violations_found source [] = refl
violations_found source (v ∷ vs) = ap (λ (ws : List (Violation ℕ)). v ∷ ws) (violations_found source vs)

pub findings_found : (source : Source) (vs : List (Violation ℕ)) → findings_of (map (found_by source) vs) ≡ map (finding_of source.grammar) (map (with_starts (all_starts source.judge)) vs)
findings_found source [] = refl
findings_found source (v ∷ vs) = ap (λ (fs : List Finding). finding_of source.grammar (with_starts (all_starts source.judge) v) ∷ fs) (findings_found source vs)

pub lines_same : (found : List Found) → lines_found found ≡ lines_of (findings_of found)
lines_same [] = refl
lines_same (f ∷ fs) = ap (λ bs. line_of f.finding ++ bs) (lines_same fs)
