-- The sets of what stands in a grammar.
use Rattle.std.proofs.Common.{◌≡◌, ℕ, zero, suc, List, [], ◌∷◌, length, map, Option, Some, None, slice_get, unwrap_or, refl, sym, ap, ◌∙◌, arith}
use Rattle.pg_class.specs.Ranges.{Range, has}
use Rattle.pg_grammar_form.specs.Classes.{is_member}
use Rattle.pg_grammar_form.specs.Contents.{class_parts}
use Rattle.pg_grammar_form.specs.Forms.{BaseForm}
use Rattle.pg_grammar_form.specs.declared.class.ClassPart.{ClassPart}
use Rattle.pg_grammar_form.specs.declared.class_item.ClassItem.{ClassItem}
use Rattle.pg_grammar_form.specs.declared.operators_item.OperatorsItem.{OperatorsItem}
use Rattle.pg_grammar_form.specs.declared.word_item.WordItem.{WordItem}
use Rattle.pg_grammar_classes.specs.Sets.{AreItemSets, IsSetBy, AreSetsBy, IsSetOf, AreSetsOf}
use Rattle.pg_grammar_classes.specs.Classes.{answers_of}
use Rattle.pg_grammar_classes.specs.Contents.{AreContentSets, operator_expressions, word_head, word_rest}
use Rattle.pg_grammar_classes.proofs.Sets.{as_many, set_at, sets_of}

-- all together
pub contents_are : (items : List ClassItem) (classes : List (List Range)) (words : List WordItem) (operators : Option OperatorsItem) (forms : List (List ClassPart))
    (heads rests symbols nodes : List (List Range)) → AreItemSets items classes → AreSetsBy classes (map word_head words) heads
    → AreSetsBy classes (map word_rest words) rests → AreSetsBy classes (operator_expressions operators) symbols → AreSetsBy classes forms nodes
    → AreContentSets items words operators forms (record { heads = heads; rests = rests; operators = symbols; forms = nodes })
contents_are items classes words operators forms heads rests symbols nodes are by_heads by_rests by_symbols by_nodes = record {
  heads = sets_of items classes (map word_head words) heads are by_heads;
  rests = sets_of items classes (map word_rest words) rests are by_rests;
  operators = sets_of items classes (operator_expressions operators) symbols are by_symbols;
  forms = sets_of items classes forms nodes are by_nodes;
}

-- the set with a number is that of the expression with the number
pub found_at : (items : List ClassItem) (expressions : List (List ClassPart)) (sets : List (List Range)) (k : ℕ) (own : List Range)
    → AreSetsOf items expressions sets → slice_get sets k ≡ Some own → IsSetOf items (unwrap_or (slice_get expressions k) []) own
found_at items [] sets k own are there = let none = as_many items [] sets are in absurd (past sets k none there)
  where
    past : (sets : List (List Range)) (k : ℕ) → length sets ≡ 0 → slice_get sets k ≡ Some own → ⊥
    past [] zero none there = cc
    past [] (suc k) none there = cc
    past (s ∷ sets) k none there = omega arith
found_at items (e ∷ expressions) sets zero own are there = set_at items (e ∷ expressions) sets zero e own are refl there
found_at items (e ∷ expressions) [] (suc k) own are there = absurd cc
found_at items (e ∷ expressions) (s ∷ sets) (suc k) own are there = found_at items expressions sets k own (λ c is. let all = are c is in cc) there

-- where there is no set, there is no expression
pub none_at : (items : List ClassItem) (expressions : List (List ClassPart)) (sets : List (List Range)) (k : ℕ)
    → AreSetsOf items expressions sets → slice_get sets k ≡ None → unwrap_or (slice_get expressions k) [] ≡ []
none_at items [] sets zero are there = refl
none_at items [] sets (suc k) are there = refl
none_at items (e ∷ expressions) [] k are there = let long = as_many items (e ∷ expressions) [] are in absurd (omega arith)
none_at items (e ∷ expressions) (s ∷ sets) zero are there = absurd cc
none_at items (e ∷ expressions) (s ∷ sets) (suc k) are there = none_at items expressions sets k (λ c is. let all = are c is in cc) there

-- a form whose expression is written alike has the set
pub alike_has : (classes : List (List Range)) (before : List BaseForm) (sets : List (List Range)) (k : ℕ) (form : BaseForm) (class : List ClassPart) (own : List Range)
    → AreSetsBy classes (map class_parts before) sets → slice_get before k ≡ Some form → class_parts form ≡ class → slice_get sets k ≡ Some own
    → IsSetBy classes class own
alike_has classes [] sets zero form class own are at alike there c is = absurd cc
alike_has classes [] sets (suc k) form class own are at alike there c is = absurd cc
alike_has classes (f ∷ before) [] zero form class own are at alike there c is = absurd cc
alike_has classes (f ∷ before) [] (suc k) form class own are at alike there c is = absurd cc
alike_has classes (f ∷ before) (s ∷ sets) zero form class own are at alike there c is =
    let same : f ≡ form = cc in
    let this : s ≡ own = cc in
    let first : has s c ≡ is_member (answers_of classes c) (class_parts f) c = cc (are c is) in
    ap (λ x. has x c) (sym this) ∙ (first ∙ ap (λ x. is_member (answers_of classes c) x c) (ap class_parts same ∙ alike))
alike_has classes (f ∷ before) (s ∷ sets) (suc k) form class own are at alike there c is =
    alike_has classes before sets k form class own (λ b below. let e = are b below in cc) at alike there c is
