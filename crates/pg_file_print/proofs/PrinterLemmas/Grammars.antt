-- The nodes of a grammar are whole bodies, one for each rule.
use Rattle.std.proofs.Common.{◌≡◌, ◌<◌, ℕ, suc, ◌+◌, List, [], ◌∷◌, length, take, drop, map, refl, sym, ap, subst, ◌∙◌, arith}
use Rattle.std.proofs.lemmas.List.{length-drop, length-take, length-map}
use Rattle.pg_grammar_form.specs.Names as names
use Rattle.pg_grammar_form.specs.Preorder.{SpellForms, roots}
use Rattle.pg_grammar_form.specs.Forms.{BaseForm, Node, part_count, node_part_count, form_of, InPreorder}
use Rattle.pg_grammar_value.specs.Grammar.{Grammar, IsGrammar, rule_body, rule_names, word_names}
use Rattle.pg_grammar_form.specs.declared.form.Form.TheVariants as form
use Rattle.pg_file_items.specs.Tree.{Value}
use Rattle.pg_file_print.specs.Canonical.{class_names, value_at, values_of}
use Rattle.pg_file_print.specs.Levels.{node_forms, node_values, AreBodies}

counted : (rules words : List names.Name) (n : Node) → part_count (form_of rules words n) ≡ node_part_count n
counted rules words (form.Leaf leaf) = refl
counted rules words _ = refl

all_counted : (rules words : List names.Name) (nodes : List Node) → map part_count (map (form_of rules words) nodes) ≡ map node_part_count nodes
all_counted rules words [] = refl
all_counted rules words (n ∷ nodes) = let one = counted rules words n in let others = all_counted rules words nodes in cc

-- as many values as forms that are no part
as_many : (items : List names.Name) (i : ℕ) (forms : List BaseForm) → length (values_of items forms) ≡ length (roots i (map part_count forms))
as_many items i [] = refl
as_many items i (form ∷ forms) =
    let others = as_many items (suc i) forms in
    let left = length-drop (part_count form) (values_of items forms) in
    let right = length-drop (part_count form) (roots (suc i) (map part_count forms)) in
    omega (arith, others, left, right)

filled : (i : ℕ) (nodes : List Node) → InPreorder i nodes → SpellForms (length (roots i (map node_part_count nodes))) (map node_part_count nodes)
filled i [] h = refl
filled i (n ∷ nodes) h =
    let rest = roots (suc i) (map node_part_count nodes) in
    let taken = length-take (node_part_count n) rest in
    let is : node_part_count n ≡ length (take (node_part_count n) rest) = ap length h.0 in
    let dropped = length-drop (node_part_count n) rest in
    let all : length rest ≡ node_part_count n + length (drop (node_part_count n) rest) = omega (arith, taken, is, dropped) in
    subst (λ (j : ℕ). SpellForms j (map node_part_count nodes)) all (filled (suc i) nodes h.1)

pub record HasBodies (g : Grammar) : Type 0 where
  pub bodies : AreBodies g g.nodes
  pub count : length (node_values g g.nodes) ≡ length g.rules

pub grammar_bodies : (g : Grammar) → IsGrammar g → HasBodies g
grammar_bodies g h =
    let same = all_counted (rule_names g) (word_names g) g.nodes in
    let many : length (node_values g g.nodes) ≡ length (roots 0 (map node_part_count g.nodes)) =
    as_many (class_names g) 0 (node_forms g g.nodes) ∙ ap (λ (counts : List ℕ). length (roots 0 counts)) same in
    record {
      bodies = record {
        whole = subst (λ (counts : List ℕ). SpellForms (length (node_values g g.nodes)) counts) (sym same)
            (subst (λ (j : ℕ). SpellForms j (map node_part_count g.nodes)) (sym many) (filled 0 g.nodes h.preorder));
        alternatives = h.alternatives;
      };
      count = many ∙ ap length (sym h.bodies) ∙ length-map g.rules rule_body;
    }

-- the first value and the others
pub first_value : (values : List Value) → 0 < length values → values ≡ value_at 0 values ∷ drop 1 values
first_value [] h = absurd (omega (arith, h))
first_value (v ∷ values) h = refl
