-- The nodes of whole forms are those forms in preorder, with numbers for parts and names.
use Rattle.std.proofs.Common.{◌≡◌, ℕ, zero, suc, ◌+◌, false, List, [], ◌∷◌, length, map, take, refl, sym, ap}
use Rattle.std.proofs.lemmas.Bool.{or_parts, not-false}
use Rattle.std.specs.List.{AllByRecursion, list_any}
use Rattle.pg_grammar_form.specs.Preorder.{SpellForms}
use Rattle.pg_grammar_form.specs.Names.{Name, has_name}
use Rattle.pg_grammar_form.specs.Forms.{BaseForm, part_count, parts_of, node_part_count, form_of, has_unknown_name, InPreorder, NamesRule, NamesWord}
use Rattle.pg_grammar_form.specs.declared.form.Form.TheVariants as form
use Rattle.pg_grammar_form.specs.declared.form.Leaf.TheVariants as leaf
use Rattle.pg_grammar.specs.Numbering.{first_part, second_part, node_of, nodes_from}
use Rattle.pg_grammar_form.proofs.Lookup.{number_is_found}
use Rattle.pg_grammar_form.proofs.Preorder.{length-parts}

-- ---- one node

-- a node has as many parts as its form counts
node_count : (rules words : List Name) (form : BaseForm) (parts : List ℕ) → length parts ≡ part_count form
    → node_part_count (node_of rules words form parts) ≡ part_count form
node_count rules words (form.Seq n) parts h = h
node_count rules words (form.Choice n) parts h = h
node_count rules words _ parts h = refl

-- one part is the first
first_alone : (after : List ℕ) → length (take 1 after) ≡ 1 → first_part (take 1 after) ∷ [] ≡ take 1 after
first_alone [] h = absurd cc
first_alone (part ∷ after) h = refl

-- two parts are the first and the second
two_alone : (after : List ℕ) → length (take 2 after) ≡ 2 → first_part (take 2 after) ∷ second_part (take 2 after) ∷ [] ≡ take 2 after
two_alone [] h = absurd cc
two_alone (part ∷ []) h = absurd cc
two_alone (part ∷ other ∷ after) h = refl

-- the parts of a node are the next of those after it
node_parts : (rules words : List Name) (form : BaseForm) (after : List ℕ) → length (take (part_count form) after) ≡ part_count form
    → let n = node_of rules words form (take (part_count form) after) in parts_of n ≡ take (node_part_count n) after
node_parts rules words (form.Leaf leaf) after h = refl
node_parts rules words (form.Seq n) after h = ap (λ k. take k after) (sym h)
node_parts rules words (form.Choice n) after h = ap (λ k. take k after) (sym h)
node_parts rules words (form.Chain side used operand separator) after h = two_alone after h
node_parts rules words (form.Rule name) after h = refl
node_parts rules words _ after h = first_alone after h

-- the base form of the node of a form is that form
node_form : (rules words : List Name) (form : BaseForm) (parts : List ℕ) → length parts ≡ part_count form → has_unknown_name rules words form ≡ false
    → form_of rules words (node_of rules words form parts) ≡ form
node_form rules words (form.Seq n) parts h k = ap form.Seq h
node_form rules words (form.Choice n) parts h k = ap form.Choice h
node_form rules words (form.Leaf (leaf.Word name)) parts h k =
    ap (λ w. form.Leaf (leaf.Word w)) (number_is_found words name (not-false (has_name words name) k)).named
node_form rules words (form.Rule name) parts h k = ap form.Rule (number_is_found rules name (not-false (has_name rules name) k)).named
node_form rules words _ parts h k = refl

-- the rule that the node of a form names is there
node_named : (rules words : List Name) (form : BaseForm) (parts : List ℕ) → has_unknown_name rules words form ≡ false
    → NamesRule (length rules) (node_of rules words form parts)
node_named rules words (form.Rule name) parts k = (number_is_found rules name (not-false (has_name rules name) k)).below
node_named rules words _ parts k = tt

-- the word item that the node of a form names is there
node_word_named : (rules words : List Name) (form : BaseForm) (parts : List ℕ) → has_unknown_name rules words form ≡ false
    → NamesWord (length words) (node_of rules words form parts)
node_word_named rules words (form.Leaf (leaf.Word name)) parts k = (number_is_found words name (not-false (has_name words name) k)).below
node_word_named rules words _ parts k = tt

-- ---- all nodes

-- the nodes have as many parts as the forms count
pub counts-nodes_from : (rules words : List Name) (i k : ℕ) (forms : List BaseForm) → SpellForms k (map part_count forms)
    → map node_part_count (nodes_from rules words i forms) ≡ map part_count forms
counts-nodes_from rules words i k [] h = refl
counts-nodes_from rules words i zero (form ∷ forms) h = absurd h
counts-nodes_from rules words i (suc k) (form ∷ forms) h =
    let one = node_count rules words form _ (length-parts (suc i) k (part_count form) (map part_count forms) h) in
    let others = counts-nodes_from rules words (suc i) (part_count form + k) forms h in
    cc (one, others)

-- the nodes stand in preorder, as the forms do
pub preorder-nodes_from : (rules words : List Name) (i k : ℕ) (forms : List BaseForm) → SpellForms k (map part_count forms)
    → InPreorder i (nodes_from rules words i forms)
preorder-nodes_from rules words i k [] h = tt
preorder-nodes_from rules words i zero (form ∷ forms) h = absurd h
preorder-nodes_from rules words i (suc k) (form ∷ forms) h =
    let parts = node_parts rules words form _ (length-parts (suc i) k (part_count form) (map part_count forms) h) in
    let counts = counts-nodes_from rules words (suc i) (part_count form + k) forms h in
    (rw counts parts, preorder-nodes_from rules words (suc i) (part_count form + k) forms h)

-- the base forms of the nodes are the forms
pub forms-nodes_from : (rules words : List Name) (i k : ℕ) (forms : List BaseForm) → SpellForms k (map part_count forms)
    → list_any (has_unknown_name rules words) forms ≡ false → map (form_of rules words) (nodes_from rules words i forms) ≡ forms
forms-nodes_from rules words i k [] h e = refl
forms-nodes_from rules words i zero (form ∷ forms) h e = absurd h
forms-nodes_from rules words i (suc k) (form ∷ forms) h e =
    let known = or_parts (has_unknown_name rules words form) (list_any (has_unknown_name rules words) forms) e in
    let one = node_form rules words form _ (length-parts (suc i) k (part_count form) (map part_count forms) h) known.0 in
    let others = forms-nodes_from rules words (suc i) (part_count form + k) forms h known.1 in
    cc (one, others)

-- the rules that the nodes name are there
pub named-nodes_from : (rules words : List Name) (i : ℕ) (forms : List BaseForm) → list_any (has_unknown_name rules words) forms ≡ false
    → AllByRecursion (NamesRule (length rules)) (nodes_from rules words i forms)
named-nodes_from rules words i [] e = tt
named-nodes_from rules words i (form ∷ forms) e =
    let known = or_parts (has_unknown_name rules words form) (list_any (has_unknown_name rules words) forms) e in
    (node_named rules words form _ known.0, named-nodes_from rules words (suc i) forms known.1)

-- the word items that the nodes name are there
pub words_named-nodes_from : (rules words : List Name) (i : ℕ) (forms : List BaseForm) → list_any (has_unknown_name rules words) forms ≡ false
    → AllByRecursion (NamesWord (length words)) (nodes_from rules words i forms)
words_named-nodes_from rules words i [] e = tt
words_named-nodes_from rules words i (form ∷ forms) e =
    let known = or_parts (has_unknown_name rules words form) (list_any (has_unknown_name rules words) forms) e in
    (node_word_named rules words form _ known.0, words_named-nodes_from rules words (suc i) forms known.1)

-- there are as many nodes as forms
pub length-nodes_from : (rules words : List Name) (i : ℕ) (forms : List BaseForm) → length (nodes_from rules words i forms) ≡ length forms
length-nodes_from rules words i [] = refl
length-nodes_from rules words i (form ∷ forms) = ap suc (length-nodes_from rules words (suc i) forms)
