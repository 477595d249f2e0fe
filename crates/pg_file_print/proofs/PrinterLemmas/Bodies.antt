-- The nodes of a body are printed as the tree says.
use Rattle.std.proofs.Common.{◌≡◌, ◌≤◌, ◌<◌, ℕ, zero, suc, ◌+◌, false, List, [], ◌∷◌, ◌++◌, length, take, drop, map, codes, refl, sym, ap, subst, ◌∙◌, arith}
use Rattle.std.proofs.lemmas.Bool.{or_parts}
use Rattle.std.proofs.lemmas.List.{length-drop}
use Rattle.std.specs.List.{list_any}
use Rattle.std.specs.Str.{chars}
use Rattle.pg_grammar_form.specs.Names as names
use Rattle.pg_grammar_form.specs.Preorder.{SpellForms}
use Rattle.pg_grammar_form.specs.Forms.{BaseForm, Node, part_count, lacks_alternative, form_of}
use Rattle.pg_grammar_value.specs.Grammar.{Grammar, rule_names, word_names}
use Rattle.pg_grammar_form.specs.declared.class.ClassPart.{ClassPart}
use Rattle.pg_grammar_form.specs.declared.form.Form.TheVariants as form
use Rattle.pg_grammar_form.specs.declared.form.Leaf.TheVariants as leaf
use Rattle.pg_grammar_form.specs.declared.form.Around.TheVariants as around
use Rattle.pg_grammar_form.specs.declared.side.Side.{Side}
use Rattle.pg_file_items.specs.declared.words.ClassForm.{ClassForm}
use Rattle.pg_file_items.specs.declared.words.ClassForm.TheVariants as class_form
use Rattle.pg_file_tokens.specs.declared.token.Mark.TheVariants.{Close, Comma}
use Rattle.pg_file_print.specs.declared.levels.Ending.TheVariants.{Nothing}
use Rattle.pg_file_print.specs.declared.levels.Level.{Level}
use Rattle.pg_file_tokens.specs.Tokens.{Token, mark}
use Rattle.pg_file_items.specs.Tree.{Value, Of_class}
use Rattle.pg_file_items.specs.Syntax.{written, written_list, written_more, class_word, chain_word, opened}
use Rattle.pg_file_print.specs.Canonical.{class_from, class_names, values_from, choice_from, build_from, chain_from, value_at, value_of_form, values_of}
use Rattle.pg_file_print.specs.Levels.{closing, entered, coming, needed, base_piece, class_piece, builder_tokens, levels_after, node_forms, node_values, node_piece, AreBodies}
use Rattle.pg_file_print.proofs.PrinterLemmas.Nested.{after, between, IsWrittenBy, step_counted, entered_needed, drop_needed}
use Rattle.pg_file_print.proofs.PrinterLemmas.Writing.{class_front}

-- ---- one form

more_written : (vs : List Value) (rest : List Token) → written_more (values_from vs) rest ≡ after written Comma vs (mark Close ∷ rest)
more_written [] rest = refl
more_written (v ∷ vs) rest = ap (λ (ts : List Token). mark Comma ∷ written v ts) (more_written vs rest)

list_written : (vs : List Value) (rest : List Token) → written_list (values_from vs) rest ≡ between written Comma vs (mark Close ∷ rest)
list_written [] rest = refl
list_written (v ∷ vs) rest = ap (written v) (more_written vs rest)

seq_written : (items : List names.Name) (n : ℕ) (vs : List Value) → IsWrittenBy written (base_piece items (form.Seq n)) (value_of_form items (form.Seq n) (take n vs)) vs
seq_written items n vs rest = ap (opened (codes "seq")) (list_written (take n vs) rest)

choice_written : (items : List names.Name) (n : ℕ) (vs : List Value) → n ≤ length vs → lacks_alternative (form.Choice n) ≡ false
    → IsWrittenBy written (base_piece items (form.Choice n)) (choice_from (take n vs)) vs
choice_written items zero vs h e rest = absurd cc
choice_written items (suc n) [] h e rest = absurd (omega (arith, h))
choice_written items (suc n) (v ∷ vs) h e rest = ap (λ (ts : List Token). opened (codes "choice") (written v ts)) (more_written (take n vs) rest)

class_of_form : (form : ClassForm) (items : List names.Name) (class : List ClassPart) (vs : List Value) → IsWrittenBy written (class_piece form items class) (Of_class form (class_from items class)) vs
class_of_form form items class vs rest = ap (opened (class_word form)) (class_front (class_from items class) [] (mark Close ∷ rest))

build_written : (builder symbol : List ℕ) (v : Value) (rest : List Token) → written (build_from builder symbol v) rest ≡ opened (codes "build") (builder_tokens builder symbol) ++ written v (mark Close ∷ rest)
build_written builder [] v rest = refl
build_written builder (c ∷ symbol) v rest = refl

chain_written : (side : Side) (builder symbol : List ℕ) (v w : Value) (rest : List Token) → written (chain_from side builder symbol v w) rest
    ≡ opened (chain_word side) (builder_tokens builder symbol) ++ written v (mark Comma ∷ written w (mark Close ∷ rest))
chain_written side builder [] v w rest = refl
chain_written side builder (c ∷ symbol) v w rest = refl

form_written : (items : List names.Name) (form : BaseForm) (vs : List Value) → part_count form ≤ length vs → lacks_alternative form ≡ false
    → IsWrittenBy written (base_piece items form) (value_of_form items form (take (part_count form) vs)) vs
form_written items (form.Leaf (leaf.Satisfy class)) vs h e rest = class_of_form class_form.Satisfy items class vs rest
form_written items (form.Leaf (leaf.NotFollowedBy class)) vs h e rest = class_of_form class_form.NotFollowedBy items class vs rest
form_written items (form.Leaf (leaf.Declare class)) vs h e rest = class_of_form class_form.Declare items class vs rest
form_written items (form.Leaf _) vs h e rest = refl
form_written items (form.Seq n) vs h e rest = seq_written items n vs rest
form_written items (form.Choice n) vs h e rest = choice_written items n vs h e rest
form_written items (form.Rule s) vs h e rest = refl
form_written items _ [] h e rest = absurd (omega (arith, h))
form_written items (form.Chain side used operand separator) (v ∷ []) h e rest = absurd (omega (arith, h))
form_written items (form.Chain side used operand separator) (v ∷ w ∷ vs) h e rest = chain_written side (chars used.name) (chars used.symbol) v w rest
form_written items (form.Around (around.Build used symbol) part) (v ∷ vs) h e rest = build_written (chars used.name) (chars symbol) v rest
form_written items _ (v ∷ vs) h e rest = refl

count_is : (items : List names.Name) (form : BaseForm) → (base_piece items form).count ≡ part_count form
count_is items (form.Leaf (leaf.Satisfy class)) = refl
count_is items (form.Around around.Try part) = refl
count_is items _ = refl

-- ---- a form before others

-- as many values as whole forms
pub values_counted : (items : List names.Name) (j : ℕ) (forms : List BaseForm) → SpellForms j (map part_count forms) → length (values_of items forms) ≡ j
values_counted items j [] h = sym h
values_counted items zero (form ∷ forms) h = absurd h
values_counted items (suc j) (form ∷ forms) h =
    let others = values_counted items (part_count form + j) forms h in
    let dropped = length-drop (part_count form) (values_of items forms) in
    omega (arith, others, dropped)

-- what is so of a node before others
pub record StepsOn (g : Grammar) (levels : List Level) (n : Node) (nodes : List Node) : Type 0 where
  pub bodies : AreBodies g nodes
  pub text : ((node_piece g n).front ++ closing (node_piece g n).count (node_piece g n).ending levels) ++ coming written (levels_after (node_piece g n) levels) (node_values g nodes)
      ≡ coming written levels (node_values g (n ∷ nodes))
  pub enough : needed (levels_after (node_piece g n) levels) ≤ length (node_values g nodes)
  pub rest : drop (needed (levels_after (node_piece g n) levels)) (node_values g nodes) ≡ drop (needed levels) (node_values g (n ∷ nodes))

pub node_step : (g : Grammar) (levels : List Level) (n : Node) (nodes : List Node) → AreBodies g (n ∷ nodes) → needed levels ≤ length (node_values g (n ∷ nodes)) → 0 < needed levels
    → StepsOn g levels n nodes
node_step g levels n nodes h few some =
    let items = class_names g in
    let form = form_of (rule_names g) (word_names g) n in
    let vs = node_values g nodes in
    let piece = node_piece g n in
    let k = part_count form in
    let e = count_is items form in
    let counted : length vs ≡ k + length (drop k vs) = values_counted items (k + length (drop k vs)) (node_forms g nodes) h.whole in
    let enough : k ≤ length vs = omega (arith, counted) in
    let none = or_parts (lacks_alternative form) (list_any lacks_alternative (node_forms g nodes)) h.alternatives in
    let needs = entered_needed k piece.separator piece.ending levels some in
    record {
      bodies = record { whole = subst (λ (j : ℕ). SpellForms j (map part_count (node_forms g nodes))) (sym counted) h.whole; alternatives = none.1 };
      text = step_counted written piece k levels (value_of_form items form (take k vs)) vs e (form_written items form vs enough none.0) few enough some;
      enough = subst (λ (j : ℕ). needed (entered j piece.separator piece.ending levels) ≤ length vs) (sym e) (omega (arith, needs, counted, few));
      rest = subst (λ (j : ℕ). drop (needed (entered j piece.separator piece.ending levels)) vs ≡ drop (needed levels) (value_of_form items form (take k vs) ∷ drop k vs)) (sym e)
          (drop_needed k piece.separator piece.ending levels (value_of_form items form (take k vs)) vs some);
    }

-- ---- the whole body

-- the level of the whole
abbrev pub root : List Level
root = record { left = 0; separator = Comma; ending = Nothing } ∷ []

pub first_comes : (values : List Value) → 0 < length values → coming written root values ≡ written (value_at 0 values) []
first_comes [] h = absurd (omega (arith, h))
first_comes (v ∷ values) h = refl

pub root_is : (levels others : List Level) → levels ≡ record { left = 0; separator = Comma; ending = Nothing } ∷ others → others ≡ [] → levels ≡ root
root_is levels others h e = h ∙ ap (λ (ls : List Level). record { left = 0; separator = Comma; ending = Nothing } ∷ ls) e

pub some_needed : (levels : List Level) → 0 < length levels → 0 < needed levels
some_needed [] h = absurd (omega (arith, h))
some_needed (level ∷ levels) h = omega arith
