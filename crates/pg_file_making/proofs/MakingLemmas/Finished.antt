-- What a grammar says can be finished.
use Rattle.std.proofs.Common.{◌≡◌, ◌<◌, false, List, [], ◌∷◌, length, map, None, refl, sym, subst, arith}
use Rattle.std.proofs.lemmas.List.{length-map}
use Rattle.std.specs.List.{AllByRecursion, list_any}
use Rattle.pg_grammar_form.specs.Names.{Name}
use Rattle.pg_grammar_form.specs.WordItems.{word_name}
use Rattle.pg_grammar_form.specs.Forms.{Node, form_of, has_unknown_name, NamesRule, NamesWord}
use Rattle.pg_grammar_value.specs.Grammar.{Grammar, rule_name, rule_names, word_names}
use Rattle.pg_grammar.specs.Made.{Made, Says, finish_fault}
use Rattle.pg_grammar_form.specs.declared.form.Form.TheVariants as form
use Rattle.pg_grammar_form.specs.declared.form.Leaf.TheVariants as leaf
use Rattle.pg_grammar.proofs.Unique.{has_name_at}

-- a node whose numbers name something names nothing that isn't there
node_is_known : (rules words : List Name) (n : Node) → NamesRule (length rules) n → NamesWord (length words) n
    → has_unknown_name rules words (form_of rules words n) ≡ false
node_is_known rules words (form.Leaf (leaf.Word r)) h k = rw (has_name_at words r k) refl
node_is_known rules words (form.Rule r) h k = rw (has_name_at rules r h) refl
node_is_known rules words _ h k = refl

nodes_are_known : (rules words : List Name) (nodes : List Node) → AllByRecursion (NamesRule (length rules)) nodes → AllByRecursion (NamesWord (length words)) nodes
    → list_any (has_unknown_name rules words) (map (form_of rules words) nodes) ≡ false
nodes_are_known rules words [] h k = refl
nodes_are_known rules words (n ∷ nodes) h k =
    rw (node_is_known rules words n h.0 k.0) (nodes_are_known rules words nodes h.1 k.1)

-- what a grammar says can be finished
pub said_no_fault : (made : Made) (g : Grammar) → Says made g → finish_fault made ≡ None
said_no_fault made g says =
    let is = says.sound in
    let rules : length g.rules ≡ length (rule_names g) = sym (length-map g.rules rule_name) in
    let words : length g.words ≡ length (word_names g) = sym (length-map g.words word_name) in
    let named = subst (λ k. AllByRecursion (NamesRule k) g.nodes) rules is.named in
    let words_named = subst (λ k. AllByRecursion (NamesWord k) g.nodes) words is.words_named in
    let known = nodes_are_known (rule_names g) (word_names g) g.nodes named words_named in
    let below : g.start < length (rule_names g) = let h = is.start in omega (arith, rules) in
    let there = has_name_at (rule_names g) g.start below in
    rw (says.start, says.names, says.words, says.operators, says.initials, says.forms, known, is.operators_there, there) refl
