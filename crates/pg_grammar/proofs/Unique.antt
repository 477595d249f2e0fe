-- What was made says which grammar it is.
use Rattle.std.proofs.Common.{◌≡◌, ℕ, zero, suc, ◌<◌, true, false, List, [], ◌∷◌, length, map, take, Some, refl, sym, ap, subst, arith, ◌∙◌}
use Rattle.std.proofs.lemmas.Bool.{or_right}
use Rattle.std.proofs.lemmas.List.{length-map}
use Rattle.std.proofs.lemmas.Slice.Eq.{bytes_eq-Decides}
use Rattle.std.specs.Str.{bytes_eq}
use Rattle.std.specs.List.{AllByRecursion}
use Rattle.pg_grammar_form.specs.Preorder.{roots}
use Rattle.pg_grammar_form.specs.Names.{Name, has_name, number_of, name_at, AreDistinct}
use Rattle.pg_grammar_form.specs.Forms.{Node, part_count, parts_of, node_part_count, form_of, InPreorder, NamesRule, NamesWord}
use Rattle.pg_grammar_value.specs.Grammar.{Grammar, IsGrammar, rule_name, rule_body, rule_names, word_names}
use Rattle.pg_grammar.specs.Made.{Made, Says, made_words}
use Rattle.pg_grammar.specs.Numbering.{node_of, nodes_from}
use Rattle.pg_grammar_form.specs.WordItems.{word_name}
use Rattle.pg_grammar_form.specs.declared.form.Form.TheVariants as form
use Rattle.pg_grammar_form.specs.declared.form.Leaf.TheVariants as leaf
use Rattle.pg_grammar_value.specs.declared.grammar.Rule.{Rule}
use Rattle.pg_grammar_form.proofs.Lookup.{number_is_found}

-- ---- numbers of names

-- what is so of each name is so of the name with a number
all-name_at : (P : Name → Type 0) (names : List Name) (r : ℕ) → AllByRecursion P names → r < length names → P (name_at names r)
all-name_at P [] r h below = absurd (omega arith)
all-name_at P (name ∷ names) zero h below = h.0
all-name_at P (name ∷ names) (suc r) h below = let fewer : r < length names = omega arith in all-name_at P names r h.1 fewer

-- distinct names have different numbers
same_number : (names : List Name) (r s : ℕ) → AreDistinct names → r < length names → s < length names → name_at names r ≡ name_at names s → r ≡ s
same_number [] r s d below under e = absurd (omega arith)
same_number (name ∷ names) zero zero d below under e = refl
same_number (name ∷ names) zero (suc s) d below under e =
    let fewer : s < length names = omega arith in
    let differs = all-name_at (λ other. bytes_eq name other ≡ false) names s d.0 fewer in
    let equal : bytes_eq name (name_at names s) ≡ true = (bytes_eq-Decides name (name_at names s)).1 e in
    absurd cc
same_number (name ∷ names) (suc r) zero d below under e =
    let fewer : r < length names = omega arith in
    let differs = all-name_at (λ other. bytes_eq name other ≡ false) names r d.0 fewer in
    let equal : bytes_eq name (name_at names r) ≡ true = (bytes_eq-Decides name (name_at names r)).1 (sym e) in
    absurd cc
same_number (name ∷ names) (suc r) (suc s) d below under e =
    let fewer : r < length names = omega arith in
    let lower : s < length names = omega arith in
    ap suc (same_number names r s d.1 fewer lower e)

-- the name with a number is among the names
pub has_name_at : (names : List Name) (r : ℕ) → r < length names → has_name names (name_at names r) ≡ true
has_name_at [] r below = absurd (omega arith)
has_name_at (name ∷ names) zero below = rw ((bytes_eq-Decides name name).1 refl) refl
has_name_at (name ∷ names) (suc r) below =
    let fewer : r < length names = omega arith in
    or_right (bytes_eq name (name_at names r)) _ (has_name_at names r fewer)

-- the number of the name with a number is that number
number_of-name_at : (names : List Name) (r : ℕ) → AreDistinct names → r < length names → number_of names (name_at names r) ≡ r
number_of-name_at names r d below =
    let found = number_is_found names (name_at names r) (has_name_at names r below) in
    same_number names (number_of names (name_at names r)) r d found.below below found.named

-- ---- nodes

-- a form has as many parts as its node
part_count-form_of : (rules words : List Name) (n : Node) → part_count (form_of rules words n) ≡ node_part_count n
part_count-form_of rules words (form.Seq parts) = refl
part_count-form_of rules words _ = refl

-- the forms have as many parts as their nodes
part_counts : (rules words : List Name) (nodes : List Node) → map part_count (map (form_of rules words) nodes) ≡ map node_part_count nodes
part_counts rules words [] = refl
part_counts rules words (n ∷ nodes) = cc (part_count-form_of rules words n, part_counts rules words nodes)

-- a node is the one of its form and its parts
node_of-form_of : (rules words : List Name) (n : Node) → AreDistinct rules → AreDistinct words → NamesRule (length rules) n → NamesWord (length words) n
    → node_of rules words (form_of rules words n) (parts_of n) ≡ n
node_of-form_of rules words (form.Leaf (leaf.Word word)) d e named word_named = ap (λ k. form.Leaf (leaf.Word k)) (number_of-name_at words word e word_named)
node_of-form_of rules words (form.Rule rule) d e named word_named = ap form.Rule (number_of-name_at rules rule d named)
node_of-form_of rules words _ d e named word_named = refl

-- nodes in preorder are those of their forms
nodes_from-forms : (rules words : List Name) (i : ℕ) (nodes : List Node) → AreDistinct rules → AreDistinct words
    → AllByRecursion (NamesRule (length rules)) nodes → AllByRecursion (NamesWord (length words)) nodes
    → InPreorder i nodes → nodes_from rules words i (map (form_of rules words) nodes) ≡ nodes
nodes_from-forms rules words i [] d e named words_named preorder = refl
nodes_from-forms rules words i (n ∷ nodes) d e named words_named preorder =
    let one = node_of-form_of rules words n d e named.0 words_named.0 in
    let parts : parts_of n ≡ take (node_part_count n) (roots (suc i) (map node_part_count nodes)) = preorder.0 in
    let others = nodes_from-forms rules words (suc i) nodes d e named.1 words_named.1 preorder.1 in
    rw (part_count-form_of rules words n, part_counts rules words nodes, ← parts, one, others) refl

-- ---- rules

-- a rule is its name and its body
abbrev rule_with : Name → ℕ → Rule
rule_with name body = record { name = name; body = body }

-- rules with the same names and bodies are the same
same_rules : (rules others : List Rule) → map rule_name rules ≡ map rule_name others → map rule_body rules ≡ map rule_body others → rules ≡ others
same_rules [] [] names bodies = refl
same_rules [] (other ∷ others) names bodies = absurd cc
same_rules (rule ∷ rules) [] names bodies = absurd cc
same_rules (rule ∷ rules) (other ∷ others) names bodies =
    let name : rule.name ≡ other.name = cc in
    let body : rule.body ≡ other.body = cc in
    let same : rule ≡ other = ap (λ n. rule_with n rule.body) name ∙ ap (rule_with other.name) body in
    let names_after : map rule_name rules ≡ map rule_name others = cc in
    let bodies_after : map rule_body rules ≡ map rule_body others = cc in
    let after = same_rules rules others names_after bodies_after in
    cc (same, after)

-- ---- the grammar

-- the nodes of a grammar are those of what it says
nodes_of_made : (made : Made) (g : Grammar) → IsGrammar g → Says made g → g.nodes ≡ nodes_from made.names (made_words made) 0 made.forms
nodes_of_made made g is says =
    let count : length g.rules ≡ length (rule_names g) = sym (length-map g.rules rule_name) in
    let named = subst (λ k. AllByRecursion (NamesRule k) g.nodes) count is.named in
    let word_count : length g.words ≡ length (word_names g) = sym (length-map g.words word_name) in
    let words_named = subst (λ k. AllByRecursion (NamesWord k) g.nodes) word_count is.words_named in
    rw (says.names, says.words, says.forms) (sym (nodes_from-forms (rule_names g) (word_names g) 0 g.nodes is.distinct is.words.distinct named words_named is.preorder))

-- grammars with the same parts are the same
same_parts : (one other : Grammar) → one.classes ≡ other.classes → one.words ≡ other.words → one.operators ≡ other.operators
    → one.initials ≡ other.initials → one.nodes ≡ other.nodes → one.rules ≡ other.rules → one.start ≡ other.start → one ≡ other
same_parts one other classes words operators initials nodes rules start =
    ap (λ cs. record one { classes = cs }) classes
    ∙ (ap (λ ws. record one { classes = other.classes; words = ws }) words
    ∙ (ap (λ o. record one { classes = other.classes; words = other.words; operators = o }) operators
    ∙ (ap (λ is. record one { classes = other.classes; words = other.words; operators = other.operators; initials = is }) initials
    ∙ (ap (λ ns. record other { nodes = ns; rules = one.rules; start = one.start }) nodes
    ∙ (ap (λ rs. record other { rules = rs; start = one.start }) rules ∙ ap (λ r. record other { start = r }) start)))))

-- two grammars that say what was made are the same
pub same_grammar : (made : Made) (one other : Grammar) → Says made one → Says made other → one ≡ other
same_grammar made one other says repeats =
    let is = says.sound in
    let also = repeats.sound in
    let nodes : one.nodes ≡ other.nodes = nodes_of_made made one is says ∙ sym (nodes_of_made made other also repeats) in
    let names : rule_names one ≡ rule_names other = sym says.names ∙ repeats.names in
    let counts : roots 0 (map node_part_count one.nodes) ≡ roots 0 (map node_part_count other.nodes) = ap (λ ns. roots 0 (map node_part_count ns)) nodes in
    let bodies : map rule_body one.rules ≡ map rule_body other.rules = is.bodies ∙ (counts ∙ sym also.bodies) in
    let rules = same_rules one.rules other.rules names bodies in
    let named : Some (name_at (rule_names one) one.start) ≡ Some (name_at (rule_names one) other.start) =
    sym says.start ∙ subst (λ ns. made.start ≡ Some (name_at ns other.start)) (sym names) repeats.start in
    let called : name_at (rule_names one) one.start ≡ name_at (rule_names one) other.start = cc in
    let below : one.start < length (rule_names one) = let h = is.start in omega (arith, length-map one.rules rule_name) in
    let under : other.start < length (rule_names one) = let h = also.start in omega (arith, ap length rules, length-map one.rules rule_name) in
    let start = same_number (rule_names one) one.start other.start is.distinct below under called in
    same_parts one other (sym says.classes ∙ repeats.classes) (sym says.words ∙ repeats.words) (sym says.operators ∙ repeats.operators)
    (sym says.initials ∙ repeats.initials) nodes rules start
