-- The page of a grammar's sets: for each rule a line with its heads and its rank, and below it a line for each node of its body.
use Rattle.std.specs.Prelude.{◌≡◌, ℕ, ◌+◌, ◌-◌, Bool, if◌then◌else◌, List, [], ◌++◌, Option, Some, None, length, map, codes, slice_get, slice_index_or}
use Rattle.std.specs.Fmt.{decimal}
use Rattle.std.specs.List.{filter, flat_map, join_by, range_with_len}
use Rattle.std.specs.Option.{option_map_or}
use Rattle.pg_grammar_value.specs.Grammar.{Grammar, rule_body}
use Rattle.pg_grammar_form.specs.Forms.{Node}
use Rattle.pg_grammar_form.specs.declared.form.Form.TheVariants as form
use Rattle.pg_grammar_form.specs.declared.form.Leaf.{Leaf}
use Rattle.pg_grammar_form.specs.declared.form.Leaf.TheVariants as leaf
use Rattle.pg_grammar_form.specs.declared.form.Around.{Around}
use Rattle.pg_grammar_form.specs.declared.form.Around.TheVariants as around
use Rattle.pg_grammar_form.specs.declared.side.Side.{Side}
use Rattle.pg_grammar_form.specs.declared.side.Side.TheVariants as side
use Rattle.pg_graph_bits.specs.Numbers.{contains, set_at}
use Rattle.pg_predict.specs.Findings.{name_text, body_of}
use Rattle.pg_graph.specs.Graphs.{numbers_at}
use Rattle.pg_graph.specs.Marks.{is_marked}
use Rattle.pg_sets_own.specs.PrintedStarts.{start_text}
use Rattle.pg_sets_nullable.specs.Ranks.{rank_at}
use Rattle.pg_sets.specs.Sets.{Sets, AreSets}

-- ---- names and texts by number

-- the names of the rules
abbrev pub names_of : Grammar → List (List ℕ)
names_of g = map name_text g.rules

-- the printed forms of the starts
abbrev pub start_texts : Grammar → Sets → List (List ℕ)
start_texts g sets = map (start_text g) sets.starts

-- the text with this number; empty if there is none
abbrev pub text_at : List (List ℕ) → ℕ → List ℕ
text_at texts k = slice_index_or texts k []

-- the texts with these numbers, in brackets and separated by semicolons
abbrev pub list_text : List (List ℕ) → List ℕ → List ℕ
list_text texts numbers = codes "[" ++ (join_by (text_at texts) (codes "; ") numbers ++ codes "]")

-- the texts of the members of a set, from the lowest number up
abbrev pub set_text : List (List ℕ) → List Bool → List ℕ
set_text texts set = list_text texts (filter (contains set) (range_with_len 0 (length texts)))

-- ---- a node's line

-- the word of a leaf
abbrev pub leaf_word : Leaf ℕ → List ℕ
leaf_word (leaf.Satisfy class) = codes "satisfy"
leaf_word (leaf.String text) = codes "string"
leaf_word (leaf.Word word) = codes "word"
leaf_word (leaf.NotFollowedBy class) = codes "notFollowedBy"
leaf_word leaf.EndOfText = codes "eof"
leaf_word (leaf.Declare class) = codes "declare"

-- the word of a chain that folds from this side
abbrev pub chain_word : Side → List ℕ
chain_word side.Left = codes "chainl1"
chain_word side.Right = codes "chainr1"

-- the word of a form around a part
abbrev pub around_word : Around → List ℕ
around_word around.Try = codes "try"
around_word around.Text = codes "text"
around_word around.Skip = codes "skip"
around_word (around.Build used symbol) = codes "build"
around_word (around.Label message) = codes "label"
around_word around.Local = codes "local"

-- the word of a form
abbrev pub form_word : Node → List ℕ
form_word (form.Leaf leaf) = leaf_word leaf
form_word (form.Seq parts) = codes "seq"
form_word (form.Choice parts) = codes "choice"
form_word (form.Many part) = codes "many"
form_word (form.Chain side used operand separator) = chain_word side
form_word (form.Rule rule) = codes "rule"
form_word (form.Expression builders term) = codes "expr"
form_word (form.Around around part) = around_word around

-- the word of the form at a node
abbrev pub word_of : Grammar → ℕ → List ℕ
word_of g p = option_map_or form_word (slice_get g.nodes p) []

abbrev pub nullable_text : Bool → List ℕ
nullable_text nullable = if nullable then codes "nullable" else codes "not nullable"

-- the number of a node in the rule whose body is b, counted from 1, and the word of its form
abbrev pub place_text : Grammar → ℕ → ℕ → List ℕ
place_text g b p = codes "  " ++ (decimal (p - b + 1) ++ (codes " " ++ (word_of g p ++ codes ": ")))

-- whether the node is nullable, its first set and its follow set
abbrev pub sets_text : List (List ℕ) → Sets → ℕ → List ℕ
sets_text starts sets p =
    nullable_text (is_marked sets.nullable p)
    ++ (codes ", first " ++ (set_text starts (set_at sets.firsts p)
    ++ (codes ", follow " ++ (set_text starts (set_at sets.follows p) ++ codes "\n"))))

-- a node's number in its rule, its form, whether it is nullable, its first and its follow set
abbrev pub node_line : Grammar → List (List ℕ) → Sets → ℕ → ℕ → List ℕ
node_line g starts sets b p = place_text g b p ++ sets_text starts sets p

-- ---- a rule's line

abbrev pub rank_text : Option ℕ → List ℕ
rank_text (Some rank) = decimal rank
rank_text None = codes "none"

-- the rule's name, its heads and its rank
abbrev pub rule_line : List (List ℕ) → Sets → ℕ → List ℕ
rule_line names sets r =
    text_at names r ++ (codes ": heads " ++ (list_text names (numbers_at sets.heads r)
    ++ (codes ", rank " ++ (rank_text (rank_at sets.ranks r) ++ codes "\n"))))

-- ---- the page

-- the end of a rule's nodes: the body of the next rule, or the number of nodes
abbrev pub end_of : Grammar → ℕ → ℕ
end_of g r = option_map_or rule_body (slice_get g.rules (r + 1)) (length g.nodes)

-- the lines of the nodes from b up to e, without e
abbrev pub node_lines : Grammar → List (List ℕ) → Sets → ℕ → ℕ → List ℕ
node_lines g starts sets b e = flat_map (node_line g starts sets b) (range_with_len b (e - b))

-- a rule's line and the lines of its nodes
abbrev pub rule_text : Grammar → List (List ℕ) → List (List ℕ) → Sets → ℕ → List ℕ
rule_text g names starts sets r = rule_line names sets r ++ node_lines g starts sets (body_of g.rules r) (end_of g r)

-- all rules
abbrev pub page_text : Grammar → List (List ℕ) → List (List ℕ) → Sets → List ℕ
page_text g names starts sets = flat_map (rule_text g names starts sets) (range_with_len 0 (length g.rules))

-- the page has the sets of the grammar
pub record IsSetsPage (g : Grammar) (page : List ℕ) : Type 0 where
  pub sets : Sets
  pub are : AreSets g sets
  pub shown : page ≡ page_text g (names_of g) (start_texts g sets) sets
