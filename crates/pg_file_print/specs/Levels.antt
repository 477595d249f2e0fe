-- How nested parts are written from left to right. For each open form, the innermost first, a level has the number of its parts still to come and the
-- form's ending.
use Rattle.std.specs.Prelude.{◌≡◌, ℕ, zero, suc, ◌+◌, false, List, [], ◌∷◌, ◌++◌, length, map, codes}
use Rattle.std.specs.List.{list_any}
use Rattle.std.specs.Str.{chars}
use Rattle.pg_grammar_form.specs.Preorder.{SpellForms}
use Rattle.pg_grammar_form.specs.Forms.{BaseForm, Node, part_count, form_of, lacks_alternative}
use Rattle.pg_grammar_value.specs.Grammar.{Grammar, rule_names, word_names}
use Rattle.pg_grammar_form.specs.Names as names
use Rattle.pg_grammar_form.specs.Names.{name_at}
use Rattle.pg_grammar_form.specs.declared.class.ClassPart.{ClassPart}
use Rattle.pg_grammar_form.specs.declared.class.ClassPart.TheVariants as part
use Rattle.pg_grammar_form.specs.declared.form.Form.TheVariants as form
use Rattle.pg_grammar_form.specs.declared.form.Leaf.{Leaf}
use Rattle.pg_grammar_form.specs.declared.form.Leaf.TheVariants as leaf
use Rattle.pg_grammar_form.specs.declared.form.Around.{Around}
use Rattle.pg_grammar_form.specs.declared.form.Around.TheVariants as around
use Rattle.pg_grammar_form.specs.declared.side.Side.{Side}
use Rattle.pg_grammar_form.specs.declared.used.ChainBuilder.{ChainBuilder}
use Rattle.pg_grammar_form.specs.declared.used.OperatorBuilders.{OperatorBuilders}
use Rattle.pg_file_items.specs.declared.words.ClassForm.{ClassForm}
use Rattle.pg_file_items.specs.declared.words.ClassForm.TheVariants as class_form
use Rattle.pg_file_tokens.specs.declared.token.Mark.{Mark}
use Rattle.pg_file_tokens.specs.declared.token.Mark.TheVariants.{Open, Close, Comma, Bar, Dots}
use Rattle.pg_file_print.specs.declared.levels.Ending.{Ending}
use Rattle.pg_file_print.specs.declared.levels.Ending.TheVariants as ending
use Rattle.pg_file_print.specs.declared.levels.Level.{Level}
use Rattle.pg_file_tokens.specs.Tokens.{Token, name, literal, mark}
use Rattle.pg_file_items.specs.Syntax.{class_word, chain_word, class_written, opened}
use Rattle.pg_file_items.specs.Tree.{Value}
use Rattle.pg_file_print.specs.Canonical.{class_from, class_names, values_of}
use Rattle.pg_file_print.specs.Layout.{Laid, with_tokens}

-- ---- after a part

-- the tokens that end a form
abbrev pub ending_tokens : Ending → List Token
ending_tokens ending.Nothing = []
ending_tokens ending.Close = mark Close ∷ []
ending_tokens (ending.Message message) = mark Comma ∷ literal message ∷ mark Close ∷ []

-- the tokens after a part, if n parts of its level are still to come and `rest` follows the level
abbrev pub end_at : ℕ → Level → List Token → List Token
end_at zero level rest = ending_tokens level.ending ++ rest
end_at (suc n) level rest = mark level.separator ∷ []

-- the tokens up to the next part
abbrev pub ended : List Level → List Token
ended [] = []
ended (level ∷ levels) = end_at level.left level (ended levels)

abbrev pub left_at : ℕ → Level → List Level → List Level → List Level
left_at zero level levels rest = rest
left_at (suc n) level levels rest = record { left = n; separator = level.separator; ending = level.ending } ∷ levels

-- the levels at the next part
abbrev pub left_over : List Level → List Level
left_over [] = []
left_over (level ∷ levels) = left_at level.left level levels (left_over levels)

-- ---- a form

-- the tokens before a form's parts, the number of parts, the mark between two, and the form's ending
pub record Piece : Type 0 where
  pub front : List Token
  pub count : ℕ
  pub separator : Mark
  pub ending : Ending

-- the tokens after the front of a form: none, or for a form without parts its ending and what follows
abbrev pub closing : ℕ → Ending → List Level → List Token
closing zero end levels = ending_tokens end ++ ended levels
closing (suc n) end levels = []

-- the levels at its first part or, if there is none, at the next part
abbrev pub entered : ℕ → Mark → Ending → List Level → List Level
entered zero separator end levels = left_over levels
entered (suc n) separator end levels = record { left = n; separator = separator; ending = end } ∷ levels

-- the text with one form more, up to its first part
abbrev pub with_piece : Laid → Piece → List Level → Laid
with_piece laid piece levels = with_tokens laid (piece.front ++ closing piece.count piece.ending levels)

-- the levels after that form's front
abbrev pub levels_after : Piece → List Level → List Level
levels_after piece levels = entered piece.count piece.separator piece.ending levels

-- ---- the tokens still to come

-- how a part is written before a rest
abbrev pub Writer : Type 0 → Type 0
Writer A = A → List Token → List Token

-- n parts, each after a separator, and then the rest
abbrev pub more : {A : Type 0} → Writer A → (List A → List Token) → Mark → ℕ → List A → List Token
more writes tail separator zero parts = tail parts
more writes tail separator (suc n) [] = []
more writes tail separator (suc n) (p ∷ parts) = mark separator ∷ writes p (more writes tail separator n parts)

-- the tokens still to come after a part
abbrev pub awaited : {A : Type 0} → Writer A → List Level → List A → List Token
awaited writes [] parts = []
awaited writes (level ∷ levels) parts = more writes (λ rest. ending_tokens level.ending ++ awaited writes levels rest) level.separator level.left parts

-- the tokens still to come, beginning with a part
abbrev pub coming : {A : Type 0} → Writer A → List Level → List A → List Token
coming writes [] parts = []
coming writes (level ∷ levels) [] = []
coming writes (level ∷ levels) (p ∷ parts) = writes p (awaited writes (level ∷ levels) parts)

-- how many parts are still to come after the next one
abbrev pub owed : List Level → ℕ
owed [] = 0
owed (level ∷ levels) = level.left + owed levels

-- how many parts are still to come, with the next one
abbrev pub needed : List Level → ℕ
needed [] = 0
needed (level ∷ levels) = suc (level.left + owed levels)

-- ---- class expressions

-- a piece of tokens, without parts
abbrev pub tokens_alone : List Token → Piece
tokens_alone tokens = record { front = tokens; count = 0; separator = Bar; ending = ending.Nothing }

-- a part inside an expression
abbrev pub part_piece : List names.Name → ClassPart → Piece
part_piece items (part.Literal s) = tokens_alone (literal s ∷ [])
part_piece items (part.Range low high) = tokens_alone (literal (low ∷ []) ∷ mark Dots ∷ literal (high ∷ []) ∷ [])
part_piece items (part.Union n) = record { front = mark Open ∷ []; count = n; separator = Bar; ending = ending.Close }
part_piece items part.Complement = record { front = name (codes "not") ∷ []; count = 1; separator = Bar; ending = ending.Nothing }
part_piece items (part.Class k) = tokens_alone (name (name_at items k) ∷ [])
part_piece items (part.Predicate used) = tokens_alone (name (chars used.name) ∷ [])

-- the first part of an expression, without parentheses around the whole
abbrev pub first_piece : List names.Name → ClassPart → Piece
first_piece items (part.Literal s) = part_piece items (part.Literal s)
first_piece items (part.Range low high) = part_piece items (part.Range low high)
first_piece items (part.Union n) = record { front = []; count = n; separator = Bar; ending = ending.Nothing }
first_piece items part.Complement = part_piece items part.Complement
first_piece items (part.Class k) = part_piece items (part.Class k)
first_piece items (part.Predicate used) = part_piece items (part.Predicate used)

-- ---- base forms

-- a word and its arguments up to the parts
abbrev pub form_piece : List ℕ → List Token → ℕ → Piece
form_piece word arguments n = record { front = opened word arguments; count = n; separator = Comma; ending = ending.Close }

abbrev pub class_piece : ClassForm → List names.Name → List ClassPart → Piece
class_piece form items class = form_piece (class_word form) (class_written (class_from items class) []) 0

-- a symbol, if it isn't empty
abbrev pub symbol_tokens : List ℕ → List Token
symbol_tokens [] = []
symbol_tokens (c ∷ symbol) = literal (c ∷ symbol) ∷ mark Comma ∷ []

-- a builder and its symbol
abbrev pub builder_tokens : List ℕ → List ℕ → List Token
builder_tokens builder symbol = name builder ∷ mark Comma ∷ symbol_tokens symbol

abbrev pub expression_piece : OperatorBuilders → Piece
expression_piece builders =
    form_piece (codes "expr") (name (chars builders.«infix».name) ∷ mark Comma ∷ name (chars builders.prefix.name) ∷ mark Comma ∷ name (chars builders.postfix.name) ∷ mark Comma ∷ []) 1

abbrev pub label_piece : List ℕ → Piece
label_piece message = record { front = opened (codes "label") []; count = 1; separator = Comma; ending = ending.Message message }

abbrev pub leaf_piece : List names.Name → Leaf names.Name → Piece
leaf_piece items (leaf.Satisfy class) = class_piece class_form.Satisfy items class
leaf_piece items (leaf.String s) = form_piece (codes "string") (literal s ∷ []) 0
leaf_piece items (leaf.Word s) = form_piece (codes "word") (name s ∷ []) 0
leaf_piece items (leaf.NotFollowedBy class) = class_piece class_form.NotFollowedBy items class
leaf_piece items leaf.EndOfText = tokens_alone (name (codes "eof") ∷ [])
leaf_piece items (leaf.Declare class) = class_piece class_form.Declare items class

abbrev pub around_piece : Around → Piece
around_piece around.Try = form_piece (codes "try") [] 1
around_piece around.Text = form_piece (codes "text") [] 1
around_piece around.Skip = form_piece (codes "skip") [] 1
around_piece (around.Build used symbol) = form_piece (codes "build") (builder_tokens (chars used.name) (chars symbol)) 1
around_piece (around.Label message) = label_piece message
around_piece around.Local = form_piece (codes "local") [] 1

abbrev pub chain_piece : Side → ChainBuilder → Piece
chain_piece side used = form_piece (chain_word side) (builder_tokens (chars used.name) (chars used.symbol)) 2

abbrev pub base_piece : List names.Name → BaseForm → Piece
base_piece items (form.Leaf leaf) = leaf_piece items leaf
base_piece items (form.Seq n) = form_piece (codes "seq") [] n
base_piece items (form.Choice n) = form_piece (codes "choice") [] n
base_piece items (form.Many part) = form_piece (codes "many") [] 1
base_piece items (form.Chain side used operand separator) = chain_piece side used
base_piece items (form.Rule s) = tokens_alone (name s ∷ [])
base_piece items (form.Expression builders part) = expression_piece builders
base_piece items (form.Around around part) = around_piece around

-- ---- bodies of a grammar

-- the base forms of some nodes
abbrev pub node_forms : Grammar → List Node → List BaseForm
node_forms g nodes = map (form_of (rule_names g) (word_names g)) nodes

-- the values that the nodes spell
abbrev pub node_values : Grammar → List Node → List Value
node_values g nodes = values_of (class_names g) (node_forms g nodes)

abbrev pub node_piece : Grammar → Node → Piece
node_piece g n = base_piece (class_names g) (form_of (rule_names g) (word_names g) n)

-- the nodes are whole bodies, and each choice in them has an alternative
pub record AreBodies (g : Grammar) (nodes : List Node) : Type 0 where
  pub whole : SpellForms (length (node_values g nodes)) (map part_count (node_forms g nodes))
  pub alternatives : list_any lacks_alternative (node_forms g nodes) ≡ false
