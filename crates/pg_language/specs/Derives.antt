-- What the nodes of a grammar derive, in any order of trying.
use Rattle.std.specs.Prelude.{◌≡◌, ◌+◌, ◌-◌, ℕ, zero, suc, List, [], ◌∷◌, ◌++◌, Some, length, slice_get, take, drop, codes}
use Rattle.std.specs.Str.{encode_utf8_all}
use Rattle.pg_tree.specs.Trees.{Tree, node, kids_of}
use Rattle.pg_tree.specs.Trees as trees
use Rattle.pg_tree.specs.Built.{built}
use Rattle.pg_tree.specs.declared.shape.Shape.{Shape}
use Rattle.pg_grammar_value.specs.Grammar.{Grammar}
use Rattle.pg_grammar_form.specs.Operators.{Operator}
use Rattle.pg_grammar_form.specs.declared.class.ClassPart.{ClassPart}
use Rattle.pg_grammar_form.specs.declared.used.BuilderUse.{BuilderUse}
use Rattle.pg_grammar_form.specs.declared.used.ChainBuilder.{ChainBuilder}
use Rattle.pg_grammar_form.specs.declared.used.OperatorBuilders.{OperatorBuilders}
use Rattle.pg_grammar_form.specs.Forms.{Node}
use Rattle.pg_grammar_form.specs.declared.form.Form.TheVariants as form
use Rattle.pg_grammar_form.specs.declared.form.Leaf.TheVariants as read
use Rattle.pg_grammar_form.specs.declared.form.Leaf.{Leaf}
use Rattle.pg_grammar_form.specs.declared.form.Around.{Around}
use Rattle.pg_grammar_form.specs.declared.form.Around.TheVariants as kind
use Rattle.pg_grammar_form.specs.declared.side.Side.{Side}
use Rattle.pg_grammar_form.specs.declared.side.Side.TheVariants.{Left, Right}
use Rattle.pg_grammar_value.specs.declared.grammar.Rule as declared
use Rattle.pg_grammar_form.specs.declared.operators_item.OperatorsItem.{OperatorsItem}
use Rattle.pg_grammar_form.specs.declared.word_item.WordItem.{WordItem}
use Rattle.pg_table.specs.Tables.{Table, Admits, with_operator}
use Rattle.pg_table.specs.Fitting.{Expression, term, prefixed, postfixed, joined, IsFitting}
use Rattle.pg_grammar_value.specs.declared.trail.TrailItem.{TrailItem}
use Rattle.pg_grammar_value.specs.declared.trail.TrailItem.TheVariants.{Alt, Rounds, Ops}
use Rattle.pg_table.specs.Trails.{operators_read}
use Rattle.pg_language.specs.Runs.{HasAt, StandsAt, IsWordAt, IsOperatorAt, IsDeclarationAt, keyword}

-- a place in a text, and the operator table in force there
pub record Spot : Type 0 where
  pub place : ℕ
  pub table : Table

-- the spot at another place, with the same table
abbrev pub at : Spot → ℕ → Spot
at spot place = record { place = place; table = spot.table }

-- the spot n characters further on, with the same table
abbrev pub after : Spot → ℕ → Spot
after spot n = at spot (spot.place + n)

-- ---- values

-- the leaf of these characters
abbrev pub leaf_of : List ℕ → Tree
leaf_of characters = trees.leaf (encode_utf8_all characters)

-- the characters between two places
abbrev pub span : List ℕ → ℕ → ℕ → List ℕ
span text from to = take (to - from) (drop from text)

-- the tree of a declaration: its keyword, its digit and its symbol
abbrev pub declaration_tree : Operator → Tree
declaration_tree d = node (codes "declare") (kids_of (leaf_of (keyword d.role) ∷ leaf_of ((48 + d.precedence) ∷ []) ∷ leaf_of d.symbol ∷ []))

-- a round of a chain: the separator's forest and that of the operand after it
abbrev pub Link : Type 0
Link = List Tree × List Tree

-- the forest on the left of the next round, from a forest, a separator's and an operand's; a chain folded from the left makes one tree of the three
abbrev pub carried : Side → Shape → List Tree → List Tree → List Tree → List Tree
carried Left shape x s y = built shape [] (x ++ s ++ y) ∷ []
carried Right shape x s y = y

-- the forest of a chain from a forest, a separator's and that of the rest; a chain folded from the right makes one tree of the three
abbrev pub finished : Side → Shape → List Tree → List Tree → List Tree → List Tree
finished Left shape x s z = z
finished Right shape x s z = built shape [] (x ++ s ++ z) ∷ []

-- the forest of a chain, from its first operand's and those of its rounds
abbrev pub folded : Side → Shape → List Tree → List Link → List Tree
folded side shape x [] = x
folded side shape x (link ∷ links) = finished side shape x link.0 (folded side shape (carried side shape x link.0 link.1) links)

-- the tree of an operator and its operands, as a forest
abbrev pub applied : BuilderUse → Operator → List Tree → List Tree
applied used o operands = built used.shape (encode_utf8_all o.symbol) operands ∷ []

-- the forest of a form around a part, from the text, the places before and after the part, and the part's forest
abbrev pub made_by : Around → List ℕ → ℕ → ℕ → List Tree → List Tree
made_by kind.Try text from to forest = forest
made_by kind.Text text from to forest = leaf_of (span text from to) ∷ []
made_by kind.Skip text from to forest = []
made_by (kind.Build used symbol) text from to forest = built used.shape symbol forest ∷ []
made_by (kind.Label message) text from to forest = forest
made_by kind.Local text from to forest = forest

-- the table in force after a form around a part, from those before and after the part; declarations in `local` end with it
abbrev pub table_by : Around → Table → Table → Table
table_by kind.Try before after = after
table_by kind.Text before after = after
table_by kind.Skip before after = after
table_by (kind.Build used symbol) before after = after
table_by (kind.Label message) before after = after
table_by kind.Local before after = before

-- the spot after a form around a part, from those before and after the part
abbrev pub left_by : Around → Spot → Spot → Spot
left_by k a b = record { place = b.place; table = table_by k a.table b.table }

-- ---- leaves

-- the leaf spans the text from one spot to the other, with this forest
pub data Reads (g : Grammar) (text : List ℕ) : Leaf ℕ → Spot → Spot → List Tree → Type 0 where
  -- one character of the class
  satisfy : {class : List ClassPart} {a : Spot} (has : HasAt g text class a.place) →
      Reads g text (read.Satisfy class) a (after a 1) (leaf_of (has.character ∷ []) ∷ [])
  -- these characters
  string : {characters : List ℕ} {a : Spot} → StandsAt text a.place characters →
      Reads g text (read.String characters) a (after a (length characters)) (leaf_of characters ∷ [])
  -- a word of the item
  word : {w : ℕ} {item : WordItem} {s : List ℕ} {a : Spot} → slice_get g.words w ≡ Some item → IsWordAt g text item a.place s →
      Reads g text (read.Word w) a (after a (length s)) (leaf_of s ∷ [])
  -- no character of the class comes next
  not_followed_by : {class : List ClassPart} {a : Spot} → (HasAt g text class a.place → ⊥) → Reads g text (read.NotFollowedBy class) a a []
  -- the end of the text
  end_of_text : {a : Spot} → a.place ≡ length text → Reads g text read.EndOfText a a []
  -- a declaration that the table admits
  declare : {class : List ClassPart} {item : OperatorsItem} {d : Operator} {j : ℕ} {a : Spot} →
      g.operators ≡ Some item → IsDeclarationAt g text item class d a.place j → Admits a.table d →
      Reads g text (read.Declare class) a (record { place = j; table = with_operator a.table d }) (declaration_tree d ∷ [])

-- ---- derivations

mutual
  -- the node spans the text from one spot to the other, with this forest and trail
  pub data Derives (g : Grammar) (text : List ℕ) : ℕ → Spot → Spot → List Tree → List TrailItem → Type 0 where
    at_node : {p : ℕ} {n : Node} {a b : Spot} {forest : List Tree} {trail : List TrailItem} →
        slice_get g.nodes p ≡ Some n → DerivesForm g text n a b forest trail → Derives g text p a b forest trail

  -- as `Derives`, for the form of a node
  pub data DerivesForm (g : Grammar) (text : List ℕ) : Node → Spot → Spot → List Tree → List TrailItem → Type 0 where
    -- what the leaf reads
    leaf : {l : Leaf ℕ} {a b : Spot} {forest : List Tree} → Reads g text l a b forest → DerivesForm g text (form.Leaf l) a b forest []
    -- all parts, in order
    seq : {parts : List ℕ} {a b : Spot} {forest : List Tree} {trail : List TrailItem} → DerivesParts g text parts a b forest trail →
        DerivesForm g text (form.Seq parts) a b forest trail
    -- one alternative, whose number the trail notes
    choice : {parts : List ℕ} {k p : ℕ} {a b : Spot} {forest : List Tree} {trail : List TrailItem} → slice_get parts k ≡ Some p →
        Derives g text p a b forest trail → DerivesForm g text (form.Choice parts) a b forest (Alt (suc k) ∷ trail)
    -- any number of rounds
    many : {p n : ℕ} {a b : Spot} {forest : List Tree} {trail : List TrailItem} → DerivesRounds g text p n a b forest trail →
        DerivesForm g text (form.Many p) a b forest (Rounds n ∷ trail)
    -- an operand, and then any number of separators and operands
    chain : {side : Side} {used : ChainBuilder} {p s n : ℕ} {a b c : Spot} {first : List Tree} {links : List Link} {trail items : List TrailItem} →
        Derives g text p a b first trail → DerivesLinks g text p s n b c links items →
        DerivesForm g text (form.Chain side used p s) a c (folded side used.shape first links) (Rounds n ∷ (trail ++ items))
    -- the rule's body
    rule : {r : ℕ} {named : declared.Rule} {a b : Spot} {forest : List Tree} {trail : List TrailItem} → slice_get g.rules r ≡ Some named →
        Derives g text named.body a b forest trail → DerivesForm g text (form.Rule r) a b forest trail
    -- a tree that fits the table in force, with its operators and terms in reading order
    expression : {builders : OperatorBuilders} {item : OperatorsItem} {p : ℕ} {x : Expression} {a b : Spot} {forest : List Tree} {trail : List TrailItem} →
        g.operators ≡ Some item → IsFitting a.table.operators x → DerivesExpression g text item builders p x a b forest trail →
        DerivesForm g text (form.Expression builders p) a b forest (Ops (operators_read x) ∷ trail)
    -- the part; the form determines the forest and the table after it
    around : {k : Around} {p : ℕ} {a b : Spot} {forest : List Tree} {trail : List TrailItem} → Derives g text p a b forest trail →
        DerivesForm g text (form.Around k p) a (left_by k a b) (made_by k text a.place b.place forest) trail

  -- the parts span adjoining stretches, each starts with the table that the one before left, and the forests are joined
  pub data DerivesParts (g : Grammar) (text : List ℕ) : List ℕ → Spot → Spot → List Tree → List TrailItem → Type 0 where
    no_part : {a : Spot} → DerivesParts g text [] a a [] []
    first_part : {p : ℕ} {parts : List ℕ} {a b c : Spot} {forest others : List Tree} {trail items : List TrailItem} →
        Derives g text p a b forest trail → DerivesParts g text parts b c others items → DerivesParts g text (p ∷ parts) a c (forest ++ others) (trail ++ items)

  -- as `DerivesParts`, for n rounds of one part
  pub data DerivesRounds (g : Grammar) (text : List ℕ) : ℕ → ℕ → Spot → Spot → List Tree → List TrailItem → Type 0 where
    no_round : {p : ℕ} {a : Spot} → DerivesRounds g text p zero a a [] []
    first_round : {p n : ℕ} {a b c : Spot} {forest others : List Tree} {trail items : List TrailItem} →
        Derives g text p a b forest trail → DerivesRounds g text p n b c others items → DerivesRounds g text p (suc n) a c (forest ++ others) (trail ++ items)

  -- as `DerivesParts`, for n separators s, each with an operand p after it
  pub data DerivesLinks (g : Grammar) (text : List ℕ) : ℕ → ℕ → ℕ → Spot → Spot → List Link → List TrailItem → Type 0 where
    no_link : {p s : ℕ} {a : Spot} → DerivesLinks g text p s zero a a [] []
    first_link : {p s n : ℕ} {a b c d : Spot} {separator operand : List Tree} {links : List Link} {trail items others : List TrailItem} →
        Derives g text s a b separator trail → Derives g text p b c operand items → DerivesLinks g text p s n c d links others →
        DerivesLinks g text p s (suc n) a d ((separator, operand) ∷ links) (trail ++ items ++ others)

  -- as `DerivesParts`, for the operators and terms of a tree in reading order
  pub data DerivesExpression (g : Grammar) (text : List ℕ) : OperatorsItem → OperatorBuilders → ℕ → Expression → Spot → Spot → List Tree → List TrailItem → Type 0 where
    a_term : {item : OperatorsItem} {builders : OperatorBuilders} {p : ℕ} {a b : Spot} {forest : List Tree} {trail : List TrailItem} → Derives g text p a b forest trail →
        DerivesExpression g text item builders p term a b forest trail
    a_prefix : {item : OperatorsItem} {builders : OperatorBuilders} {p : ℕ} {o : Operator} {x : Expression} {j : ℕ} {a b : Spot} {forest : List Tree} {trail : List TrailItem} →
        IsOperatorAt g text item o.symbol a.place j → DerivesExpression g text item builders p x (at a j) b forest trail →
        DerivesExpression g text item builders p (prefixed o x) a b (applied builders.prefix o forest) trail
    a_postfix : {item : OperatorsItem} {builders : OperatorBuilders} {p : ℕ} {o : Operator} {x : Expression} {j : ℕ} {a b : Spot} {forest : List Tree} {trail : List TrailItem} →
        DerivesExpression g text item builders p x a b forest trail → IsOperatorAt g text item o.symbol b.place j →
        DerivesExpression g text item builders p (postfixed o x) a (at b j) (applied builders.postfix o forest) trail
    an_infix : {item : OperatorsItem} {builders : OperatorBuilders} {p : ℕ} {o : Operator} {x y : Expression} {j : ℕ} {a b c : Spot} {left right : List Tree} {trail items : List TrailItem} →
        DerivesExpression g text item builders p x a b left trail → IsOperatorAt g text item o.symbol b.place j →
        DerivesExpression g text item builders p y (at b j) c right items →
        DerivesExpression g text item builders p (joined o x y) a c (applied builders.infix o (left ++ right)) (trail ++ items)

-- the grammar derives the whole text from its start rule, with this forest and trail, from one table to another
pub record DerivesText (g : Grammar) (text : List ℕ) (before after : Table) (forest : List Tree) (trail : List TrailItem) : Type 0 where
  pub start : declared.Rule
  pub is_start : slice_get g.rules g.start ≡ Some start
  pub body : Derives g text start.body (record { place = 0; table = before }) (record { place = length text; table = after }) forest trail
