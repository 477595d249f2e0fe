-- The starts that a node gives by itself, and not by its parts.
use Rattle.std.specs.Prelude.{◌≡◌, ◌↔◌, ◌<◌, ◌||◌, ◌&&◌, Bool, true, ℕ, nat_le, List, [], ◌∷◌, Some, slice_get, codes}
use Rattle.std.specs.Char.{IsScalar}
use Rattle.pg_class.specs.Ranges.{Range, IsClass, has}
use Rattle.pg_grammar_form.specs.ClassItems.{has_character}
use Rattle.pg_grammar_value.specs.Grammar.{Grammar}
use Rattle.pg_grammar_form.specs.declared.class.ClassPart.{ClassPart}
use Rattle.pg_grammar_form.specs.declared.decl.Role.{Role}
use Rattle.pg_grammar_form.specs.declared.decl.Role.TheVariants.{InfixLeft, InfixRight, InfixNone, Prefix, Postfix}
use Rattle.pg_grammar_form.specs.Forms.{Node}
use Rattle.pg_grammar_form.specs.declared.form.Form.TheVariants as form
use Rattle.pg_grammar_form.specs.declared.form.Leaf.TheVariants as leaf
use Rattle.pg_grammar_form.specs.declared.form.Around.TheVariants as around
use Rattle.pg_grammar_form.specs.declared.operators_item.OperatorsItem.{OperatorsItem}
use Rattle.pg_grammar_form.specs.declared.used.OperatorBuilders.{OperatorBuilders}
use Rattle.pg_grammar_form.specs.declared.word_item.WordItem.{WordItem}
use Rattle.pg_graph.specs.Marks.{is_marked}
use Rattle.pg_text.specs.Texts.{is_among}
use Rattle.pg_start.specs.declared.kind.StartKind.{StartKind}
use Rattle.pg_start.specs.declared.kind.StartKind.TheVariants.{Class, Key, Word}

-- ---- classes

-- the class has the characters of the expression
pub record IsClassOf (g : Grammar) (expression : List ClassPart) (class : List Range) : Type 0 where
  pub ranges : IsClass class
  pub members : (c : ℕ) → IsScalar c → has class c ≡ has_character g.classes expression c

-- the class has the characters of the expression, and also a to z
pub record IsExcludedBy (g : Grammar) (expression : List ClassPart) (class : List Range) : Type 0 where
  pub ranges : IsClass class
  pub members : (c : ℕ) → IsScalar c → has class c ≡ (has_character g.classes expression c || (nat_le 97 c && nat_le c 122))

-- ---- words

-- the texts are the same, in any order and with any repetition
abbrev pub SameTexts : List (List ℕ) → List (List ℕ) → Type 0
SameTexts texts others = (text : List ℕ) → is_among texts text ≡ is_among others text

-- the word item reads the same words as these classes with these reserved texts
pub record ReadsWords (g : Grammar) (heads rest : List Range) (reserved : List (List ℕ)) (w : ℕ) : Type 0 where
  pub item : WordItem
  pub there : slice_get g.words w ≡ Some item
  pub first_characters : IsClassOf g item.head heads
  pub other_characters : IsClassOf g item.rest rest
  pub texts : SameTexts item.reserved reserved

-- a start has the reserved texts of the first word item that reads the same words, or the texts
-- themselves if none does; so equal starts are one
pub data ReservedAs (g : Grammar) (heads rest : List Range) (texts : List (List ℕ)) : List (List ℕ) → Type 0 where
  as_item : {w : ℕ} (reads : ReadsWords g heads rest texts w) → ((v : ℕ) → v < w → ReadsWords g heads rest texts v → ⊥)
      → ReservedAs g heads rest texts reads.item.reserved
  as_written : ((v : ℕ) → ReadsWords g heads rest texts v → ⊥) → ReservedAs g heads rest texts texts

-- ---- keys

-- a string, and a class that may not follow it
pub record IsKeyed (g : Grammar) (part : ℕ) (characters : List ℕ) (excluded : List ClassPart) : Type 0 where
  pub first : ℕ
  pub second : ℕ
  pub both : slice_get g.nodes part ≡ Some (form.Seq (first ∷ second ∷ []))
  pub string : slice_get g.nodes first ≡ Some (form.Leaf (leaf.String characters))
  pub ends : slice_get g.nodes second ≡ Some (form.Leaf (leaf.NotFollowedBy excluded))

-- a try around a string, or around a string and a class that may not follow it
pub data IsKeyTry (g : Grammar) : Node → Type 0 where
  string : {part : ℕ} {characters : List ℕ} → slice_get g.nodes part ≡ Some (form.Leaf (leaf.String characters)) → IsKeyTry g (form.Around around.Try part)
  keyed : {part : ℕ} {characters : List ℕ} {excluded : List ClassPart} → IsKeyed g part characters excluded → IsKeyTry g (form.Around around.Try part)

-- the marks are on the tries that give keys
abbrev pub MarksKeys : Grammar → List Bool → Type 0
MarksKeys g keys = (p : ℕ) (n : Node) → slice_get g.nodes p ≡ Some n → (is_marked keys p ≡ true) ↔ IsKeyTry g n

-- the keyword of a declaration in each role
abbrev pub role_keyword : Role → List ℕ
role_keyword InfixLeft = codes "infixl"
role_keyword InfixRight = codes "infixr"
role_keyword InfixNone = codes "infix"
role_keyword Prefix = codes "prefix"
role_keyword Postfix = codes "postfix"

-- ---- starts

-- the operator start: a run of operator characters that isn't a reserved symbol
pub data IsOperatorStart (g : Grammar) : StartKind → Type 0 where
  operator : {item : OperatorsItem} {op : List Range} {reserved : List (List ℕ)} → g.operators ≡ Some item → IsClassOf g item.class op
      → ReservedAs g op op item.reserved reserved → IsOperatorStart g (Word op op reserved)

-- the node gives this start by itself
pub data OwnStart (g : Grammar) : Node → StartKind → Type 0 where
  -- a character of the class
  satisfy : {expression : List ClassPart} {class : List Range} → IsClassOf g expression class → OwnStart g (form.Leaf (leaf.Satisfy expression)) (Class class)
  -- the first character of the string
  string : {c : ℕ} {cs : List ℕ} → OwnStart g (form.Leaf (leaf.String (c ∷ cs))) (Class ((c, c) ∷ []))
  -- a word of the item
  word : {w : ℕ} {item : WordItem} {heads rest : List Range} {reserved : List (List ℕ)} → slice_get g.words w ≡ Some item
      → IsClassOf g item.head heads → IsClassOf g item.rest rest → ReservedAs g heads rest item.reserved reserved
      → OwnStart g (form.Leaf (leaf.Word w)) (Word heads rest reserved)
  -- the whole string that is tried
  key : {part : ℕ} {characters : List ℕ} → slice_get g.nodes part ≡ Some (form.Leaf (leaf.String characters)) → OwnStart g (form.Around around.Try part) (Key characters [])
  -- the whole string, with no character of the class after it
  key_that_ends : {part : ℕ} {characters : List ℕ} {excluded : List ClassPart} {class : List Range} → IsKeyed g part characters excluded
      → IsClassOf g excluded class → OwnStart g (form.Around around.Try part) (Key characters class)
  -- an operator
  expression : {builders : OperatorBuilders} {term : ℕ} {start : StartKind} → IsOperatorStart g start → OwnStart g (form.Expression builders term) start
  -- the keyword of each role, with no character of the class and none of a to z after it
  declare : {excluded : List ClassPart} {class : List Range} (role : Role) → IsExcludedBy g excluded class
      → OwnStart g (form.Leaf (leaf.Declare excluded)) (Key (role_keyword role) class)
