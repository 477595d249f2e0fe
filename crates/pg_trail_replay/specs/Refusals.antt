-- Where a replay stops: the first place, from the left, at which a derivation that takes the items of a trail in order
-- can't continue. A node that derives takes its items and leaves the rest; a node that refuses stops at a place, with items left.
use Rattle.std.specs.Prelude.{◌≡◌, ◌==◌, if◌then◌else◌, ℕ, suc, List, [], ◌∷◌, ◌++◌, None, Some, slice_get, length}
use Rattle.pg_tree.specs.Trees.{Tree}
use Rattle.pg_grammar_value.specs.Grammar.{Grammar}
use Rattle.pg_grammar_form.specs.Operators.{Operator}
use Rattle.pg_grammar_form.specs.declared.class.ClassPart.{ClassPart}
use Rattle.pg_grammar_form.specs.declared.used.ChainBuilder.{ChainBuilder}
use Rattle.pg_grammar_form.specs.declared.used.OperatorBuilders.{OperatorBuilders}
use Rattle.pg_grammar_form.specs.Forms.{Node}
use Rattle.pg_grammar_form.specs.declared.form.Form.TheVariants as form
use Rattle.pg_grammar_form.specs.declared.form.Leaf.{Leaf}
use Rattle.pg_grammar_form.specs.declared.form.Leaf.TheVariants as read
use Rattle.pg_grammar_form.specs.declared.form.Around.{Around}
use Rattle.pg_grammar_form.specs.declared.side.Side.{Side}
use Rattle.pg_grammar_form.specs.declared.operators_item.OperatorsItem.{OperatorsItem}
use Rattle.pg_grammar_form.specs.declared.word_item.WordItem.{WordItem}
use Rattle.pg_grammar_value.specs.declared.grammar.Rule as declared
use Rattle.pg_grammar_value.specs.declared.trail.TrailItem.{TrailItem}
use Rattle.pg_grammar_value.specs.declared.trail.TrailItem.TheVariants.{Alt, Rounds, Ops}
use Rattle.pg_table.specs.Tables.{Table, Admits}
use Rattle.pg_table.specs.Fitting.{Expression, term, prefixed, postfixed, joined, IsFitting}
use Rattle.pg_table.specs.Trails.{operators_read}
use Rattle.pg_language.specs.Runs.{HasAt, StandsAt, IsWordAt, IsOperatorAt, IsDeclarationAt}
use Rattle.pg_language.specs.Derives.{Spot, at, Derives, DerivesExpression}
use Rattle.pg_trail_replay.specs.declared.replay_fault.Mismatch.{Mismatch}
use Rattle.pg_trail_replay.specs.declared.replay_fault.Mismatch.TheVariants.{ItemDiffers, TextDiffers, NotAdmitted}

-- why a replay stops, at which place of the text, and with which items left
pub record Stop : Type 0 where
  pub why : Mismatch
  pub place : ℕ
  pub rest : List TrailItem

-- the stop at this spot for this reason
abbrev pub stop : Mismatch → Spot → List TrailItem → Stop
stop why a items = record { why = why; place = a.place; rest = items }

-- ---- leaves

-- a word of the item with this number
pub record HasWordAt (g : Grammar) (text : List ℕ) (w i : ℕ) : Type 0 where
  pub item : WordItem
  pub there : slice_get g.words w ≡ Some item
  pub word : List ℕ
  pub is_word : IsWordAt g text item i word

-- a declaration by the operators item
pub record HasDeclarationAt (g : Grammar) (text : List ℕ) (class : List ClassPart) (i : ℕ) : Type 0 where
  pub item : OperatorsItem
  pub there : g.operators ≡ Some item
  pub declared : Operator
  pub end : ℕ
  pub is_declaration : IsDeclarationAt g text item class declared i end

-- the leaf can read what stands at the place
abbrev pub Stands : Grammar → List ℕ → Leaf ℕ → ℕ → Type 0
Stands g text (read.Satisfy class) i = HasAt g text class i
Stands g text (read.String s) i = StandsAt text i s
Stands g text (read.Word w) i = HasWordAt g text w i
Stands g text (read.NotFollowedBy class) i = HasAt g text class i → ⊥
Stands g text read.EndOfText i = i ≡ length text
Stands g text (read.Declare class) i = HasDeclarationAt g text class i

-- the leaf can't be read at the spot
pub data LeafRefuses (g : Grammar) (text : List ℕ) : Leaf ℕ → Spot → Mismatch → Type 0 where
  -- something else stands there
  text_differs : {l : Leaf ℕ} {a : Spot} → (Stands g text l a.place → ⊥) → LeafRefuses g text l a TextDiffers
  -- the text declares an operator that the table doesn't admit
  not_admitted : {class : List ClassPart} {a : Spot} (has : HasDeclarationAt g text class a.place) → (Admits a.table has.declared → ⊥) →
      LeafRefuses g text (read.Declare class) a NotAdmitted

-- ---- items

-- the next item chooses none of the alternatives
abbrev pub ChoosesNone : List ℕ → List TrailItem → Type 0
ChoosesNone parts items = (k p : ℕ) (rest : List TrailItem) → items ≡ Alt (suc k) ∷ rest → slice_get parts k ≡ Some p → ⊥

-- the next item counts no rounds
abbrev pub CountsNone : List TrailItem → Type 0
CountsNone items = (n : ℕ) (rest : List TrailItem) → items ≡ Rounds n ∷ rest → ⊥

-- the next item has the operators of no tree that fits the table
abbrev pub FitsNone : Table → List TrailItem → Type 0
FitsNone table items = (x : Expression) (rest : List TrailItem) → IsFitting table.operators x → items ≡ Ops (operators_read x) ∷ rest → ⊥

-- ---- open rules

-- the rules that are open at a place with the same next item: all of these if nothing was consumed since, else none
abbrev pub if_no_item : List TrailItem → List ℕ → List ℕ
if_no_item [] entered = entered
if_no_item (item ∷ items) entered = []

-- the rules that are still open if nothing was consumed since
abbrev pub still_entered : Spot → Spot → List TrailItem → List ℕ → List ℕ
still_entered a b taken entered = if a.place == b.place then if_no_item taken entered else []

-- the rule is among these
abbrev pub IsEntered : ℕ → List ℕ → Type 0
IsEntered r entered = (k : ℕ) × (slice_get entered k ≡ Some r)

-- ---- nodes

mutual
  -- the node stops, entered at the spot with these items left and with these rules entered since something was last consumed
  pub data Refuses (g : Grammar) (text : List ℕ) : List ℕ → ℕ → Spot → List TrailItem → Stop → Type 0 where
    at_node : {entered : List ℕ} {p : ℕ} {n : Node} {a : Spot} {items : List TrailItem} {s : Stop} →
        slice_get g.nodes p ≡ Some n → RefusesForm g text entered n a items s → Refuses g text entered p a items s
    -- no node has the number, which can't happen in a well-formed grammar
    no_node : {entered : List ℕ} {p : ℕ} {a : Spot} {items : List TrailItem} → slice_get g.nodes p ≡ None → Refuses g text entered p a items (stop ItemDiffers a items)

  -- the form of a node stops
  pub data RefusesForm (g : Grammar) (text : List ℕ) : List ℕ → Node → Spot → List TrailItem → Stop → Type 0 where
    -- the leaf can't be read
    leaf : {entered : List ℕ} {l : Leaf ℕ} {a : Spot} {items : List TrailItem} {why : Mismatch} → LeafRefuses g text l a why →
        RefusesForm g text entered (form.Leaf l) a items (stop why a items)
    -- one of the parts stops
    seq : {entered parts : List ℕ} {a : Spot} {items : List TrailItem} {s : Stop} → RefusesParts g text entered parts a items s →
        RefusesForm g text entered (form.Seq parts) a items s
    -- no alternative is chosen, or the chosen one stops
    no_choice : {entered parts : List ℕ} {a : Spot} {items : List TrailItem} → ChoosesNone parts items →
        RefusesForm g text entered (form.Choice parts) a items (stop ItemDiffers a items)
    choice : {entered parts : List ℕ} {k p : ℕ} {a : Spot} {items : List TrailItem} {s : Stop} → slice_get parts k ≡ Some p →
        Refuses g text [] p a items s → RefusesForm g text entered (form.Choice parts) a (Alt (suc k) ∷ items) s
    -- no rounds are counted, or one of them stops
    no_count : {entered : List ℕ} {p : ℕ} {a : Spot} {items : List TrailItem} → CountsNone items →
        RefusesForm g text entered (form.Many p) a items (stop ItemDiffers a items)
    many : {entered : List ℕ} {p n : ℕ} {a : Spot} {items : List TrailItem} {s : Stop} → RefusesRounds g text [] p n a items s →
        RefusesForm g text entered (form.Many p) a (Rounds n ∷ items) s
    -- no rounds are counted, or the first operand or a link of a chain stops
    no_links : {entered : List ℕ} {side : Side} {used : ChainBuilder} {p q : ℕ} {a : Spot} {items : List TrailItem} → CountsNone items →
        RefusesForm g text entered (form.Chain side used p q) a items (stop ItemDiffers a items)
    operand : {entered : List ℕ} {side : Side} {used : ChainBuilder} {p q n : ℕ} {a : Spot} {items : List TrailItem} {s : Stop} → Refuses g text [] p a items s →
        RefusesForm g text entered (form.Chain side used p q) a (Rounds n ∷ items) s
    links : {entered : List ℕ} {side : Side} {used : ChainBuilder} {p q n : ℕ} {a b : Spot} {forest : List Tree} {trail items : List TrailItem} {s : Stop} →
        Derives g text p a b forest trail → RefusesLinks g text [] p q n b items s →
        RefusesForm g text entered (form.Chain side used p q) a (Rounds n ∷ (trail ++ items)) s
    -- the rule is entered again before anything was consumed, or doesn't exist, which can't happen in a well-formed grammar, or its body stops
    again : {entered : List ℕ} {r : ℕ} {a : Spot} {items : List TrailItem} → IsEntered r entered →
        RefusesForm g text entered (form.Rule r) a items (stop ItemDiffers a items)
    no_rule : {entered : List ℕ} {r : ℕ} {a : Spot} {items : List TrailItem} → slice_get g.rules r ≡ None → RefusesForm g text entered (form.Rule r) a items (stop ItemDiffers a items)
    rule : {entered : List ℕ} {r : ℕ} {named : declared.Rule} {a : Spot} {items : List TrailItem} {s : Stop} → (IsEntered r entered → ⊥) →
        slice_get g.rules r ≡ Some named → Refuses g text (r ∷ entered) named.body a items s → RefusesForm g text entered (form.Rule r) a items s
    -- the grammar has no operators, which can't happen in a well-formed one, no fitting tree has the operators that were read, or one of its operators and
    -- terms stops
    no_operators : {entered : List ℕ} {builders : OperatorBuilders} {p : ℕ} {a : Spot} {items : List TrailItem} → g.operators ≡ None →
        RefusesForm g text entered (form.Expression builders p) a items (stop ItemDiffers a items)
    no_tree : {entered : List ℕ} {builders : OperatorBuilders} {p : ℕ} {a : Spot} {items : List TrailItem} → FitsNone a.table items →
        RefusesForm g text entered (form.Expression builders p) a items (stop ItemDiffers a items)
    expression : {entered : List ℕ} {builders : OperatorBuilders} {item : OperatorsItem} {p : ℕ} {x : Expression} {a : Spot} {items : List TrailItem} {s : Stop} →
        g.operators ≡ Some item → IsFitting a.table.operators x → RefusesExpression g text item builders p x a items s →
        RefusesForm g text entered (form.Expression builders p) a (Ops (operators_read x) ∷ items) s
    -- the part stops
    around : {entered : List ℕ} {k : Around} {p : ℕ} {a : Spot} {items : List TrailItem} {s : Stop} → Refuses g text entered p a items s →
        RefusesForm g text entered (form.Around k p) a items s

  -- one of the parts stops, after the parts before it
  pub data RefusesParts (g : Grammar) (text : List ℕ) : List ℕ → List ℕ → Spot → List TrailItem → Stop → Type 0 where
    this_part : {entered parts : List ℕ} {p : ℕ} {a : Spot} {items : List TrailItem} {s : Stop} → Refuses g text entered p a items s →
        RefusesParts g text entered (p ∷ parts) a items s
    later_part : {entered parts : List ℕ} {p : ℕ} {a b : Spot} {forest : List Tree} {trail items : List TrailItem} {s : Stop} →
        Derives g text p a b forest trail → RefusesParts g text (still_entered a b trail entered) parts b items s →
        RefusesParts g text entered (p ∷ parts) a (trail ++ items) s

  -- one of n rounds stops
  pub data RefusesRounds (g : Grammar) (text : List ℕ) : List ℕ → ℕ → ℕ → Spot → List TrailItem → Stop → Type 0 where
    this_round : {entered : List ℕ} {p n : ℕ} {a : Spot} {items : List TrailItem} {s : Stop} → Refuses g text entered p a items s →
        RefusesRounds g text entered p (suc n) a items s
    later_round : {entered : List ℕ} {p n : ℕ} {a b : Spot} {forest : List Tree} {trail items : List TrailItem} {s : Stop} →
        Derives g text p a b forest trail → RefusesRounds g text (still_entered a b trail entered) p n b items s →
        RefusesRounds g text entered p (suc n) a (trail ++ items) s

  -- one of n links stops, each with a separator q and an operand p
  pub data RefusesLinks (g : Grammar) (text : List ℕ) : List ℕ → ℕ → ℕ → ℕ → Spot → List TrailItem → Stop → Type 0 where
    this_separator : {entered : List ℕ} {p q n : ℕ} {a : Spot} {items : List TrailItem} {s : Stop} → Refuses g text entered q a items s →
        RefusesLinks g text entered p q (suc n) a items s
    this_operand : {entered : List ℕ} {p q n : ℕ} {a b : Spot} {forest : List Tree} {trail items : List TrailItem} {s : Stop} →
        Derives g text q a b forest trail → Refuses g text (still_entered a b trail entered) p b items s →
        RefusesLinks g text entered p q (suc n) a (trail ++ items) s
    later_link : {entered : List ℕ} {p q n : ℕ} {a b c : Spot} {separator operand : List Tree} {trail others items : List TrailItem} {s : Stop} →
        Derives g text q a b separator trail → Derives g text p b c operand others →
        RefusesLinks g text (still_entered a c (trail ++ others) entered) p q n c items s →
        RefusesLinks g text entered p q (suc n) a (trail ++ others ++ items) s

  -- an operator or a term of a tree stops, from left to right; at the expression's own place no rule is open, since its item was taken
  pub data RefusesExpression (g : Grammar) (text : List ℕ) : OperatorsItem → OperatorBuilders → ℕ → Expression → Spot → List TrailItem → Stop → Type 0 where
    in_term : {item : OperatorsItem} {builders : OperatorBuilders} {p : ℕ} {a : Spot} {items : List TrailItem} {s : Stop} → Refuses g text [] p a items s →
        RefusesExpression g text item builders p term a items s
    prefix_differs : {item : OperatorsItem} {builders : OperatorBuilders} {p : ℕ} {o : Operator} {x : Expression} {a : Spot} {items : List TrailItem} →
        ((j : ℕ) → IsOperatorAt g text item o.symbol a.place j → ⊥) → RefusesExpression g text item builders p (prefixed o x) a items (stop TextDiffers a items)
    in_prefixed : {item : OperatorsItem} {builders : OperatorBuilders} {p : ℕ} {o : Operator} {x : Expression} {j : ℕ} {a : Spot} {items : List TrailItem} {s : Stop} →
        IsOperatorAt g text item o.symbol a.place j → RefusesExpression g text item builders p x (at a j) items s →
        RefusesExpression g text item builders p (prefixed o x) a items s
    in_postfixed : {item : OperatorsItem} {builders : OperatorBuilders} {p : ℕ} {o : Operator} {x : Expression} {a : Spot} {items : List TrailItem} {s : Stop} →
        RefusesExpression g text item builders p x a items s → RefusesExpression g text item builders p (postfixed o x) a items s
    postfix_differs : {item : OperatorsItem} {builders : OperatorBuilders} {p : ℕ} {o : Operator} {x : Expression} {a b : Spot} {forest : List Tree} {trail items : List TrailItem} →
        DerivesExpression g text item builders p x a b forest trail → ((j : ℕ) → IsOperatorAt g text item o.symbol b.place j → ⊥) →
        RefusesExpression g text item builders p (postfixed o x) a (trail ++ items) (stop TextDiffers b items)
    in_left : {item : OperatorsItem} {builders : OperatorBuilders} {p : ℕ} {o : Operator} {x y : Expression} {a : Spot} {items : List TrailItem} {s : Stop} →
        RefusesExpression g text item builders p x a items s → RefusesExpression g text item builders p (joined o x y) a items s
    infix_differs : {item : OperatorsItem} {builders : OperatorBuilders} {p : ℕ} {o : Operator} {x y : Expression} {a b : Spot} {forest : List Tree} {trail items : List TrailItem} →
        DerivesExpression g text item builders p x a b forest trail → ((j : ℕ) → IsOperatorAt g text item o.symbol b.place j → ⊥) →
        RefusesExpression g text item builders p (joined o x y) a (trail ++ items) (stop TextDiffers b items)
    in_right : {item : OperatorsItem} {builders : OperatorBuilders} {p : ℕ} {o : Operator} {x y : Expression} {j : ℕ} {a b : Spot} {forest : List Tree} {trail items : List TrailItem} {s : Stop} →
        DerivesExpression g text item builders p x a b forest trail → IsOperatorAt g text item o.symbol b.place j →
        RefusesExpression g text item builders p y (at b j) items s → RefusesExpression g text item builders p (joined o x y) a (trail ++ items) s
