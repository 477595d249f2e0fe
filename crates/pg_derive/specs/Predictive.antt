-- When claimed sets of a grammar's nodes are closed and show that it is predictive: what comes next in a text shows a parser
-- which way to go. Sets are closed if they cover what they must, so they may be wider than necessary; the
-- claimed sets themselves must be apart.
use Rattle.std.specs.Prelude.{◌≡◌, ◌<◌, ◌+◌, ℕ, List, [], ◌∷◌, true, false, Some, slice_get, length}
use Rattle.std.specs.List.{Contains}
use Rattle.pg_grammar_value.specs.Grammar.{Grammar}
use Rattle.pg_grammar_form.specs.declared.class.ClassPart.{ClassPart}
use Rattle.pg_grammar_form.specs.Forms.{Node}
use Rattle.pg_grammar_form.specs.declared.form.Form.TheVariants as form
use Rattle.pg_grammar_form.specs.declared.form.Leaf.{Leaf}
use Rattle.pg_grammar_form.specs.declared.form.Leaf.TheVariants as leaf
use Rattle.pg_grammar_form.specs.declared.form.Around.{Around}
use Rattle.pg_grammar_form.specs.declared.form.Around.TheVariants as kind
use Rattle.pg_grammar_value.specs.declared.grammar.Rule as declared
use Rattle.pg_grammar_form.specs.declared.decl.Role.{Role}
use Rattle.pg_grammar_form.specs.declared.operators_item.OperatorsItem.{OperatorsItem}
use Rattle.pg_grammar_form.specs.declared.word_item.WordItem.{WordItem}
use Rattle.pg_start.specs.Apart.{Apart}
use Rattle.pg_start.specs.declared.kind.StartKind.{StartKind}
use Rattle.pg_start.specs.declared.kind.StartKind.TheVariants.{End}
use Rattle.pg_language.specs.Runs.{HasAt, StandsAt, IsWordAt, IsKeywordAt, IsOperatorAt}
use Rattle.pg_table.specs.Tables.{Table, ComesFrom}
use Rattle.pg_table.specs.Fitting.{IsAmong}
use Rattle.pg_grammar_form.specs.Operators.{Operator}
use Rattle.pg_derive.specs.ClosedSets.{NodeSets, Meets, NeverMeets, Covers, Within, AllApart, AllNullable, BeginsParts, PartsFollowed, PartsFall}

-- ---- leaves

-- the first of these characters stands at the place
pub record BeginsAt (text : List ℕ) (place : ℕ) (characters : List ℕ) : Type 0 where
  pub character : ℕ
  pub first : slice_get characters 0 ≡ Some character
  pub there : slice_get text place ≡ Some character

-- a word of an item stands at the place
pub record IsSomeWordAt (g : Grammar) (w : ℕ) (text : List ℕ) (place : ℕ) : Type 0 where
  pub item : WordItem
  pub named : slice_get g.words w ≡ Some item
  pub word : List ℕ
  pub there : IsWordAt g text item place word

-- a string has at least one character
pub record StringIsPredictive (sets : NodeSets) (p : ℕ) (characters : List ℕ) : Type 0 where
  pub spelled : 0 < length characters
  pub first : Meets (sets.first p) (λ text place. BeginsAt text place characters)

-- the keyword of some role stands at the place
pub record IsSomeKeywordAt (g : Grammar) (class : List ClassPart) (text : List ℕ) (place : ℕ) : Type 0 where
  pub role : Role
  pub there : IsKeywordAt g text class role place

-- declarations need an operators item
pub record DeclareIsPredictive (g : Grammar) (sets : NodeSets) (p : ℕ) (class : List ClassPart) : Type 0 where
  pub item : OperatorsItem
  pub named : g.operators ≡ Some item
  pub first : Meets (sets.first p) (IsSomeKeywordAt g class)

-- ---- forms with one part

pub record PartIsPredictive (sets : NodeSets) (p q : ℕ) : Type 0 where
  pub empty : sets.nullable q ≡ true → sets.nullable p ≡ true
  pub first : Within (sets.first q) (sets.first p)
  pub follow : Within (sets.follow p) (sets.follow q)
  pub falls : sets.level q < sets.level p

-- a `try` around a string, or around a string that some characters may not follow, counts by the whole string,
-- and not by its first character alone; around any other part it counts as that part
pub data TryIsPredictive (g : Grammar) (sets : NodeSets) (p q : ℕ) : Type 0 where
  of_part : PartIsPredictive sets p q → TryIsPredictive g sets p q
  of_string : {s : List ℕ} → slice_get g.nodes q ≡ Some (form.Leaf (leaf.String s)) → 0 < length s → sets.level q < sets.level p →
      Meets (sets.first p) (λ text place. StandsAt text place s) → TryIsPredictive g sets p q
  of_key : {x y : ℕ} {s : List ℕ} {class : List ClassPart} →
      slice_get g.nodes q ≡ Some (form.Seq (x ∷ y ∷ [])) → slice_get g.nodes x ≡ Some (form.Leaf (leaf.String s)) →
      slice_get g.nodes y ≡ Some (form.Leaf (leaf.NotFollowedBy class)) → 0 < length s → sets.level q < sets.level p →
      Meets (sets.first p) (λ text place. StandsAt text place s × (HasAt g text class (place + length s) → ⊥)) → TryIsPredictive g sets p q

pub record RuleIsPredictive (g : Grammar) (sets : NodeSets) (p r : ℕ) : Type 0 where
  pub body : (named : declared.Rule) → slice_get g.rules r ≡ Some named → PartIsPredictive sets p named.body

-- ---- sequences

pub record SeqIsPredictive (sets : NodeSets) (p : ℕ) (parts : List ℕ) : Type 0 where
  pub empty : AllNullable sets parts → sets.nullable p ≡ true
  pub first : (s : StartKind) → BeginsParts sets parts s → Covers (sets.first p) s
  pub follow : PartsFollowed sets (sets.follow p) parts
  pub falls : PartsFall sets (sets.level p) parts

-- ---- choices

-- an alternative q, and a later one
pub record ComesBefore (sets : NodeSets) (p q other : ℕ) : Type 0 where
  pub full : sets.nullable q ≡ false
  pub first : AllApart (sets.first q) (sets.first other)
  pub follow : sets.nullable other ≡ true → AllApart (sets.first q) (sets.follow p)

abbrev pub AlternativesArePredictive : NodeSets → ℕ → List ℕ → Type 0
AlternativesArePredictive sets p [] = Unit {0}
AlternativesArePredictive sets p (q ∷ qs) = PartIsPredictive sets p q × ((other : ℕ) → Contains qs other → ComesBefore sets p q other) × AlternativesArePredictive sets p qs

-- ---- repetitions

-- a repetition with the round q
pub record ManyIsPredictive (sets : NodeSets) (p q : ℕ) : Type 0 where
  pub empty : sets.nullable p ≡ true
  pub full : sets.nullable q ≡ false
  pub first : Within (sets.first q) (sets.first p)
  pub again : Within (sets.first q) (sets.follow q)
  pub follow : Within (sets.follow p) (sets.follow q)
  pub apart : AllApart (sets.first q) (sets.follow p)
  pub falls : sets.level q < sets.level p

-- a chain with an operand q and a separator r; a round is the sequence of r and q
pub record ChainIsPredictive (sets : NodeSets) (p q r : ℕ) : Type 0 where
  pub empty : sets.nullable q ≡ true → sets.nullable p ≡ true
  pub full : AllNullable sets (r ∷ q ∷ []) → ⊥
  pub first : Within (sets.first q) (sets.first p)
  pub next : sets.nullable q ≡ true → (s : StartKind) → BeginsParts sets (r ∷ q ∷ []) s → Covers (sets.first p) s
  pub again : (s : StartKind) → BeginsParts sets (r ∷ q ∷ []) s → Covers (sets.follow q) s
  pub follow : Within (sets.follow p) (sets.follow q)
  pub between : Within (sets.first q) (sets.follow r)
  pub over_next : sets.nullable q ≡ true → (s : StartKind) → BeginsParts sets (r ∷ q ∷ []) s → Covers (sets.follow r) s
  pub over_last : sets.nullable q ≡ true → Within (sets.follow p) (sets.follow r)
  pub apart : (s t : StartKind) → BeginsParts sets (r ∷ q ∷ []) s → Contains (sets.follow p) t → Apart s t
  pub falls : PartsFall sets (sets.level p) (q ∷ r ∷ q ∷ [])

-- ---- expressions

-- an operator of some table of the grammar stands at the place
pub record IsSomeOperatorAt (g : Grammar) (item : OperatorsItem) (text : List ℕ) (place : ℕ) : Type 0 where
  pub table : Table
  pub comes : ComesFrom g table
  pub operator : Operator
  pub among : IsAmong table.operators operator
  pub end : ℕ
  pub there : IsOperatorAt g text item operator.symbol place end

-- an expression over a term q: the term isn't empty, and no operator stands where it begins, or where the expression ends
pub record ExpressionIsPredictive (g : Grammar) (sets : NodeSets) (p q : ℕ) : Type 0 where
  pub item : OperatorsItem
  pub named : g.operators ≡ Some item
  pub full : sets.nullable q ≡ false
  pub begins : Meets (sets.first p) (IsSomeOperatorAt g item)
  pub first : Within (sets.first q) (sets.first p)
  pub again : Meets (sets.follow q) (IsSomeOperatorAt g item)
  pub follow : Within (sets.follow p) (sets.follow q)
  pub bare : NeverMeets (sets.first q) (IsSomeOperatorAt g item)
  pub ends : NeverMeets (sets.follow p) (IsSomeOperatorAt g item)
  pub falls : sets.level q < sets.level p

-- ---- nodes

-- the condition on a leaf
abbrev pub LeafIsPredictive : Grammar → NodeSets → ℕ → Leaf ℕ → Type 0
LeafIsPredictive g sets p (leaf.Satisfy class) = Meets (sets.first p) (λ text place. HasAt g text class place)
LeafIsPredictive g sets p (leaf.String s) = StringIsPredictive sets p s
LeafIsPredictive g sets p (leaf.Word w) = Meets (sets.first p) (IsSomeWordAt g w)
LeafIsPredictive g sets p (leaf.NotFollowedBy class) = sets.nullable p ≡ true
LeafIsPredictive g sets p leaf.EndOfText = sets.nullable p ≡ true
LeafIsPredictive g sets p (leaf.Declare class) = DeclareIsPredictive g sets p class

-- the condition on a form around a part q
abbrev pub AroundIsPredictive : Grammar → NodeSets → ℕ → Around → ℕ → Type 0
AroundIsPredictive g sets p kind.Try q = TryIsPredictive g sets p q
AroundIsPredictive g sets p kind.Text q = PartIsPredictive sets p q
AroundIsPredictive g sets p kind.Skip q = PartIsPredictive sets p q
AroundIsPredictive g sets p (kind.Build used symbol) q = PartIsPredictive sets p q
AroundIsPredictive g sets p (kind.Label message) q = PartIsPredictive sets p q
AroundIsPredictive g sets p kind.Local q = PartIsPredictive sets p q

-- the condition on a node
abbrev pub IsPredictiveAt : Grammar → NodeSets → ℕ → Node → Type 0
IsPredictiveAt g sets p (form.Leaf l) = LeafIsPredictive g sets p l
IsPredictiveAt g sets p (form.Seq parts) = SeqIsPredictive sets p parts
IsPredictiveAt g sets p (form.Choice parts) = AlternativesArePredictive sets p parts
IsPredictiveAt g sets p (form.Many q) = ManyIsPredictive sets p q
IsPredictiveAt g sets p (form.Chain side used q r) = ChainIsPredictive sets p q r
IsPredictiveAt g sets p (form.Rule r) = RuleIsPredictive g sets p r
IsPredictiveAt g sets p (form.Expression builders q) = ExpressionIsPredictive g sets p q
IsPredictiveAt g sets p (form.Around k q) = AroundIsPredictive g sets p k q

-- each node meets its condition; the end of the text follows the start rule
pub record IsPredictive (g : Grammar) (sets : NodeSets) : Type 0 where
  pub nodes : (p : ℕ) (n : Node) → slice_get g.nodes p ≡ Some n → IsPredictiveAt g sets p n
  pub end : (start : declared.Rule) → slice_get g.rules g.start ≡ Some start → Covers (sets.follow start.body) End
