-- Which stretch of a plan's code is a node's, by its form and by where the code of its parts is.
use Rattle.std.specs.Prelude.{◌≡◌, ◌+◌, ◌⊎◌, ℕ, zero, suc, true, List, [], ◌∷◌, Some, slice_get}
use Rattle.pg_grammar_form.specs.Forms.{Node}
use Rattle.pg_grammar_form.specs.declared.class.ClassPart.{ClassPart}
use Rattle.pg_grammar_form.specs.declared.form.Form.TheVariants as form
use Rattle.pg_grammar_form.specs.declared.form.Leaf.{Leaf}
use Rattle.pg_grammar_form.specs.declared.form.Leaf.TheVariants as leaf
use Rattle.pg_grammar_form.specs.declared.form.Around.{Around}
use Rattle.pg_grammar_form.specs.declared.form.Around.TheVariants as kind
use Rattle.pg_grammar_form.specs.declared.side.Side.TheVariants.{Left, Right}
use Rattle.pg_grammar_form.specs.declared.used.ChainBuilder.{ChainBuilder}
use Rattle.pg_grammar_form.specs.declared.used.OperatorBuilders.{OperatorBuilders}
use Rattle.pg_grammar_value.specs.declared.grammar.Rule as declared
use Rattle.pg_language.specs.Derives.{Spot}
use Rattle.pg_language.specs.Reactions.{counted_by}
use Rattle.pg_language.specs.declared.reading.Reading.TheVariants.{Library}
use Rattle.pg_machine_plan.specs.Facts.{outcomes_of, FailsAtOnce, TakesAtOnce, NeverFailsEmpty}
use Rattle.pg_machine_plan.specs.Plans.{Plan, Program, chosen}
use Rattle.pg_machine_plan.specs.declared.instruction.Arm.{Arm}
use Rattle.pg_machine_plan.specs.declared.instruction.Instruction.TheVariants.{Enter, Read, Span, Jump, Pick, Call, Return, Open, Close, Hold, Fold, Link, FoldLinks, Release, Rows, ReadPrefix, ReadPostfix, ReadInfix, Settle, Mark, Commit, Again, Fail, Stop}
use Rattle.pg_machine_plan.specs.declared.instruction.Keep.{Keep}
use Rattle.pg_machine_plan.specs.declared.instruction.Keep.TheVariants.{Kept, Hidden}

-- a plan notes a stretch for the node from one place of its code to another
abbrev pub Notes : Plan → Keep → ℕ → ℕ → ℕ → Type 0
Notes plan keep p pc end = slice_get plan.stretches pc ≡ Some (Some (record { keep = keep; node = p; end = end }))

-- it notes stretches for these nodes, which adjoin
abbrev pub NotesAll : Plan → Keep → List ℕ → ℕ → ℕ → Type 0
NotesAll plan keep [] pc end = pc ≡ end
NotesAll plan keep (p ∷ ps) pc end = (mid : ℕ) × Notes plan keep p pc mid × NotesAll plan keep ps mid end

-- the same of a program
abbrev pub IsNoted : Program → Keep → ℕ → ℕ → ℕ → Type 0
IsNoted P keep p pc end = Notes P.plan keep p pc end

abbrev pub Adjoin : Program → Keep → List ℕ → ℕ → ℕ → Type 0
Adjoin P keep ps pc end = NotesAll P.plan keep ps pc end

-- the code is at this place, or jumps there
abbrev pub ComesTo : Plan → ℕ → ℕ → Type 0
ComesTo plan target pc = (pc ≡ target) ⊎ (slice_get plan.code pc ≡ Some (Jump target))

-- the node, run at the spot, fails at once with so many nodes
abbrev pub IsPassedBy : Program → ℕ → Spot → ℕ → Type 0
IsPassedBy P p a m = FailsAtOnce (outcomes_of P.given p a) m

-- at the spot, and with so many nodes passed by, the code from the target on tries these alternatives in order: those that fail at once are passed by
pub data Tries (P : Program) (keep : Keep) (end : ℕ) (a : Spot) : ℕ → ℕ → List ℕ → Type 0 where
  none_left : {target : ℕ} → slice_get P.plan.code target ≡ Some Fail → Tries P keep end a target zero []
  passed_by : {target p m n : ℕ} {ps : List ℕ} → IsPassedBy P p a m → Tries P keep end a target n ps → Tries P keep end a target (m + n) (p ∷ ps)
  -- the last one, or one that doesn't fail with nothing consumed
  last_one : {target p exit : ℕ} → IsNoted P keep p target exit → ComesTo P.plan end exit → Tries P keep end a target zero (p ∷ [])
  sure_one : {target p exit : ℕ} {ps : List ℕ} → NeverFailsEmpty (outcomes_of P.given p a) → IsNoted P keep p target exit →
      ComesTo P.plan end exit → Tries P keep end a target zero (p ∷ ps)
  -- one under a mark; where it fails, a table goes on with the others
  marked_one : {target next table p exit : ℕ} {arm : Arm} {ps : List ℕ} → slice_get P.plan.code target ≡ Some (Mark next) → IsNoted P keep p (target + 1) exit →
      slice_get P.plan.code exit ≡ Some (Commit end) → slice_get P.plan.code next ≡ Some (Pick table) →
      chosen P.plan table (slice_get P.given.text a.place) ≡ Some arm → Tries P keep end a arm.target arm.nodes ps → Tries P keep end a target zero (p ∷ ps)

-- a table for the alternatives, which also counts so many nodes
abbrev pub TriesBy : Program → Keep → ℕ → ℕ → List ℕ → ℕ → Type 0
TriesBy P keep own table ps end = (a : Spot) (arm : Arm) → chosen P.plan table (slice_get P.given.text a.place) ≡ Some arm →
    (n : ℕ) × (arm.nodes ≡ own + n) × Tries P keep end a arm.target n ps

-- ---- loops: a table at their head goes past them, or into a round

-- ahead, at the spot: the first of these nodes fails at once, and the loop ends; or a round of them begins, and something is sure to be consumed; or it
-- begins under a mark. From the end of a round, or from where its mark is taken away, the code leads back to the head
pub data GoesRound (P : Program) (keep : Keep) (head out : ℕ) (a : Spot) (arm : Arm) (p : ℕ) (ps : List ℕ) (LeadsBack : ℕ → Type 0) : Type 0 where
  goes_past : IsPassedBy P p a arm.nodes → arm.target ≡ out → GoesRound P keep head out a arm p ps LeadsBack
  goes_in : (exit : ℕ) → TakesAtOnce (outcomes_of P.given p a) → arm.nodes ≡ 0 → Adjoin P keep (p ∷ ps) arm.target exit → LeadsBack exit →
      GoesRound P keep head out a arm p ps LeadsBack
  goes_marked : (exit next : ℕ) → arm.nodes ≡ 0 → slice_get P.plan.code arm.target ≡ Some (Mark out) → Adjoin P keep (p ∷ ps) (arm.target + 1) exit →
      slice_get P.plan.code exit ≡ Some (Again next) → LeadsBack next → GoesRound P keep head out a arm p ps LeadsBack

-- the forest of the chain at this node becomes one tree, and then its head comes
pub record FoldsBack (plan : Plan) (keep : Keep) (q head pc : ℕ) : Type 0 where
  pub fold : slice_get plan.code pc ≡ Some (Fold keep q)
  pub jump : slice_get plan.code (pc + 1) ≡ Some (Jump head)

-- ---- expressions

-- the code of a row of the expression at this node is before that of the tighter rows and after it, where an infix operator goes back to the first of it
pub record IsRow (plan : Plan) (keep : Keep) (q row pc exit : ℕ) : Type 0 where
  pub reads_prefix : slice_get plan.code pc ≡ Some (ReadPrefix row)
  pub settles_prefix : slice_get plan.code exit ≡ Some (Settle keep q (row + row))
  pub reads_postfix : slice_get plan.code (exit + 1) ≡ Some (ReadPostfix keep q row)
  pub reads_infix : slice_get plan.code (exit + 2) ≡ Some (ReadInfix keep q row)
  pub goes_back : slice_get plan.code (exit + 3) ≡ Some (Jump pc)
  pub settles_infix : slice_get plan.code (exit + 4) ≡ Some (Settle keep q (row + row + 1))

-- this stretch is for so many rows, the loosest first, around a term
pub data AreRows (plan : Plan) (keep : Keep) (q p : ℕ) : ℕ → ℕ → ℕ → Type 0 where
  a_term : {pc end : ℕ} → Notes plan keep p pc end → AreRows plan keep q p zero pc end
  a_row : {row pc exit : ℕ} → IsRow plan keep q row pc exit → AreRows plan keep q p row (pc + 1) exit → AreRows plan keep q p (suc row) pc (exit + 5)

-- ---- forms

-- whether trees are kept below a form that is around a part
abbrev pub keep_below : Keep → Around → Keep
keep_below keep kind.Text = Hidden
keep_below keep kind.Skip = Hidden
keep_below keep kind.Try = keep
keep_below keep (kind.Build used symbol) = keep
keep_below keep (kind.Label message) = keep
keep_below keep kind.Local = keep

-- whether the form leaves all as it is, but for trees that its part doesn't make where they are hidden below it
abbrev pub IsTransparent : Keep → Around → Type 0
IsTransparent keep (kind.Label message) = Unit {0}
IsTransparent Hidden kind.Text = Unit {0}
IsTransparent Hidden kind.Skip = Unit {0}
IsTransparent Hidden (kind.Build used symbol) = Unit {0}
IsTransparent Hidden kind.Try = ⊥
IsTransparent Hidden kind.Local = ⊥
IsTransparent Kept kind.Text = ⊥
IsTransparent Kept kind.Skip = Unit {0}
IsTransparent Kept (kind.Build used symbol) = ⊥
IsTransparent Kept kind.Try = ⊥
IsTransparent Kept kind.Local = ⊥

-- this stretch is the node's, where the node has this form
pub data IsLaid (P : Program) (keep : Keep) (q pc : ℕ) : Node → ℕ → Type 0 where
  a_leaf : {l : Leaf ℕ} → slice_get P.plan.code pc ≡ Some (Read keep q) → IsLaid P keep q pc (form.Leaf l) (pc + 1)
  a_seq : {end : ℕ} {ps : List ℕ} → slice_get P.plan.code pc ≡ Some Enter → Adjoin P keep ps (pc + 1) end → IsLaid P keep q pc (form.Seq ps) end
  a_choice : {table end : ℕ} {ps : List ℕ} → slice_get P.plan.code pc ≡ Some (Pick table) → TriesBy P keep 1 table ps end → IsLaid P keep q pc (form.Choice ps) end
  a_span : {p : ℕ} {class : List ClassPart} → slice_get P.plan.code pc ≡ Some (Span keep p) → slice_get P.given.grammar.nodes p ≡ Some (form.Leaf (leaf.Satisfy class)) →
      IsLaid P keep q pc (form.Many p) (pc + 1)
  a_many : {p table end : ℕ} → slice_get P.plan.code pc ≡ Some Enter → slice_get P.plan.code (pc + 1) ≡ Some (Pick table) →
      ((a : Spot) (arm : Arm) → chosen P.plan table (slice_get P.given.text a.place) ≡ Some arm → GoesRound P keep (pc + 1) end a arm p [] (ComesTo P.plan (pc + 1))) →
      IsLaid P keep q pc (form.Many p) end
  -- a chain that is folded from the left
  a_chain : {used : ChainBuilder} {p separator head table out : ℕ} → slice_get P.plan.code pc ≡ Some Hold → IsNoted P keep p (pc + 1) head →
      slice_get P.plan.code head ≡ Some (Pick table) →
      ((a : Spot) (arm : Arm) → chosen P.plan table (slice_get P.given.text a.place) ≡ Some arm →
      GoesRound P keep head out a arm separator (p ∷ []) (FoldsBack P.plan keep q head)) →
      slice_get P.plan.code out ≡ Some Release → IsLaid P keep q pc (form.Chain Left used p separator) (out + 1)
  -- a chain that is folded from the right: what is before an operand waits
  a_right_chain : {used : ChainBuilder} {p separator head table end out : ℕ} → slice_get P.plan.code pc ≡ Some Hold → IsNoted P keep p (pc + 1) head →
      slice_get P.plan.code head ≡ Some (Pick table) →
      ((a : Spot) (arm : Arm) → chosen P.plan table (slice_get P.given.text a.place) ≡ Some arm →
      GoesRound P keep (head + 1) out a arm separator [] (ComesTo P.plan (head + 1))) →
      slice_get P.plan.code (head + 1) ≡ Some Link → IsNoted P keep p (head + 2) end → ComesTo P.plan head end →
      slice_get P.plan.code out ≡ Some (FoldLinks keep q) → slice_get P.plan.code (out + 1) ≡ Some Release →
      IsLaid P keep q pc (form.Chain Right used p separator) (out + 2)
  an_expression : {builders : OperatorBuilders} {p rows out : ℕ} → slice_get P.plan.code pc ≡ Some (Rows rows) → AreRows P.plan keep q p rows (pc + 1) out →
      slice_get P.plan.code out ≡ Some Release → IsLaid P keep q pc (form.Expression builders p) (out + 1)
  a_rule : {r target exit : ℕ} {named : declared.Rule} → slice_get P.given.grammar.rules r ≡ Some named → slice_get P.plan.code pc ≡ Some (Call target) →
      IsNoted P keep named.body target exit → slice_get P.plan.code exit ≡ Some Return → IsLaid P keep q pc (form.Rule r) (pc + 1)
  -- a rule's body may stand at its use
  a_rule_inside : {r end : ℕ} {named : declared.Rule} → slice_get P.given.grammar.rules r ≡ Some named → slice_get P.plan.code pc ≡ Some Enter →
      IsNoted P keep named.body (pc + 1) end → IsLaid P keep q pc (form.Rule r) end
  a_transparent : {k : Around} {p end : ℕ} → IsTransparent keep k → slice_get P.plan.code pc ≡ Some Enter → IsNoted P (keep_below keep k) p (pc + 1) end →
      IsLaid P keep q pc (form.Around k p) end
  an_around : {k : Around} {p exit : ℕ} → slice_get P.plan.code pc ≡ Some (Open (counted_by k true)) → IsNoted P (keep_below keep k) p (pc + 1) exit →
      slice_get P.plan.code exit ≡ Some (Close keep q) → IsLaid P keep q pc (form.Around k p) (exit + 1)

-- a noted stretch is that of a node
pub record IsOfNode (P : Program) (keep : Keep) (q pc end : ℕ) : Type 0 where
  pub node : Node
  pub is : slice_get P.given.grammar.nodes q ≡ Some node
  pub laid : IsLaid P keep q pc node end

-- all stretches that are noted are laid out
abbrev pub IsLaidOut : Program → Type 0
IsLaidOut P = (keep : Keep) (q pc end : ℕ) → IsNoted P keep q pc end → IsOfNode P keep q pc end

-- the plan is for whole texts: the start rule's body returns to an instruction that stops
pub record IsForTexts (P : Program) : Type 0 where
  pub library : P.given.reading ≡ Library
  pub laid : IsLaidOut P
  pub start : declared.Rule
  pub is_start : slice_get P.given.grammar.rules P.given.grammar.start ≡ Some start
  pub exit : ℕ
  pub body : IsNoted P Kept start.body P.plan.entry exit
  pub back : slice_get P.plan.code exit ≡ Some Return
  pub stop : slice_get P.plan.code 0 ≡ Some Stop
