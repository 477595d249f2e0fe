-- What is asked of a plan, whatever the text: which stretches are right, and which arms are, by what comes next.
use Rattle.std.specs.Prelude.{◌≡◌, ◌+◌, ◌*◌, ◌⊎◌, ℕ, List, [], ◌∷◌, Bool, true, Some, slice_get}
use Rattle.pg_grammar_form.specs.Forms.{Node}
use Rattle.pg_grammar_form.specs.declared.form.Form.TheVariants as form
use Rattle.pg_grammar_form.specs.declared.side.Side.TheVariants.{Left, Right}
use Rattle.pg_grammar_value.specs.Grammar.{Grammar}
use Rattle.pg_grammar_value.specs.declared.grammar.Rule as declared
use Rattle.pg_language.specs.Derives.{Spot}
use Rattle.pg_machine_plan.specs.Columns.{Wherever, IsColumn}
use Rattle.pg_machine_plan.specs.Layout.{Notes, NotesAll, Tries, GoesRound, ComesTo, FoldsBack, IsNoted, IsLaid, IsForTexts}
use Rattle.pg_machine_plan.specs.Plans.{program, Plan, Program, chosen}
use Rattle.pg_machine_plan.specs.Verdicts.{slot}
use Rattle.pg_machine_plan.specs.declared.instruction.Arm.{Arm}
use Rattle.pg_machine_plan.specs.declared.instruction.Instruction.TheVariants.{Enter, Pick, Return, Link, Mark, Commit, Again, Stop}
use Rattle.pg_machine_plan.specs.declared.instruction.Keep.{Keep}
use Rattle.pg_machine_plan.specs.declared.instruction.Keep.TheVariants.{Kept}
use Rattle.pg_machine_plan.specs.declared.instruction.Stretch.{Stretch}
use Rattle.pg_machine_plan.specs.declared.judge_choices.Tried.{Tried}
use Rattle.pg_machine_plan.specs.declared.judge_choices.Tried.TheVariants.{Ends, GoesOn, Wrong}
use Rattle.pg_machine_plan.specs.declared.judge_rounds.Way.{Way}
use Rattle.pg_machine_plan.specs.declared.judge_rounds.Way.TheVariants.{Jumps, Folds}
use Rattle.pg_machine_plan.specs.declared.next.Next.{Next}
use Rattle.pg_machine_plan.specs.declared.verdict.Verdict.{Verdict}
use Rattle.pg_machine_plan.specs.declared.verdict.Verdict.TheVariants.{Unknown, Fails, Empty, Takes}

-- the plan is right for the grammar, whatever the text
abbrev pub IsRightFor : Grammar → Plan → Type 0
IsRightFor g plan = (text : List ℕ) → IsForTexts (program g plan text)

-- ---- alternatives

-- wherever this comes next, the code at the arm tries these alternatives in order
abbrev pub TriesAt : Grammar → Plan → Keep → ℕ → Next → Arm → List ℕ → Type 0
TriesAt g plan keep end next arm ps = Wherever next (λ text a. Tries (program g plan text) keep end a arm.target arm.nodes ps)

-- an arm of the table that is picked from there, where this comes next
abbrev pub PicksAt : Plan → Next → ℕ → Arm → Type 0
PicksAt plan next pc arm = (table : ℕ) × (slice_get plan.code pc ≡ Some (Pick table)) × (slice_get plan.arms (130 * table + slot next) ≡ Some arm)

-- the code at the arm tries the alternative without a mark, and goes on at the end
pub record IsSole (plan : Plan) (keep : Keep) (end : ℕ) (arm : Arm) (p : ℕ) : Type 0 where
  pub none : arm.nodes ≡ 0
  pub exit : ℕ
  pub noted : Notes plan keep p arm.target exit
  pub jump : ComesTo plan end exit

-- it tries it under a mark, and where it fails, the others are tried at another arm
pub record IsMarked (plan : Plan) (next : Next) (keep : Keep) (end : ℕ) (arm : Arm) (p : ℕ) (other : Arm) : Type 0 where
  pub none : arm.nodes ≡ 0
  pub others : ℕ
  pub mark : slice_get plan.code arm.target ≡ Some (Mark others)
  pub exit : ℕ
  pub noted : Notes plan keep p (arm.target + 1) exit
  pub commit : slice_get plan.code exit ≡ Some (Commit end)
  pub picked : PicksAt plan next others other

-- what was found of an alternative that has to be tried: it is under a mark; or it isn't, where it is sure that no other has to be tried
abbrev pub IsEntered : Plan → Next → Keep → ℕ → Arm → ℕ → Bool → Tried → Type 0
IsEntered plan next keep end arm p is_sure Ends = (is_sure ≡ true) × IsSole plan keep end arm p
IsEntered plan next keep end arm p is_sure (GoesOn other) = IsMarked plan next keep end arm p other
IsEntered plan next keep end arm p is_sure Wrong = Unit {0}

-- what was found of the first alternative: the code at the arm tries no other, or it tries the others at another arm
abbrev pub TriesFirst : Plan → List Verdict → Next → Keep → ℕ → Arm → ℕ → List ℕ → Tried → Type 0
TriesFirst plan column next keep end arm p ps Ends = (g : Grammar) → IsColumn g next column → TriesAt g plan keep end next arm (p ∷ ps)
TriesFirst plan column next keep end arm p ps (GoesOn other) =
    (g : Grammar) → IsColumn g next column → TriesAt g plan keep end next other ps → TriesAt g plan keep end next arm (p ∷ ps)
TriesFirst plan column next keep end arm p ps Wrong = Unit {0}

-- ---- rounds

-- how code leads back to the head of a loop: of a repetition, or of the chain at a node
abbrev pub LeadsBack : Plan → Keep → ℕ → Way → ℕ → Type 0
LeadsBack plan keep head Jumps pc = ComesTo plan head pc
LeadsBack plan keep head (Folds q) pc = FoldsBack plan keep q head pc

-- a round of these nodes begins there, and leads back to the head
abbrev pub IsRound : Plan → Keep → ℕ → Way → List ℕ → ℕ → Type 0
IsRound plan keep head way ps pc = (exit : ℕ) × NotesAll plan keep ps pc exit × LeadsBack plan keep head way exit

-- the same under a mark, and the loop ends where it fails
abbrev pub IsMarkedRound : Plan → Keep → ℕ → ℕ → Way → List ℕ → ℕ → Type 0
IsMarkedRound plan keep head out way ps pc =
    (exit : ℕ) × (next : ℕ) × (slice_get plan.code pc ≡ Some (Mark out)) × NotesAll plan keep ps (pc + 1) exit × (slice_get plan.code exit ≡ Some (Again next)) ×
    LeadsBack plan keep head way next

-- the arm at the head goes past the loop where the first node of a round fails at once, and otherwise into a round, which is under a mark, unless it is sure
-- that it consumes
abbrev pub IsLoopArm : Plan → Verdict → Keep → ℕ → ℕ → Way → List ℕ → Arm → Type 0
IsLoopArm plan (Fails m) keep head out way ps arm = (arm.nodes ≡ m) × (arm.target ≡ out)
IsLoopArm plan Takes keep head out way ps arm = (arm.nodes ≡ 0) × (IsRound plan keep head way ps arm.target ⊎ IsMarkedRound plan keep head out way ps arm.target)
IsLoopArm plan (Empty m) keep head out way ps arm = (arm.nodes ≡ 0) × IsMarkedRound plan keep head out way ps arm.target
IsLoopArm plan Unknown keep head out way ps arm = (arm.nodes ≡ 0) × IsMarkedRound plan keep head out way ps arm.target

-- wherever this comes next, the arm at the head goes past the loop, or into a round
abbrev pub GoesRoundAt : Grammar → Plan → Keep → ℕ → ℕ → Next → Arm → ℕ → List ℕ → Way → Type 0
GoesRoundAt g plan keep head out next arm p ps way =
    Wherever next (λ text a. GoesRound (program g plan text) keep head out a arm p ps (LeadsBack plan keep head way))

-- ---- stretches

-- at the spot, the arm of the table with which a choice begins is right
abbrev pub HasChoiceArm : Program → Spot → ℕ → Stretch → List ℕ → Type 0
HasChoiceArm P a pc s ps = (table : ℕ) (arm : Arm) → slice_get P.plan.code pc ≡ Some (Pick table) → chosen P.plan table (slice_get P.given.text a.place) ≡ Some arm →
    (n : ℕ) × (arm.nodes ≡ 1 + n) × Tries P s.keep s.end a arm.target n ps

-- that at the head of a repetition
abbrev pub HasManyArm : Program → Spot → ℕ → Stretch → ℕ → Type 0
HasManyArm P a pc s p = (table : ℕ) (arm : Arm) → slice_get P.plan.code pc ≡ Some Enter → slice_get P.plan.code (pc + 1) ≡ Some (Pick table) →
    chosen P.plan table (slice_get P.given.text a.place) ≡ Some arm → GoesRound P s.keep (pc + 1) s.end a arm p [] (ComesTo P.plan (pc + 1))

-- that at the head of a chain
abbrev pub HasChainArm : Program → Spot → ℕ → Stretch → ℕ → ℕ → Type 0
HasChainArm P a pc s p separator = (head table out : ℕ) (arm : Arm) → IsNoted P s.keep p (pc + 1) head → slice_get P.plan.code head ≡ Some (Pick table) → s.end ≡ out + 1 →
    chosen P.plan table (slice_get P.given.text a.place) ≡ Some arm → GoesRound P s.keep head out a arm separator (p ∷ []) (FoldsBack P.plan s.keep s.node head)

-- the same of a chain that is folded from the right
abbrev pub HasLinkArm : Program → Spot → ℕ → Stretch → ℕ → ℕ → Type 0
HasLinkArm P a pc s p separator = (head table out : ℕ) (arm : Arm) → IsNoted P s.keep p (pc + 1) head → slice_get P.plan.code head ≡ Some (Pick table) → s.end ≡ out + 2 →
    chosen P.plan table (slice_get P.given.text a.place) ≡ Some arm → GoesRound P s.keep (head + 1) out a arm separator [] (ComesTo P.plan (head + 1))

-- at the spot, the arm of the table of a stretch is right; most forms have none
abbrev pub HasArm : Program → Spot → ℕ → Stretch → Node → Type 0
HasArm P a pc s (form.Choice ps) = HasChoiceArm P a pc s ps
HasArm P a pc s (form.Many p) = HasManyArm P a pc s p
HasArm P a pc s (form.Chain Left used p separator) = HasChainArm P a pc s p separator
HasArm P a pc s (form.Chain Right used p separator) = HasLinkArm P a pc s p separator
HasArm P a pc s (form.Leaf l) = Unit {0}
HasArm P a pc s (form.Seq ps) = Unit {0}
HasArm P a pc s (form.Rule r) = Unit {0}
HasArm P a pc s (form.Expression builders p) = Unit {0}
HasArm P a pc s (form.Around k p) = Unit {0}

-- a stretch is of the node, if its arms are right at all spots
abbrev pub IsShaped : Grammar → Plan → ℕ → Stretch → Node → Type 0
IsShaped g plan pc s n = (text : List ℕ) → ((a : Spot) → HasArm (program g plan text) a pc s n) → IsLaid (program g plan text) s.keep s.node pc n s.end

-- the stretch that begins there, if one is noted, is of its node, if its arms are right
abbrev pub HasShape : Grammar → Plan → ℕ → Type 0
HasShape g plan pc = (s : Stretch) → slice_get plan.stretches pc ≡ Some (Some s) → (n : Node) × (slice_get g.nodes s.node ≡ Some n) × IsShaped g plan pc s n

-- the arm of its table is right, wherever this comes next
abbrev pub HasArmsAt : Grammar → Plan → Next → ℕ → Type 0
HasArmsAt g plan next pc = (s : Stretch) → slice_get plan.stretches pc ≡ Some (Some s) → (n : Node) → slice_get g.nodes s.node ≡ Some n →
    Wherever next (λ text a. HasArm (program g plan text) a pc s n)

-- after the table of a chain that is folded from the right, a link is noted, an operand follows, and the table comes again
abbrev pub IsLink : Plan → Keep → ℕ → ℕ → Type 0
IsLink plan keep p head = (end : ℕ) × (slice_get plan.code (head + 1) ≡ Some Link) × Notes plan keep p (head + 2) end × ComesTo plan head end

-- a stretch for the node is noted there, and code returns after it
abbrev pub IsBody : Plan → Keep → ℕ → ℕ → Type 0
IsBody plan keep p pc = (exit : ℕ) × Notes plan keep p pc exit × (slice_get plan.code exit ≡ Some Return)

-- the run over a text begins at the start rule's body, and returns to an instruction that stops
pub record BeginsRight (g : Grammar) (plan : Plan) : Type 0 where
  pub start : declared.Rule
  pub is_start : slice_get g.rules g.start ≡ Some start
  pub body : IsBody plan Kept start.body plan.entry
  pub stop : slice_get plan.code 0 ≡ Some Stop
