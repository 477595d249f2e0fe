-- How the machine over lists shows the machine on plain values: what frames own lies on the lists, with the
-- topmost frame's last. The lengths that frames keep are those of the frames below. The table on the tape is that of the machine's
-- spot; if a frame kept a number of operators, that many first ones are those of the frame's spot.
use Rattle.std.specs.Prelude.{◌≡◌, ◌≤◌, ◌+◌, ◌-◌, ℕ, Bool, List, [], ◌∷◌, ◌++◌, true, false, length, take, Option, Some, None}
use Rattle.pg_tree.specs.Trees.{Tree}
use Rattle.pg_grammar_form.specs.declared.form.Around.{Around}
use Rattle.pg_grammar_form.specs.declared.side.Side.TheVariants.{Left, Right}
use Rattle.pg_grammar_value.specs.declared.trail.TrailItem.{TrailItem}
use Rattle.pg_grammar_value.specs.declared.trail.TrailItem.TheVariants.{Alt}
use Rattle.pg_table.specs.Tables.{Table}
use Rattle.pg_language.specs.Errors.{Error}
use Rattle.pg_language.specs.Outcomes.{ok, failed, empty_round}
use Rattle.pg_machine_turns.specs.Frames.{Before, none_before, before, Tried, none_tried, failed_tried, ok_tried, Chain, Linked, Frame, in_parts, in_choice, in_rounds, in_first, in_separator, in_operand, in_rule, in_around, in_expression}
use Rattle.pg_message_tape.specs.Messages.{TapeMessage}
use Rattle.pg_machine_turns.specs.Tape.{OnTried, no_tried, tried_failure, tried_empty_ok, OnChain, OnLinks, OnFrame, on_parts, on_choice, on_rounds, on_first, on_separator, on_operand, on_rule, on_around, on_expression, Tape, tape_at, tape_with, tape_endless, hides}
use Rattle.pg_language.specs.Answers.{Given}
use Rattle.pg_machine_turns.specs.Extends.{Extends}
use Rattle.pg_machine_turns.specs.Spots.{spot_at}
use Rattle.pg_machine_lists.specs.TapeLevels.{OnLevel, OnSetting}
use Rattle.pg_machine_turns.specs.Levels.{Level}
use Rattle.pg_machine_turns.specs.ShowsLevels.{ShowsLevels, opened}
use Rattle.pg_machine_lists.specs.RunTrees.{RunTrees}
use Rattle.pg_machine_turns.specs.Turns.{State, at_node, with_outcome, endless}
use Rattle.pg_message_tape.specs.TapeErrors.{Says, Holds}
use Rattle.pg_machine_turns.specs.declared.frame.Before as declared
use Rattle.pg_machine_turns.specs.declared.frame.Reply.TheVariants.{Succeeded, Failed, EmptyRound}
use Rattle.pg_message_tape.specs.declared.message_tape.KeptError.{KeptError}
use Rattle.pg_message_tape.specs.declared.message_tape.TapeError.{TapeError}

-- a chain as the definitions have it
abbrev pub plain : OnChain → Chain
plain ch = record { side = ch.side; shape = ch.used.shape; operand = ch.operand; separator = ch.separator }

-- the earlier parts, with their forest, their trail, the list that ends with their messages and the table after them, on
-- the first list and the first table
pub data ShowsBefore : List TapeMessage → Table → Before → List Tree → List TrailItem → Option declared.Before → List TapeMessage → Table →
    Type 0 where
  no_parts : {x : List TapeMessage} {T : Table} → ShowsBefore x T none_before [] [] None x T
  some_parts : {x y : List TapeMessage} {T U : Table} {kept : KeptError} {c : Bool} {v : List Tree} {t : List TrailItem} {e : Error} →
      Holds x kept e y → Extends c T U → ShowsBefore x T (before c v t e) v t (Some (record { consumed = c; kept = kept })) y U

-- the index from which trees are discarded, if a form discards any: that of the lowest such form
abbrev pub lower : Option ℕ → Bool → ℕ → Option ℕ
lower (Some m) hides n = Some m
lower None true n = Some n
lower None false n = None

abbrev pub thrown_from : List OnFrame → Option ℕ
thrown_from [] = None
thrown_from (on_parts rest b ∷ gs) = thrown_from gs
thrown_from (on_choice k ps i q n m o ∷ gs) = thrown_from gs
thrown_from (on_rounds p k c i slot n m o l ∷ gs) = thrown_from gs
thrown_from (on_first chain slot n ∷ gs) = thrown_from gs
thrown_from (on_separator l ∷ gs) = thrown_from gs
thrown_from (on_operand l b n ∷ gs) = thrown_from gs
thrown_from (on_rule ∷ gs) = thrown_from gs
thrown_from (on_expression e levels ∷ gs) = thrown_from gs
thrown_from (on_around around i n o ∷ gs) = lower (thrown_from gs) (hides around) n

abbrev pub one_if : Bool → ℕ
one_if true = 1
one_if false = 0

-- how many of these frames discard trees
abbrev pub hiding_in : List OnFrame → ℕ
hiding_in [] = 0
hiding_in (on_parts rest b ∷ gs) = hiding_in gs
hiding_in (on_choice k ps i q n m o ∷ gs) = hiding_in gs
hiding_in (on_rounds p k c i slot n m o l ∷ gs) = hiding_in gs
hiding_in (on_first chain slot n ∷ gs) = hiding_in gs
hiding_in (on_separator l ∷ gs) = hiding_in gs
hiding_in (on_operand l b n ∷ gs) = hiding_in gs
hiding_in (on_rule ∷ gs) = hiding_in gs
hiding_in (on_expression e levels ∷ gs) = hiding_in gs
hiding_in (on_around around i n o ∷ gs) = hiding_in gs + one_if (hides around)

-- these trees, all kept, or only those before the ones that will be discarded
abbrev pub Keeps : Option ℕ → RunTrees → List Tree → Type 0
Keeps None f v = (f.hiding ≡ 0) × (f.kept ≡ v) × (f.hidden ≡ 0)
Keeps (Some n) f v = (1 ≤ f.hiding) × (n ≤ length v) × (f.kept ≡ take n v) × (f.hidden ≡ length v - n)

-- the trees of the run under these frames
pub record Means (gs : List OnFrame) (f : RunTrees) (v : List Tree) : Type 0 where
  pub count : f.hiding ≡ hiding_in gs
  pub trees : Keeps (thrown_from gs) f v

-- as `Keeps`, for trees that were taken off: all of them, or their number
abbrev pub IsPart : Option ℕ → List Tree → ℕ → List Tree → Type 0
IsPart None p h v = (p ≡ v) × (h ≡ 0)
IsPart (Some n) p h v = (p ≡ []) × (h ≡ length v)

pub record KeepsPart (thrown : Option ℕ) (p : List Tree) (h : ℕ) (v : List Tree) : Type 0 where
  pub is : IsPart thrown p h v

pub data ShowsTried (thrown : Option ℕ) (T : Table) : List TapeMessage → Tried → OnTried → List TapeMessage → Type 0 where
  nothing_tried : {x : List TapeMessage} → ShowsTried thrown T x none_tried no_tried x
  a_failure : {x y : List TapeMessage} {kept : KeptError} {e : Error} → Holds x kept e y → ShowsTried thrown T x (failed_tried e) (tried_failure kept) y
  an_empty_ok : {x y : List TapeMessage} {kept : KeptError} {i h : ℕ} {v p : List Tree} {t : List TrailItem} {e : Error} → Holds x kept e y →
      KeepsPart thrown p h v → ShowsTried thrown T x (ok_tried (spot_at T i) v t e) (tried_empty_ok i p h t kept) y

-- the trees that wait to be folded lie after the first list; in a left chain none do
pub data Waits : OnChain → List Tree → List (List Tree × List Tree) → List ℕ → List Tree → Type 0 where
  none_wait : {ch : OnChain} {v : List Tree} → Waits ch v [] [] v
  from_left : {ch : OnChain} {v : List Tree} {waiting : List (List Tree × List Tree)} → ch.side ≡ Left → Waits ch v waiting [] v
  from_right : {ch : OnChain} {v y a s : List Tree} {waiting : List (List Tree × List Tree)} {ns : List ℕ} → ch.side ≡ Right →
      Waits ch v waiting ns y →
      Waits ch v ((a, s) ∷ waiting) (length y ∷ ns) (y ++ a ++ s)

-- a chain after some links, over the lists and the table below it
pub data ShowsLinks : List Tree → List TrailItem → List TapeMessage → Table → Linked → ℕ → OnLinks → List Tree → List TrailItem → List TapeMessage →
    Table → Type 0 where
  links : {ch : OnChain} {v y w : List Tree} {t u : List TrailItem} {x z : List TapeMessage} {T U : Table}
      {waiting : List (List Tree × List Tree)} {ns : List ℕ} {n i : ℕ} {c : Bool} {kept : KeptError} {e : Error}
      (item : TrailItem) → Waits ch v waiting ns y → Holds x kept e z → Extends c T U →
      ShowsLinks v t x T (record { count = n; consumed = c; trail = u; error = e; waiting = waiting; left = w }) i
      (record {
        chain = ch;
        slot = length t;
        count = n;
        consumed = c;
        kept = kept;
        waiting = ns;
        left = length y;
        start = i;
        forest = length (y ++ w);
        trail = length (t ++ item ∷ u);
        operators = length U.operators;
      })
      (y ++ w) (t ++ item ∷ u) z U

-- the frames over these lists and under this table show the plain frames with what they own
pub data Stands (G : Given) : List Frame → List OnFrame → List Tree → List TrailItem → List TapeMessage → Table → Type 0 where
  no_frames : {T : Table} → Stands G [] [] [] [] [] T
  stands_parts : {fs : List Frame} {gs : List OnFrame} {v w : List Tree} {t u : List TrailItem} {x y : List TapeMessage} {T U : Table}
      {ps : List ℕ} {done : Before} {b : Option declared.Before} →
      Stands G fs gs v t x T → ShowsBefore x T done w u b y U →
      Stands G (in_parts ps done ∷ fs) (on_parts ps b ∷ gs) (v ++ w) (t ++ u) y U
  stands_choice : {fs : List Frame} {gs : List OnFrame} {v : List Tree} {t : List TrailItem} {x y : List TapeMessage} {T : Table}
      {ps : List ℕ} {k i : ℕ} {tried : Tried} {q : OnTried} →
      Stands G fs gs v t x T → ShowsTried (thrown_from gs) T x tried q y →
      Stands G (in_choice k ps (spot_at T i) tried ∷ fs) (on_choice k ps i q (length v) (length t) (length T.operators) ∷ gs) v
      (t ++ Alt k ∷ []) y T
  stands_rounds : {fs : List Frame} {gs : List OnFrame} {v w : List Tree} {t u : List TrailItem} {x : List TapeMessage} {T U : Table}
      {p k i : ℕ} {c : Bool} (item : TrailItem) →
      Stands G fs gs v t x T → Extends c T U →
      Stands G (in_rounds p k c (spot_at U i) w u ∷ fs) (on_rounds p k c i (length t) (length (v ++ w)) (length (t ++ item ∷ u))
      (length U.operators) (length x) ∷ gs) (v ++ w) (t ++ item ∷ u) x U
  stands_first : {fs : List Frame} {gs : List OnFrame} {v : List Tree} {t : List TrailItem} {x : List TapeMessage} {T : Table}
      {ch : OnChain} (item : TrailItem) →
      Stands G fs gs v t x T → Stands G (in_first (plain ch) ∷ fs) (on_first ch (length t) (length v) ∷ gs) v (t ++ item ∷ []) x T
  stands_separator : {fs : List Frame} {gs : List OnFrame} {v w : List Tree} {t u : List TrailItem} {x y : List TapeMessage} {T U : Table}
      {linked : Linked} {i : ℕ} {l : OnLinks} →
      Stands G fs gs v t x T → ShowsLinks v t x T linked i l w u y U →
      Stands G (in_separator (plain l.chain) linked (spot_at U i) ∷ fs) (on_separator l ∷ gs) w u y U
  stands_operand : {fs : List Frame} {gs : List OnFrame} {v w s : List Tree} {t u r : List TrailItem} {x y z : List TapeMessage}
      {T U W : Table} {linked : Linked} {i : ℕ} {l : OnLinks} {c : Bool} {kept : KeptError} {e : Error} →
      Stands G fs gs v t x T → ShowsLinks v t x T linked i l w u y U → Holds y kept e z → Extends c U W →
      Stands G (in_operand (plain l.chain) linked (spot_at U i) c s r e ∷ fs) (on_operand l (record { consumed = c; kept = kept })
      (length (w ++ s)) ∷ gs) (w ++ s) (u ++ r) z W
  stands_rule : {fs : List Frame} {gs : List OnFrame} {v : List Tree} {t : List TrailItem} {x : List TapeMessage} {T : Table} →
      Stands G fs gs v t x T → Stands G (in_rule ∷ fs) (on_rule ∷ gs) v t x T
  stands_expression : {fs : List Frame} {gs : List OnFrame} {v w : List Tree} {t u : List TrailItem} {x y : List TapeMessage} {T U : Table}
      {e : OnSetting} {ls : List Level} {ms : List OnLevel} →
      Stands G fs gs v t x T → e.slot ≡ length t → ShowsLevels G e v x T ls ms w u y U →
      Stands G (in_expression e.parts ls ∷ fs) (on_expression e ms ∷ gs) (v ++ w) (t ++ opened u) y U
  stands_around : {fs : List Frame} {gs : List OnFrame} {v : List Tree} {t : List TrailItem} {x : List TapeMessage} {T : Table}
      {around : Around} {i : ℕ} →
      Stands G fs gs v t x T → Stands G (in_around around (spot_at T i) ∷ fs) (on_around around i (length v) (length T.operators) ∷ gs) v t x T

-- the tape shows the state: an ok outcome's trees, items, messages and operators are the last ones, after a
-- failure others may follow, and after an empty round it doesn't matter what lies there
pub data Shows (G : Given) : State → Tape → Type 0 where
  shows_at : {fs : List Frame} {gs : List OnFrame} {v : List Tree} {f : RunTrees} {t : List TrailItem} {x : List TapeMessage} {T : Table} {p i : ℕ} →
      Stands G fs gs v t x T → Means gs f v → Shows G (at_node p (spot_at T i) fs) (tape_at p i gs f t x T)
  shows_succeeded : {fs : List Frame} {gs : List OnFrame} {v w : List Tree} {f : RunTrees} {t u : List TrailItem} {x y : List TapeMessage}
      {T U : Table} {c : Bool} {j : ℕ} {error : TapeError} {e : Error} →
      Stands G fs gs v t x T → Means gs f (v ++ w) → Says x error e y → Extends c T U →
      Shows G (with_outcome (ok c (spot_at U j) w u e) fs) (tape_with (Succeeded c j error) gs f (t ++ u) y U)
  shows_failed : {fs : List Frame} {gs : List OnFrame} {v : List Tree} {f : RunTrees} {t : List TrailItem} {x y : List TapeMessage} {T U : Table}
      {c : Bool} {error : TapeError} {e : Error} (w : List Tree) (u : List TrailItem) →
      Stands G fs gs v t x T → Means gs f (v ++ w) → Says x error e y → Extends true T U →
      Shows G (with_outcome (failed c e) fs) (tape_with (Failed c error) gs f (t ++ u) y U)
  shows_stuck : {fs : List Frame} {gs : List OnFrame} {f : RunTrees} {t : List TrailItem} {x : List TapeMessage} {T : Table} →
      length fs ≡ length gs → Shows G (with_outcome empty_round fs) (tape_with EmptyRound gs f t x T)
  shows_endless : Shows G endless tape_endless
