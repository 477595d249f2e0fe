-- The machine over one forest, one trail, one list of messages and one table: frames keep how long these lists were, and how many
-- operators the table had.
use Rattle.std.specs.Prelude.{ℕ, suc, zero, ◌==◌, List, [], ◌∷◌, ◌++◌, length, take, drop, Option, Some, None, Bool, true, false, ◌||◌, slice_get, slice_set, if◌then◌else◌}
use Rattle.pg_tree.specs.Trees.{Tree}
use Rattle.pg_tree.specs.declared.shape.Shape.{Shape}
use Rattle.pg_grammar_form.specs.Forms.{Node}
use Rattle.pg_grammar_form.specs.declared.form.Form.TheVariants as form
use Rattle.pg_grammar_form.specs.declared.form.Around.{Around}
use Rattle.pg_grammar_form.specs.declared.form.Around.TheVariants as kind
use Rattle.pg_grammar_form.specs.declared.side.Side.{Side}
use Rattle.pg_grammar_form.specs.declared.side.Side.TheVariants.{Left, Right}
use Rattle.pg_grammar_value.specs.declared.grammar.Rule as declared
use Rattle.pg_grammar_value.specs.declared.trail.TrailItem.{TrailItem}
use Rattle.pg_grammar_value.specs.declared.trail.TrailItem.TheVariants.{Alt, Rounds, Ops}
use Rattle.pg_grammar_form.specs.declared.operators_item.OperatorsItem.{OperatorsItem}
use Rattle.pg_grammar_form.specs.declared.used.ChainBuilder.{ChainBuilder}
use Rattle.pg_grammar_form.specs.declared.used.OperatorBuilders.{OperatorBuilders}
use Rattle.pg_table.specs.Rows.{rows}
use Rattle.pg_language.specs.Derives.{leaf_of, span}
use Rattle.pg_table.specs.Tables.{Table, first_operators}
use Rattle.pg_language.specs.Answers.{Given}
use Rattle.pg_language.specs.Leaves.{leaf_outcome}
use Rattle.pg_language.specs.Outcomes as outcome
use Rattle.pg_language.specs.Outcomes.{Outcome}
use Rattle.pg_language.specs.Reactions.{counted_by}
use Rattle.pg_language.specs.declared.reading.Reading.{Reading}
use Rattle.pg_language.specs.declared.reading.Reading.TheVariants.{Library, Report}
use Rattle.pg_message_tape.specs.Messages.{TapeMessage, relabelled}
use Rattle.pg_message_tape.specs.TapeErrors.{tape_error, kept_at, merged_tape_error, merged_messages, tape_error_after, messages_after}
use Rattle.pg_machine_turns.specs.Listed.{listed}
use Rattle.pg_machine_turns.specs.Spots.{spot_at}
use Rattle.pg_machine_lists.specs.TapeLevels.{OnLevel, OnSetting, Down, down, OnClimbed, on_ended, on_again, on_climb, OnFailure, on_failed}
use Rattle.pg_machine_lists.specs.RunTrees.{tree_count, rejoined, with_trees, first_trees, hidden_after, built_after, with_hiding, without_hiding}
use Rattle.pg_machine_lists.specs.RunTrees.{RunTrees}
use Rattle.pg_machine_turns.specs.declared.frame.Before.{Before}
use Rattle.pg_machine_turns.specs.declared.frame.Reply.{Reply}
use Rattle.pg_machine_turns.specs.declared.frame.Reply.TheVariants.{Succeeded, Failed, EmptyRound}
use Rattle.pg_message_tape.specs.declared.message_tape.KeptError.{KeptError}
use Rattle.pg_message_tape.specs.declared.message_tape.TapeError.{TapeError}

-- ---- frames, as the code has them

pub data OnTried : Type 0 where
  no_tried : OnTried
  tried_failure : (kept : KeptError) → OnTried
  -- with the trees that it kept, and the number of its further trees
  tried_empty_ok : (end : ℕ) (v : List Tree) (hidden : ℕ) (t : List TrailItem) (kept : KeptError) → OnTried

pub record OnChain : Type 0 where
  pub side : Side
  pub used : ChainBuilder
  pub operand : ℕ
  pub separator : ℕ

-- a chain after its first operand
pub record OnLinks : Type 0 where
  pub chain : OnChain
  pub slot : ℕ
  pub count : ℕ
  pub consumed : Bool
  pub kept : KeptError
  -- the last one first
  pub waiting : List ℕ
  pub left : ℕ
  pub start : ℕ
  pub forest : ℕ
  pub trail : ℕ
  pub operators : ℕ

pub data OnFrame : Type 0 where
  on_parts : (rest : List ℕ) (before : Option Before) → OnFrame
  -- with the lengths of the forest and the trail before the alternatives, and the number of operators
  on_choice : (which : ℕ) (rest : List ℕ) (start : ℕ) (tried : OnTried) (forest trail operators : ℕ) → OnFrame
  -- with the index of its item, the lengths of the forest and the trail before the round, the number of operators, and
  -- the number of messages before all rounds
  on_rounds : (part count : ℕ) (consumed : Bool) (start slot forest trail operators messages : ℕ) → OnFrame
  -- with the index of its item, and the length of the forest
  on_first : OnChain → (slot forest : ℕ) → OnFrame
  on_separator : OnLinks → OnFrame
  -- with the length of the forest before the operand
  on_operand : OnLinks → Before → (forest : ℕ) → OnFrame
  on_rule : OnFrame
  -- with the length of the forest, and the number of operators
  on_around : (around : Around) (start forest operators : ℕ) → OnFrame
  on_expression : OnSetting → List OnLevel → OnFrame

-- the topmost frame first, the forest, the trail, the messages, and the table in force
pub data Tape : Type 0 where
  tape_at : (node place : ℕ) (fs : List OnFrame) (v : RunTrees) (t : List TrailItem) (x : List TapeMessage) (T : Table) → Tape
  tape_with : (reply : Reply) (fs : List OnFrame) (v : RunTrees) (t : List TrailItem) (x : List TapeMessage) (T : Table) → Tape
  tape_endless : Tape

-- ---- leaves

-- the outcome of a leaf, put on the lists
abbrev pub tape_leaf : Outcome → List OnFrame → RunTrees → List TrailItem → List TapeMessage → Table → Tape
tape_leaf (outcome.ok c b w u e) fs v t x T = tape_with (Succeeded c b.place (tape_error e.place (length x))) fs (with_trees w v) (t ++ u)
    (x ++ listed e.messages) b.table
tape_leaf (outcome.failed c e) fs v t x T = tape_with (Failed c (tape_error e.place (length x))) fs v t (x ++ listed e.messages) T
tape_leaf outcome.empty_round fs v t x T = tape_with EmptyRound fs v t x T

-- ---- sequences

-- whether the earlier parts or this one consumed
abbrev pub joined_consumed : Option Before → Bool → Bool
joined_consumed None c = c
joined_consumed (Some b) c = b.consumed || c

-- the error after a kept one: where the answer consumed and has no messages, the kept messages and all later ones are dropped
abbrev pub tape_error_past : Bool → KeptError → TapeError → List TapeMessage → TapeError
tape_error_past true kept error x = if error.from == length x then tape_error error.place kept.from else error
tape_error_past false kept error x = merged_tape_error kept error x

abbrev pub messages_past : Bool → KeptError → TapeError → List TapeMessage → List TapeMessage
messages_past true kept error x = if error.from == length x then take kept.from x else x
messages_past false kept error x = merged_messages kept error x

-- the error after that of the earlier parts
abbrev pub joined_tape_error : Option Before → Bool → TapeError → List TapeMessage → TapeError
joined_tape_error None c error x = error
joined_tape_error (Some b) c error x = tape_error_past c b.kept error x

abbrev pub joined_messages : Option Before → Bool → TapeError → List TapeMessage → List TapeMessage
joined_messages None c error x = x
joined_messages (Some b) c error x = messages_past c b.kept error x

abbrev pub before_at : Bool → ℕ → TapeError → Before
before_at c upto error = record { consumed = c; kept = kept_at upto error }

abbrev pub tape_next_part : List ℕ → Bool → ℕ → TapeError → List OnFrame → RunTrees → List TrailItem → List TapeMessage → Table → Tape
tape_next_part [] c j error fs v t x T = tape_with (Succeeded c j error) fs v t x T
tape_next_part (p ∷ ps) c j error fs v t x T = tape_at p j (on_parts ps (Some (before_at c (length x) error)) ∷ fs) v t x T

abbrev pub tape_to_parts : List ℕ → Option Before → Reply → List OnFrame → RunTrees → List TrailItem → List TapeMessage → Table → Tape
tape_to_parts rest before (Succeeded c j error) fs v t x T = tape_next_part rest (joined_consumed before c) j (joined_tape_error before c error x) fs v t
    (joined_messages before c error x) T
tape_to_parts rest before (Failed c error) fs v t x T = tape_with (Failed (joined_consumed before c)
    (joined_tape_error before c error x)) fs v t (joined_messages before c error x) T
tape_to_parts rest before EmptyRound fs v t x T = tape_with EmptyRound fs v t x T

-- ---- choices

-- the choice's answer from its last one, and from the alternatives before, with the lengths of their lists
abbrev pub tape_settled : OnTried → ℕ → ℕ → ℕ → Reply → List OnFrame → RunTrees → List TrailItem → List TapeMessage → Table → Tape
tape_settled no_tried n m o reply fs v t x T = tape_with reply fs v t x T
tape_settled (tried_failure kept) n m o (Succeeded c j error) fs v t x T = tape_with (Succeeded c j (tape_error_after c kept error x)) fs v t (messages_after c
    kept error x) T
tape_settled (tried_failure kept) n m o (Failed c error) fs v t x T = tape_with (Failed c (tape_error_after c kept error x)) fs v t (messages_after c
    kept error x) T
tape_settled (tried_failure kept) n m o EmptyRound fs v t x T = tape_with EmptyRound fs v t x T
tape_settled (tried_empty_ok i w h u kept) n m o (Succeeded true j error) fs v t x T = tape_with (Succeeded true j error) fs v t x T
tape_settled (tried_empty_ok i w h u kept) n m o (Succeeded false j error) fs v t x T =
    tape_with (Succeeded false i (merged_tape_error kept error x)) fs (rejoined w h (first_trees n v)) (take m t ++ u) (merged_messages kept error x)
    (first_operators o T)
tape_settled (tried_empty_ok i w h u kept) n m o (Failed true error) fs v t x T = tape_with (Failed true error) fs v t x T
tape_settled (tried_empty_ok i w h u kept) n m o (Failed false error) fs v t x T =
    tape_with (Succeeded false i (merged_tape_error kept error x)) fs (rejoined w h (first_trees n v)) (take m t ++ u) (merged_messages kept error x)
    (first_operators o T)
tape_settled (tried_empty_ok i w h u kept) n m o EmptyRound fs v t x T = tape_with EmptyRound fs v t x T

abbrev pub tape_next_alternative : ℕ → List ℕ → ℕ → OnTried → List OnFrame → RunTrees → List TrailItem → List TapeMessage → Table → Tape
tape_next_alternative k [] i tried fs v t x T =
    tape_settled tried (tree_count v) (length t) (length T.operators) (Failed false (tape_error i (length x))) fs v t x T
tape_next_alternative k (p ∷ ps) i tried fs v t x T = tape_at p i (on_choice k ps i tried (tree_count v) (length t)
    (length T.operators) ∷ fs) v (t ++ Alt k ∷ []) x T

-- the error of one more alternative that consumed nothing
abbrev pub tried_tape_error : OnTried → TapeError → List TapeMessage → TapeError
tried_tape_error no_tried error x = error
tried_tape_error (tried_failure kept) error x = merged_tape_error kept error x
tried_tape_error (tried_empty_ok i w h u kept) error x = merged_tape_error kept error x

abbrev pub tried_messages : OnTried → TapeError → List TapeMessage → List TapeMessage
tried_messages no_tried error x = x
tried_messages (tried_failure kept) error x = merged_messages kept error x
tried_messages (tried_empty_ok i w h u kept) error x = merged_messages kept error x

-- one more that failed
abbrev pub tried_with_failure : OnTried → KeptError → OnTried
tried_with_failure no_tried kept = tried_failure kept
tried_with_failure (tried_failure before) kept = tried_failure kept
tried_with_failure (tried_empty_ok i w h u before) kept = tried_empty_ok i w h u kept

-- one more that was ok, with this at the ends of the lists
abbrev pub tried_with_empty_ok : OnTried → ℕ → List Tree → ℕ → List TrailItem → KeptError → OnTried
tried_with_empty_ok no_tried j w h u kept = tried_empty_ok j w h u kept
tried_with_empty_ok (tried_failure before) j w h u kept = tried_empty_ok j w h u kept
tried_with_empty_ok (tried_empty_ok i v g t before) j w h u kept = tried_empty_ok i v g t kept

-- the error to keep from now on
abbrev pub tried_kept : OnTried → TapeError → List TapeMessage → KeptError
tried_kept tried error x = kept_at (length (tried_messages tried error x)) (tried_tape_error tried error x)

abbrev pub tape_empty_ok : Reading → ℕ → List ℕ → ℕ → OnTried → ℕ → ℕ → ℕ → ℕ → TapeError → List OnFrame → RunTrees → List TrailItem →
    List TapeMessage → Table → Tape
tape_empty_ok Library k ps i tried n m o j error fs v t x T = tape_settled tried n m o (Succeeded false j error) fs v t x T
tape_empty_ok Report k ps i tried n m o j error fs v t x T =
    tape_next_alternative (suc k) ps i (tried_with_empty_ok tried j (drop n v.kept) (hidden_after n v) (drop m t) (tried_kept tried error x)) fs (first_trees n v) (take m t)
    (tried_messages tried error x) (first_operators o T)

-- an alternative failed empty, so the next one runs
abbrev pub tape_past_failed : ℕ → List ℕ → ℕ → OnTried → ℕ → ℕ → ℕ → TapeError → List OnFrame → RunTrees → List TrailItem → List TapeMessage → Table → Tape
tape_past_failed k ps i tried n m o error fs v t x T =
    tape_next_alternative (suc k) ps i (tried_with_failure tried (tried_kept tried error x)) fs (first_trees n v) (take m t) (tried_messages tried error x)
    (first_operators o T)

abbrev pub tape_to_choice : Reading → ℕ → List ℕ → ℕ → OnTried → ℕ → ℕ → ℕ → Reply → List OnFrame → RunTrees → List TrailItem →
    List TapeMessage → Table → Tape
tape_to_choice reading k ps i tried n m o (Succeeded true j error) fs v t x T = tape_settled tried n m o (Succeeded true j error) fs v t x T
tape_to_choice reading k ps i tried n m o (Succeeded false j error) fs v t x T = tape_empty_ok reading k ps i tried n m o j error fs v t x T
tape_to_choice reading k ps i tried n m o (Failed true error) fs v t x T = tape_settled tried n m o (Failed true error) fs v t x T
tape_to_choice reading k ps i tried n m o (Failed false error) fs v t x T = tape_past_failed k ps i tried n m o error fs v t x T
tape_to_choice reading k ps i tried n m o EmptyRound fs v t x T = tape_with EmptyRound fs v t x T

-- ---- repetitions

-- a round consumed, so the next one runs
abbrev pub tape_next_round : ℕ → ℕ → ℕ → ℕ → ℕ → List OnFrame → RunTrees → List TrailItem → List TapeMessage → Table → Tape
tape_next_round p k slot l j fs v t x T = tape_at p j (on_rounds p (suc k) true j slot (tree_count v) (length t) (length T.operators) l ∷ fs) v t (take l x) T

-- a round failed empty, so the repetition ends before it
abbrev pub tape_rounds_end : ℕ → Bool → ℕ → ℕ → ℕ → ℕ → ℕ → TapeError → List OnFrame → RunTrees → List TrailItem → List TapeMessage → Table → Tape
tape_rounds_end k c i slot n m o error fs v t x T = tape_with (Succeeded c i error) fs (first_trees n v) (slice_set (take m t) slot (Rounds k)) x (first_operators o T)

abbrev pub tape_to_rounds : ℕ → ℕ → Bool → ℕ → ℕ → ℕ → ℕ → ℕ → ℕ → Reply → List OnFrame → RunTrees → List TrailItem → List TapeMessage → Table → Tape
tape_to_rounds p k c i slot n m o l (Succeeded true j error) fs v t x T = tape_next_round p k slot l j fs v t x T
tape_to_rounds p k c i slot n m o l (Succeeded false j error) fs v t x T = tape_with EmptyRound fs v t x T
tape_to_rounds p k c i slot n m o l (Failed true error) fs v t x T = tape_with (Failed true error) fs v t x T
tape_to_rounds p k c i slot n m o l (Failed false error) fs v t x T = tape_rounds_end k c i slot n m o error fs v t x T
tape_to_rounds p k c i slot n m o l EmptyRound fs v t x T = tape_with EmptyRound fs v t x T

-- ---- chains

-- everything that waits is folded, from the last index on
abbrev pub all_built : Shape → List ℕ → RunTrees → RunTrees
all_built shape [] v = v
all_built shape (n ∷ ns) v = all_built shape ns (built_after shape [] n v)

abbrev pub first_links : OnChain → ℕ → ℕ → Bool → ℕ → KeptError → ℕ → ℕ → ℕ → OnLinks
first_links chain slot n c j kept forest trail operators = record {
  chain = chain;
  slot = slot;
  count = zero;
  consumed = c;
  kept = kept;
  waiting = [];
  left = n;
  start = j;
  forest = forest;
  trail = trail;
  operators = operators;
}

abbrev pub tape_to_first : OnChain → ℕ → ℕ → Reply → List OnFrame → RunTrees → List TrailItem → List TapeMessage → Table → Tape
tape_to_first chain slot n (Succeeded c j error) fs v t x T =
    tape_at chain.separator j (on_separator (first_links chain slot n c j (kept_at (length x) error) (tree_count v) (length t)
    (length T.operators)) ∷ fs) v t x T
tape_to_first chain slot n (Failed c error) fs v t x T = tape_with (Failed c error) fs v t x T
tape_to_first chain slot n EmptyRound fs v t x T = tape_with EmptyRound fs v t x T

-- the error where a link failed empty, merged with the error without messages at the place where the chain ends
abbrev pub end_tape_error : OnLinks → TapeError → List TapeMessage → TapeError
end_tape_error links error x = merged_tape_error (kept_at (length x) error) (tape_error links.start (length x)) x

abbrev pub end_messages : OnLinks → TapeError → List TapeMessage → List TapeMessage
end_messages links error x = merged_messages (kept_at (length x) error) (tape_error links.start (length x)) x

-- a link failed, with or without consumption
abbrev pub tape_ended : OnLinks → Bool → TapeError → List OnFrame → RunTrees → List TrailItem → List TapeMessage → Table → Tape
tape_ended links true error fs v t x T = tape_with (Failed true error) fs v t x T
tape_ended links false error fs v t x T =
    tape_with (Succeeded links.consumed links.start (merged_tape_error links.kept (end_tape_error links error x) (end_messages links error x))) fs
    (all_built links.chain.used.shape links.waiting (first_trees links.forest v)) (slice_set (take links.trail t) links.slot (Rounds links.count))
    (merged_messages links.kept (end_tape_error links error x) (end_messages links error x)) (first_operators links.operators T)

abbrev pub tape_to_separator : OnLinks → Reply → List OnFrame → RunTrees → List TrailItem → List TapeMessage → Table → Tape
tape_to_separator links (Succeeded c j error) fs v t x T = tape_at links.chain.operand j (on_operand links (before_at c (length x) error)
    (tree_count v) ∷ fs) v t x T
tape_to_separator links (Failed c error) fs v t x T = tape_ended links c error fs v t x T
tape_to_separator links EmptyRound fs v t x T = tape_with EmptyRound fs v t x T

-- the forest after a link: one tree in a left chain, with the operand's trees by themselves in a right chain
abbrev pub link_forest : Side → Shape → ℕ → RunTrees → RunTrees
link_forest Left shape n v = built_after shape [] n v
link_forest Right shape n v = v

abbrev pub link_waiting : Side → ℕ → List ℕ → List ℕ
link_waiting Left n ns = ns
link_waiting Right n ns = n ∷ ns

abbrev pub link_left : Side → ℕ → ℕ → ℕ
link_left Left n m = n
link_left Right n m = m

-- one more link, with the place where its operand ended, the index where its trees began, its error, and the lengths of the lists
abbrev pub more_links : OnLinks → ℕ → ℕ → KeptError → ℕ → ℕ → ℕ → OnLinks
more_links links j n kept forest trail operators = record {
  chain = links.chain;
  slot = links.slot;
  count = suc links.count;
  consumed = true;
  kept = kept;
  waiting = link_waiting links.chain.side links.left links.waiting;
  left = link_left links.chain.side links.left n;
  start = j;
  forest = forest;
  trail = trail;
  operators = operators;
}

abbrev pub tape_linked : Bool → OnLinks → ℕ → ℕ → KeptError → List OnFrame → RunTrees → List TrailItem → List TapeMessage → Table → Tape
tape_linked true links j n kept fs v t x T = tape_at links.chain.separator j (on_separator (more_links links j n kept (tree_count v)
    (length t) (length T.operators)) ∷ fs) v t x T
tape_linked false links j n kept fs v t x T = tape_endless

abbrev pub tape_to_operand : OnLinks → Before → ℕ → Reply → List OnFrame → RunTrees → List TrailItem → List TapeMessage → Table → Tape
tape_to_operand links before n (Succeeded d j error) fs v t x T =
    tape_linked (before.consumed || d) links j n (kept_at (length (messages_after d before.kept error x))
    (tape_error_after d before.kept error x)) fs
    (link_forest links.chain.side links.chain.used.shape links.left v) t (messages_after d before.kept error x) T
tape_to_operand links before n (Failed d error) fs v t x T =
    tape_ended links (before.consumed || d) (tape_error_after d before.kept error x) fs v t (messages_after d before.kept error x) T
tape_to_operand links before n EmptyRound fs v t x T = tape_with EmptyRound fs v t x T

-- ---- forms around one part

-- the form's reply
abbrev pub reply_around : Around → Reply → Reply
reply_around around (Succeeded c j error) = Succeeded c j error
reply_around around (Failed c error) = Failed (counted_by around c) error
reply_around around EmptyRound = EmptyRound

-- whether a form discards its part's trees
abbrev pub hides : Around → Bool
hides kind.Try = false
hides kind.Text = true
hides kind.Skip = true
hides (kind.Build used symbol) = false
hides (kind.Label message) = false
hides kind.Local = false

-- the form applied to the trees after the first n, where the part read the text between the two places
abbrev pub forest_made : Around → List ℕ → ℕ → ℕ → ℕ → RunTrees → RunTrees
forest_made kind.Try text i j n v = v
forest_made kind.Text text i j n v = with_trees (leaf_of (span text i j) ∷ []) (without_hiding (first_trees n v))
forest_made kind.Skip text i j n v = without_hiding (first_trees n v)
forest_made (kind.Build used symbol) text i j n v = built_after used.shape symbol n v
forest_made (kind.Label message) text i j n v = v
forest_made kind.Local text i j n v = v

-- the trees where the part failed: none that is hidden is left
abbrev pub forest_left : Around → ℕ → RunTrees → RunTrees
forest_left kind.Try n v = v
forest_left kind.Text n v = without_hiding (first_trees n v)
forest_left kind.Skip n v = without_hiding (first_trees n v)
forest_left (kind.Build used symbol) n v = v
forest_left (kind.Label message) n v = v
forest_left kind.Local n v = v

abbrev pub forest_around : Around → List ℕ → ℕ → ℕ → Reply → RunTrees → RunTrees
forest_around around text i n (Succeeded c j error) v = forest_made around text i j n v
forest_around around text i n (Failed c error) v = forest_left around n v
forest_around around text i n EmptyRound v = v

-- the trees where a form begins
abbrev pub forest_in : Around → RunTrees → RunTrees
forest_in around v = if hides around then with_hiding v else v

-- a label's name becomes what was expected, except in an ok answer without messages
abbrev pub label_succeeded : Bool → List ℕ → TapeError → List TapeMessage → List TapeMessage
label_succeeded true message error x = x
label_succeeded false message error x = if error.from == length x then x else relabelled message error.from x

abbrev pub label_failed : Bool → List ℕ → TapeError → List TapeMessage → List TapeMessage
label_failed true message error x = x
label_failed false message error x = relabelled message error.from x

abbrev pub labelled_messages : List ℕ → Reply → List TapeMessage → List TapeMessage
labelled_messages message (Succeeded c j error) x = label_succeeded c message error x
labelled_messages message (Failed c error) x = label_failed c message error x
labelled_messages message EmptyRound x = x

abbrev pub messages_around : Around → Reply → List TapeMessage → List TapeMessage
messages_around kind.Try reply x = x
messages_around kind.Text reply x = x
messages_around kind.Skip reply x = x
messages_around (kind.Build used symbol) reply x = x
messages_around (kind.Label message) reply x = labelled_messages message reply x
messages_around kind.Local reply x = x

-- the table after an ok answer: `local` restores the operators from before it
abbrev pub left_table : Around → ℕ → Table → Table
left_table kind.Try o T = T
left_table kind.Text o T = T
left_table kind.Skip o T = T
left_table (kind.Build used symbol) o T = T
left_table (kind.Label message) o T = T
left_table kind.Local o T = first_operators o T

abbrev pub table_around : Around → ℕ → Reply → Table → Table
table_around around o (Succeeded c j error) T = left_table around o T
table_around around o (Failed c error) T = T
table_around around o EmptyRound T = T

abbrev pub tape_to_around : List ℕ → Around → ℕ → ℕ → ℕ → Reply → List OnFrame → RunTrees → List TrailItem → List TapeMessage → Table → Tape
tape_to_around text around i n o reply fs v t x T =
    tape_with (reply_around around reply) fs (forest_around around text i n reply v) t (messages_around around reply x)
    (table_around around o reply T)

-- ---- expressions

-- the term runs, over these levels
abbrev pub tape_down : Given → OnSetting → Down → List OnFrame → Table → Tape
tape_down G e d fs T = tape_at e.parts.term d.place (on_expression e d.levels ∷ fs) d.lists.v d.lists.t d.lists.x T

abbrev pub tape_climbed : Given → OnSetting → OnClimbed → List OnFrame → Table → Tape
tape_climbed G e (on_ended z) fs T = tape_with (Succeeded z.consumed z.place z.error) fs z.lists.v z.lists.t z.lists.x T
tape_climbed G e (on_again d) fs T = tape_down G e d fs T

abbrev pub tape_failed : OnFailure → List OnFrame → RunTrees → List TrailItem → Table → Tape
tape_failed f fs v t T = tape_with (Failed f.consumed f.error) fs v t f.messages T

abbrev pub tape_to_expression : Given → OnSetting → List OnLevel → Reply → List OnFrame → RunTrees → List TrailItem → List TapeMessage → Table → Tape
tape_to_expression G e levels (Succeeded c j error) fs v t x T =
    tape_climbed G e (on_climb G e levels (record { consumed = c; place = j; error = error; lists = record { v = v; t = t; x = x } })) fs T
tape_to_expression G e levels (Failed c error) fs v t x T =
    tape_failed (on_failed levels (record { consumed = c; error = error; messages = x })) fs v t T
tape_to_expression G e levels EmptyRound fs v t x T = tape_with EmptyRound fs v t x T

-- ---- turns

abbrev pub tape_hand : Given → OnFrame → Reply → List OnFrame → RunTrees → List TrailItem → List TapeMessage → Table → Tape
tape_hand G (on_parts rest before) reply fs v t x T = tape_to_parts rest before reply fs v t x T
tape_hand G (on_choice k ps i tried n m o) reply fs v t x T = tape_to_choice G.reading k ps i tried n m o reply fs v t x T
tape_hand G (on_rounds p k c i slot n m o l) reply fs v t x T = tape_to_rounds p k c i slot n m o l reply fs v t x T
tape_hand G (on_first chain slot n) reply fs v t x T = tape_to_first chain slot n reply fs v t x T
tape_hand G (on_separator links) reply fs v t x T = tape_to_separator links reply fs v t x T
tape_hand G (on_operand links before n) reply fs v t x T = tape_to_operand links before n reply fs v t x T
tape_hand G on_rule reply fs v t x T = tape_with reply fs v t x T
tape_hand G (on_around around i n o) reply fs v t x T = tape_to_around G.text around i n o reply fs v t x T
tape_hand G (on_expression e levels) reply fs v t x T = tape_to_expression G e levels reply fs v t x T

abbrev pub tape_seq : List ℕ → ℕ → List OnFrame → RunTrees → List TrailItem → List TapeMessage → Table → Tape
tape_seq [] i fs v t x T = tape_with (Succeeded false i (tape_error i (length x))) fs v t x T
tape_seq (p ∷ ps) i fs v t x T = tape_at p i (on_parts ps None ∷ fs) v t x T

-- a repetition begins, with an item whose number isn't known yet
abbrev pub tape_many : ℕ → ℕ → List OnFrame → RunTrees → List TrailItem → List TapeMessage → Table → Tape
tape_many p i fs v t x T =
    tape_at p i (on_rounds p 0 false i (length t) (tree_count v) (length (t ++ Rounds 0 ∷ [])) (length T.operators) (length x) ∷ fs) v
    (t ++ Rounds 0 ∷ []) x T

-- a chain begins, with an item whose number isn't known yet
abbrev pub tape_chain : OnChain → ℕ → List OnFrame → RunTrees → List TrailItem → List TapeMessage → Table → Tape
tape_chain chain i fs v t x T = tape_at chain.operand i (on_first chain (length t) (tree_count v) ∷ fs) v (t ++ Rounds 0 ∷ []) x T

abbrev pub tape_rule : Option declared.Rule → ℕ → List OnFrame → RunTrees → List TrailItem → List TapeMessage → Table → Tape
tape_rule None i fs v t x T = tape_endless
tape_rule (Some named) i fs v t x T = tape_at named.body i (on_rule ∷ fs) v t x T

-- the outcome of a leaf, if it has one
abbrev pub tape_told : Option Outcome → List OnFrame → RunTrees → List TrailItem → List TapeMessage → Table → Tape
tape_told None fs v t x T = tape_endless
tape_told (Some o) fs v t x T = tape_leaf o fs v t x T

-- the rows of the table in force begin, the loosest first, and then the term, with an item whose operators aren't known yet
abbrev pub tape_expression : Given → OperatorBuilders → ℕ → ℕ → List OnFrame → RunTrees → List TrailItem → List TapeMessage → Table → Option OperatorsItem → Tape
tape_expression G builders p i fs v t x T None = tape_endless
tape_expression G builders p i fs v t x T (Some item) =
    let e : OnSetting = record { parts = record { item = item; builders = builders; term = p }; operators = T.operators; slot = length t } in
    tape_down G e (down G e (length (rows T.operators)) i [] (record { v = v; t = t ++ Ops [] ∷ []; x = x })) fs T

abbrev pub tape_enter : Given → Node → ℕ → List OnFrame → RunTrees → List TrailItem → List TapeMessage → Table → Tape
tape_enter G (form.Leaf l) i fs v t x T = tape_told (leaf_outcome G.grammar G.text l (spot_at T i)) fs v t x T
tape_enter G (form.Seq ps) i fs v t x T = tape_seq ps i fs v t x T
tape_enter G (form.Choice ps) i fs v t x T = tape_next_alternative 1 ps i no_tried fs v t x T
tape_enter G (form.Many p) i fs v t x T = tape_many p i fs v t x T
tape_enter G (form.Chain side used p s) i fs v t x T = tape_chain (record { side = side; used = used; operand = p; separator = s }) i fs v t x T
tape_enter G (form.Rule r) i fs v t x T = tape_rule (slice_get G.grammar.rules r) i fs v t x T
tape_enter G (form.Expression builders p) i fs v t x T = tape_expression G builders p i fs v t x T G.grammar.operators
tape_enter G (form.Around around p) i fs v t x T = tape_at p i (on_around around i (tree_count v) (length T.operators) ∷ fs) (forest_in around v) t x T

abbrev pub tape_enter_at : Given → Option Node → ℕ → List OnFrame → RunTrees → List TrailItem → List TapeMessage → Table → Tape
tape_enter_at G None i fs v t x T = tape_endless
tape_enter_at G (Some node) i fs v t x T = tape_enter G node i fs v t x T

-- one turn
abbrev pub tape_turn : Given → Tape → Tape
tape_turn G (tape_at p i fs v t x T) = tape_enter_at G (slice_get G.grammar.nodes p) i fs v t x T
tape_turn G (tape_with reply [] v t x T) = tape_with reply [] v t x T
tape_turn G (tape_with reply (f ∷ fs) v t x T) = tape_hand G f reply fs v t x T
tape_turn G tape_endless = tape_endless

-- no turn is left
abbrev pub tape_is_last : Tape → Bool
tape_is_last (tape_at p i fs v t x T) = false
tape_is_last (tape_with reply [] v t x T) = true
tape_is_last (tape_with reply (f ∷ fs) v t x T) = false
tape_is_last tape_endless = true
