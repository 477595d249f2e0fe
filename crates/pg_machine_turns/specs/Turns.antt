-- The machine on plain values: one turn enters a node, or passes an outcome to the topmost frame.
use Rattle.std.specs.Prelude.{ℕ, zero, suc, List, [], ◌∷◌, ◌++◌, reverse, Bool, true, false, ◌||◌, Option, Some, None, slice_get}
use Rattle.pg_tree.specs.Trees.{Tree}
use Rattle.pg_grammar_form.specs.Forms.{Node}
use Rattle.pg_grammar_form.specs.declared.form.Form.TheVariants as form
use Rattle.pg_grammar_form.specs.declared.operators_item.OperatorsItem.{OperatorsItem}
use Rattle.pg_grammar_form.specs.declared.used.OperatorBuilders.{OperatorBuilders}
use Rattle.pg_grammar_value.specs.declared.grammar.Rule as declared
use Rattle.pg_grammar_value.specs.declared.trail.TrailItem.{TrailItem}
use Rattle.pg_grammar_value.specs.declared.trail.TrailItem.TheVariants.{Alt, Rounds, Ops}
use Rattle.pg_language.specs.Derives.{Spot, carried}
use Rattle.pg_language.specs.Answers.{Given}
use Rattle.pg_language.specs.Errors.{Error, no_messages_at}
use Rattle.pg_language.specs.Leaves.{leaf_outcome}
use Rattle.pg_expand.specs.declared.rows.Row.{Row}
use Rattle.pg_expand.specs.Rows.{rows_of}
use Rattle.pg_language.specs.OperatorReads.{read_at}
use Rattle.pg_language.specs.Outcomes.{Outcome, ok, failed, empty_round}
use Rattle.pg_language.specs.Reactions.{noted, error_after, unless_begun, surrounded}
use Rattle.pg_language.specs.declared.reading.Reading.{Reading}
use Rattle.pg_language.specs.declared.reading.Reading.TheVariants.{Library, Report}
use Rattle.pg_language.specs.RowReactions.{Setting, past_prefix}
use Rattle.pg_machine_turns.specs.Levels.{Preceding, none_precedes, Level, row_level, Followed, hands_on, operand_runs, follows}
use Rattle.pg_machine_turns.specs.Frames.{Before, none_before, after_parts, with_part, Tried, none_tried, after_tried, with_failure, with_empty_ok, Chain, Linked, after_links, Frame, in_parts, in_choice, in_rounds, in_first, in_separator, in_operand, in_rule, in_around, in_expression}

-- a node to enter, or an outcome to pass to the topmost frame, or no outcome: a chain goes on without
-- an end, or the node has no form that can run
pub data State : Type 0 where
  at_node : (node : ℕ) (a : Spot) (frames : List Frame) → State
  with_outcome : (o : Outcome) (frames : List Frame) → State
  endless : State

-- ---- a node is entered

abbrev pub next_alternative : ℕ → List ℕ → Spot → Tried → List Frame → State
next_alternative k [] a tried fs = with_outcome (after_tried tried (failed false (no_messages_at a.place))) fs
next_alternative k (p ∷ ps) a tried fs = at_node p a (in_choice k ps a tried ∷ fs)

-- passes an outcome on, if there is one
abbrev pub told : Option Outcome → List Frame → State
told None fs = endless
told (Some o) fs = with_outcome o fs

abbrev pub enter_rule : Option declared.Rule → Spot → List Frame → State
enter_rule None a fs = endless
enter_rule (Some named) a fs = at_node named.body a (in_rule ∷ fs)

-- ---- expressions

-- the rows, the loosest first, run from the spot, over these levels: each reads a prefix, if one stands there
abbrev pub descend : Given → Setting → List Row → Spot → List Level → List Frame → State
descend G s [] a levels fs = at_node s.term a (in_expression s levels ∷ fs)
descend G s (r ∷ ts) a levels fs =
    descend G s ts (past_prefix a (read_at G.grammar G.text s.item r.prefix a.place)) (row_level r ts a none_precedes ∷ levels) fs

-- an operand of a row runs from the spot, after what the row read before it
abbrev pub row_operand_at : Given → Setting → Row → List Row → Spot → Preceding → List Level → List Frame → State
row_operand_at G s r ts a before levels fs =
    descend G s ts (past_prefix a (read_at G.grammar G.text s.item r.prefix a.place)) (row_level r ts a before ∷ levels) fs

-- the rows of the table in force run over the term
abbrev pub enter_expression : Given → OperatorBuilders → ℕ → Spot → List Frame → Option OperatorsItem → State
enter_expression G builders p a fs None = endless
enter_expression G builders p a fs (Some item) =
    descend G (record { item = item; builders = builders; term = p }) (reverse (rows_of a.table.operators)) a [] fs

-- the next state for what a level turned an outcome into
abbrev pub followed : Given → Setting → (Outcome → State) → List Level → List Frame → Followed → State
followed G s next levels fs (hands_on y) = next y
followed G s next levels fs (operand_runs r ts a before between) = row_operand_at G s r ts a before (between ++ levels) fs

-- the levels get an outcome, one after the other
abbrev pub climb : Given → Setting → List Level → Outcome → List Frame → State
climb G s [] x fs = with_outcome x fs
climb G s (l ∷ levels) x fs = followed G s (λ y. climb G s levels y fs) levels fs (follows G s l x)

-- ---- forms

abbrev pub enter_form : Given → Node → Spot → List Frame → State
enter_form G (form.Leaf l) a fs = told (leaf_outcome G.grammar G.text l a) fs
enter_form G (form.Seq []) a fs = with_outcome (ok false a [] [] (no_messages_at a.place)) fs
enter_form G (form.Seq (p ∷ ps)) a fs = at_node p a (in_parts ps none_before ∷ fs)
enter_form G (form.Choice ps) a fs = next_alternative (suc zero) ps a none_tried fs
enter_form G (form.Many p) a fs = at_node p a (in_rounds p zero false a [] [] ∷ fs)
enter_form G (form.Chain side used p s) a fs = at_node p a (in_first (record {
  side = side;
  shape = used.shape;
  operand = p;
  separator = s;
}) ∷ fs)
enter_form G (form.Rule r) a fs = enter_rule (slice_get G.grammar.rules r) a fs
enter_form G (form.Expression builders p) a fs = enter_expression G builders p a fs G.grammar.operators
enter_form G (form.Around around p) a fs = at_node p a (in_around around a ∷ fs)

abbrev pub enter_node : Given → Option Node → Spot → List Frame → State
enter_node G None a fs = endless
enter_node G (Some n) a fs = enter_form G n a fs

-- ---- an outcome is passed to a frame

-- an alternative was ok and empty
abbrev pub hand_empty_ok : Reading → ℕ → List ℕ → Spot → Tried → Spot → List Tree → List TrailItem → Error → List Frame → State
hand_empty_ok Library k ps a tried b v t e fs = with_outcome (after_tried tried (ok false b v (Alt k ∷ t) e)) fs
hand_empty_ok Report k ps a tried b v t e fs = next_alternative (suc k) ps a (with_empty_ok tried b v (Alt k ∷ t) e) fs

abbrev pub hand_to_choice : Reading → ℕ → List ℕ → Spot → Tried → Outcome → List Frame → State
hand_to_choice reading k ps a tried (ok true b v t e) fs = with_outcome (after_tried tried (ok true b v (Alt k ∷ t) e)) fs
hand_to_choice reading k ps a tried (ok false b v t e) fs = hand_empty_ok reading k ps a tried b v t e fs
hand_to_choice reading k ps a tried (failed true e) fs = with_outcome (after_tried tried (failed true e)) fs
hand_to_choice reading k ps a tried (failed false e) fs = next_alternative (suc k) ps a (with_failure tried e) fs
hand_to_choice reading k ps a tried empty_round fs = with_outcome empty_round fs

abbrev pub hand_to_parts : List ℕ → Before → Outcome → List Frame → State
hand_to_parts [] done o fs = with_outcome (after_parts done o) fs
hand_to_parts (q ∷ ps) done (ok c b v t e) fs = at_node q b (in_parts ps (with_part done c v t e) ∷ fs)
hand_to_parts (q ∷ ps) done (failed c e) fs = with_outcome (after_parts done (failed c e)) fs
hand_to_parts (q ∷ ps) done empty_round fs = with_outcome empty_round fs

abbrev pub hand_to_rounds : ℕ → ℕ → Bool → Spot → List Tree → List TrailItem → Outcome → List Frame → State
hand_to_rounds p k c a v t (ok true b w u f) fs = at_node p b (in_rounds p (suc k) true b (v ++ w) (t ++ u) ∷ fs)
hand_to_rounds p k c a v t (ok false b w u f) fs = with_outcome empty_round fs
hand_to_rounds p k c a v t (failed true f) fs = with_outcome (failed true f) fs
hand_to_rounds p k c a v t (failed false f) fs = with_outcome (ok c a v (Rounds k ∷ t) f) fs
hand_to_rounds p k c a v t empty_round fs = with_outcome empty_round fs

-- the answer of the chain if no further link comes and the links from here on would give this outcome
abbrev pub ended : Chain → Linked → Outcome → Outcome
ended chain linked o = noted (Rounds linked.count) (after_links chain linked o)

-- a chain after its first operand
abbrev pub first_linked : Bool → List Tree → List TrailItem → Error → Linked
first_linked c v t e = record { count = zero; consumed = c; trail = t; error = e; waiting = []; left = v }

-- one more link, which consumed: a separator's forest, trail and error, then an operand's and whether it consumed
abbrev pub with_link : Chain → Linked → List Tree → List TrailItem → Error → Bool → List Tree → List TrailItem → Error → Linked
with_link chain linked v t e d w u f = record {
  count = suc linked.count;
  consumed = true;
  trail = linked.trail ++ (t ++ u);
  error = error_after d e f;
  waiting = (linked.left, v) ∷ linked.waiting;
  left = carried chain.side chain.shape linked.left v w;
}

abbrev pub hand_to_first : Chain → Outcome → List Frame → State
hand_to_first chain (ok c b v t e) fs = at_node chain.separator b (in_separator chain (first_linked c v t e) b ∷ fs)
hand_to_first chain (failed c e) fs = with_outcome (failed c e) fs
hand_to_first chain empty_round fs = with_outcome empty_round fs

abbrev pub hand_to_separator : Chain → Linked → Spot → Outcome → List Frame → State
hand_to_separator chain linked a (ok c b v t e) fs = at_node chain.operand b (in_operand chain linked a c v t e ∷ fs)
hand_to_separator chain linked a (failed c e) fs = with_outcome (ended chain linked (unless_begun c a linked.left e)) fs
hand_to_separator chain linked a empty_round fs = with_outcome empty_round fs

-- the next link runs, except after a link that consumed nothing, which would run without end
abbrev pub next_link : Bool → Chain → Linked → Spot → List Frame → State
next_link true chain linked b fs = at_node chain.separator b (in_separator chain linked b ∷ fs)
next_link false chain linked b fs = endless

abbrev pub hand_to_operand : Chain → Linked → Spot → Bool → List Tree → List TrailItem → Error → Outcome → List Frame → State
hand_to_operand chain linked a c v t e (ok d b w u f) fs = next_link (c || d) chain (with_link chain linked v t e d w u f) b fs
hand_to_operand chain linked a c v t e (failed d f) fs = with_outcome (ended chain linked (unless_begun (c || d) a linked.left
    (error_after d e f))) fs
hand_to_operand chain linked a c v t e empty_round fs = with_outcome empty_round fs

abbrev pub hand : Given → Frame → Outcome → List Frame → State
hand G (in_parts rest done) o fs = hand_to_parts rest done o fs
hand G (in_choice k ps a tried) o fs = hand_to_choice G.reading k ps a tried o fs
hand G (in_rounds p k c a v t) o fs = hand_to_rounds p k c a v t o fs
hand G (in_first chain) o fs = hand_to_first chain o fs
hand G (in_separator chain linked a) o fs = hand_to_separator chain linked a o fs
hand G (in_operand chain linked a c v t e) o fs = hand_to_operand chain linked a c v t e o fs
hand G in_rule o fs = with_outcome o fs
hand G (in_around around a) o fs = with_outcome (surrounded around G.text a o) fs
hand G (in_expression s levels) o fs = climb G s levels (noted (Ops []) o) fs

-- ---- one turn

abbrev pub turn : Given → State → State
turn G (at_node p a fs) = enter_node G (slice_get G.grammar.nodes p) a fs
turn G (with_outcome o []) = with_outcome o []
turn G (with_outcome o (f ∷ fs)) = hand G f o fs
turn G endless = endless

-- no turn is left
abbrev pub is_last : State → Bool
is_last (at_node p a fs) = false
is_last (with_outcome o []) = true
is_last (with_outcome o (f ∷ fs)) = false
is_last endless = true
