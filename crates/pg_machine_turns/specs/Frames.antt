-- What nodes that were entered wait for, on plain values: each frame owns the results of its parts so far.
use Rattle.std.specs.Prelude.{ℕ, List, [], ◌∷◌, ◌++◌, Bool, ◌||◌}
use Rattle.pg_tree.specs.Trees.{Tree}
use Rattle.pg_tree.specs.declared.shape.Shape.{Shape}
use Rattle.pg_grammar_form.specs.declared.form.Around.{Around}
use Rattle.pg_grammar_form.specs.declared.side.Side.{Side}
use Rattle.pg_grammar_value.specs.declared.trail.TrailItem.{TrailItem}
use Rattle.pg_language.specs.Derives.{Spot}
use Rattle.pg_language.specs.Errors.{Error, merge}
use Rattle.pg_language.specs.Outcomes.{Outcome, ok, failed, empty_round}
use Rattle.pg_language.specs.Reactions.{error_after, then_rest, after_failure, unless_consumed, as_finished}
use Rattle.pg_language.specs.RowReactions.{Setting}
use Rattle.pg_machine_turns.specs.Levels.{Level}

-- ---- sequences

-- the earlier parts, if there are any; they were ok
pub data Before : Type 0 where
  none_before : Before
  before : (c : Bool) (v : List Tree) (t : List TrailItem) (e : Error) → Before

-- the answer of the sequence if its parts from here on give this outcome
abbrev pub after_parts : Before → Outcome → Outcome
after_parts none_before o = o
after_parts (before c v t e) o = then_rest c v t e o

-- one more part
abbrev pub with_part : Before → Bool → List Tree → List TrailItem → Error → Before
with_part none_before d w u f = before d w u f
with_part (before c v t e) d w u f = before (c || d) (v ++ w) (t ++ u) (error_after d e f)

-- ---- choices

-- the result of the earlier alternatives: there are none, or they failed with this error, or one of them was ok and empty
pub data Tried : Type 0 where
  none_tried : Tried
  failed_tried : (e : Error) → Tried
  ok_tried : (b : Spot) (v : List Tree) (t : List TrailItem) (e : Error) → Tried

-- the answer of the choice if its alternatives from here on give this outcome
abbrev pub after_tried : Tried → Outcome → Outcome
after_tried none_tried o = o
after_tried (failed_tried e) o = after_failure e o
after_tried (ok_tried b v t e) o = unless_consumed b v t e o

-- one more that failed empty
abbrev pub with_failure : Tried → Error → Tried
with_failure none_tried f = failed_tried f
with_failure (failed_tried e) f = failed_tried (merge e f)
with_failure (ok_tried b v t e) f = ok_tried b v t (merge e f)

-- one more that was ok and empty: the first of these stands
abbrev pub with_empty_ok : Tried → Spot → List Tree → List TrailItem → Error → Tried
with_empty_ok none_tried d w u f = ok_tried d w u f
with_empty_ok (failed_tried e) d w u f = ok_tried d w u (merge e f)
with_empty_ok (ok_tried b v t e) d w u f = ok_tried b v t (merge e f)

-- ---- repetitions

-- the answer of a repetition, after rounds with this result, if its rounds from here on give this outcome
abbrev pub after_rounds : Bool → List Tree → List TrailItem → Outcome → Outcome
after_rounds c v t (ok d b w u f) = ok (c || d) b (v ++ w) (t ++ u) f
after_rounds c v t (failed d f) = failed (c || d) f
after_rounds c v t empty_round = empty_round

-- ---- chains

pub record Chain : Type 0 where
  pub side : Side
  pub shape : Shape
  pub operand : ℕ
  pub separator : ℕ

-- the result of a chain after its first operand and some links
pub record Linked : Type 0 where
  pub count : ℕ
  pub consumed : Bool
  pub trail : List TrailItem
  pub error : Error
  -- the forests of operands and of the separators after them that wait to be folded, the last ones first
  pub waiting : List (List Tree × List Tree)
  -- the forest to the left of the next separator
  pub left : List Tree

-- the outcome, with everything that waits folded around its forest
abbrev pub folded : Chain → List (List Tree × List Tree) → Outcome → Outcome
folded chain [] o = o
folded chain (x ∷ waiting) o = folded chain waiting (as_finished chain.side chain.shape x.0 x.1 o)

-- the answer of the chain, without its item, if its links from here on give this outcome
abbrev pub after_links : Chain → Linked → Outcome → Outcome
after_links chain linked o = then_rest linked.consumed [] linked.trail linked.error (folded chain linked.waiting o)

-- ---- frames

pub data Frame : Type 0 where
  -- a part of a sequence runs, with these after it
  in_parts : (rest : List ℕ) (done : Before) → Frame
  -- the alternative with this number runs, from the choice's start, with these after it
  in_choice : (which : ℕ) (rest : List ℕ) (start : Spot) (tried : Tried) → Frame
  -- a round of a repetition runs from this spot, after `count` rounds
  in_rounds : (part count : ℕ) (c : Bool) (start : Spot) (v : List Tree) (t : List TrailItem) → Frame
  -- a chain's first operand runs
  in_first : Chain → Frame
  -- a separator runs from this spot
  in_separator : Chain → Linked → (start : Spot) → Frame
  -- the operand of a link that began at this spot runs, after a separator that was ok with this result
  in_operand : Chain → Linked → (start : Spot) (c : Bool) (v : List Tree) (t : List TrailItem) (e : Error) → Frame
  -- the body of a rule runs
  in_rule : Frame
  -- the part of a form around it runs, from this spot
  in_around : (around : Around) (start : Spot) → Frame
  -- the term of an expression runs, over these levels
  in_expression : (s : Setting) (levels : List Level) → Frame
