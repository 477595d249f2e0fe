-- What the machine reaches from a state, by the relation of answers instead of turns.
use Rattle.std.specs.Prelude.{◌≡◌, ℕ, zero, ◌+◌, List, [], ◌∷◌, Bool}
use Rattle.pg_tree.specs.Trees.{Tree}
use Rattle.pg_grammar_form.specs.declared.form.Around.{Around}
use Rattle.pg_grammar_value.specs.declared.trail.TrailItem.{TrailItem}
use Rattle.pg_grammar_value.specs.declared.trail.TrailItem.TheVariants.{Rounds, Ops}
use Rattle.pg_expand.specs.declared.rows.Row.{Row}
use Rattle.pg_language.specs.Derives.{Spot}
use Rattle.pg_language.specs.Answers.{Given, Answers, AfterPart, AfterAlternative, AfterRound, AfterFirst, AfterSeparator, AfterOperand, AfterRowOperand, AfterRightOperand, AfterLeftOperand}
use Rattle.pg_language.specs.Errors.{Error}
use Rattle.pg_language.specs.OperatorReads.{Read}
use Rattle.pg_language.specs.Outcomes.{Outcome}
use Rattle.pg_language.specs.Reactions.{noted, surrounded}
use Rattle.pg_language.specs.RowReactions.{Setting, as_applied, as_operand, with_last}
use Rattle.pg_machine_turns.specs.Levels.{none_precedes, right_precedes, left_precedes, non_precedes, Level, row_level, right_level, after_operator}
use Rattle.pg_machine_turns.specs.Frames.{Before, after_parts, Tried, after_tried, after_rounds, Chain, Linked, after_links, Frame, in_parts, in_choice, in_rounds, in_first, in_separator, in_operand, in_rule, in_around, in_expression}
use Rattle.pg_machine_turns.specs.Turns.{State, at_node, with_outcome}

-- the levels of an expression turn the first outcome into the second, after this number of nodes
pub data LevelsGive (G : Given) (s : Setting) : List Level → Outcome → Outcome → ℕ → Type 0 where
  no_level : {x : Outcome} → LevelsGive G s [] x x zero
  first_gives : {r : Row} {ts : List Row} {a : Spot} {levels : List Level} {x y o : Outcome} {m n : ℕ} →
      AfterRowOperand G s r ts (as_operand G.grammar G.text s r a x) y m → LevelsGive G s levels y o n →
      LevelsGive G s (row_level r ts a none_precedes ∷ levels) x o (m + n)
  right_gives : {r : Row} {ts : List Row} {a : Spot} {v : List Tree} {q : Read} {t : List TrailItem} {levels : List Level} {x y o : Outcome} {m n : ℕ} →
      AfterRightOperand G s r ts (as_operand G.grammar G.text s r a x) y m →
      LevelsGive G s levels (after_operator q t (as_applied s.builders.infix q.operator v y)) o n →
      LevelsGive G s (row_level r ts a (right_precedes v q t) ∷ levels) x o (m + n)
  left_gives : {r : Row} {ts : List Row} {a : Spot} {v : List Tree} {q : Read} {t : List TrailItem} {levels : List Level} {x y o : Outcome} {m n : ℕ} →
      AfterLeftOperand G s r ts v q (as_operand G.grammar G.text s r a x) y m → LevelsGive G s levels (after_operator q t y) o n →
      LevelsGive G s (row_level r ts a (left_precedes v q t) ∷ levels) x o (m + n)
  non_gives : {r : Row} {ts : List Row} {a : Spot} {v : List Tree} {q : Read} {t : List TrailItem} {levels : List Level} {x o : Outcome} {n : ℕ} →
      LevelsGive G s levels (after_operator q t (with_last G.grammar G.text s r q v (as_operand G.grammar G.text s r a x))) o n →
      LevelsGive G s (row_level r ts a (non_precedes v q t) ∷ levels) x o n
  -- the right side of a right-associative operator has ended with the first outcome
  right_side_gives : {v : List Tree} {q : Read} {t : List TrailItem} {levels : List Level} {x o : Outcome} {n : ℕ} →
      LevelsGive G s levels (after_operator q t (as_applied s.builders.infix q.operator v x)) o n →
      LevelsGive G s (right_level v q t ∷ levels) x o n

-- the frame turns the first outcome into the second, after this number of nodes
pub data Gives (G : Given) : Frame → Outcome → Outcome → ℕ → Type 0 where
  gives_parts : {ps : List ℕ} {x o : Outcome} {n : ℕ} (done : Before) → AfterPart G ps x o n →
      Gives G (in_parts ps done) x (after_parts done o) n
  gives_choice : {k n : ℕ} {ps : List ℕ} {a : Spot} {x o : Outcome} (tried : Tried) → AfterAlternative G k ps a x o n →
      Gives G (in_choice k ps a tried) x (after_tried tried o) n
  gives_rounds : {p l n : ℕ} {a : Spot} {x o : Outcome} (k : ℕ) (c : Bool) (v : List Tree) (t : List TrailItem) → AfterRound G p l a x o n →
      Gives G (in_rounds p k c a v t) x (noted (Rounds (k + l)) (after_rounds c v t o)) n
  gives_first : {chain : Chain} {k n : ℕ} {x o : Outcome} → AfterFirst G chain.side chain.shape chain.operand chain.separator k x o n →
      Gives G (in_first chain) x (noted (Rounds k) o) n
  gives_separator : {chain : Chain} {k n : ℕ} {a : Spot} {x o : Outcome} (linked : Linked) →
      AfterSeparator G chain.side chain.shape chain.operand chain.separator linked.left k a x o n →
      Gives G (in_separator chain linked a) x (noted (Rounds (linked.count + k)) (after_links chain linked o)) n
  gives_operand : {chain : Chain} {k n : ℕ} {a : Spot} {c : Bool} {v : List Tree} {t : List TrailItem} {e : Error}
      {x o : Outcome} (linked : Linked) →
      AfterOperand G chain.side chain.shape chain.operand chain.separator linked.left k a c v t e x o n →
      Gives G (in_operand chain linked a c v t e) x (noted (Rounds (linked.count + k)) (after_links chain linked o)) n
  gives_rule : {x : Outcome} → Gives G in_rule x x zero
  gives_around : {around : Around} {a : Spot} {x : Outcome} → Gives G (in_around around a) x (surrounded around G.text a x) zero
  gives_expression : {s : Setting} {levels : List Level} {x o : Outcome} {n : ℕ} → LevelsGive G s levels (noted (Ops []) x) o n →
      Gives G (in_expression s levels) x o n

-- the frames turn the first outcome into the second, after this number of nodes
pub data Returns (G : Given) : List Frame → Outcome → Outcome → ℕ → Type 0 where
  returned : {x : Outcome} → Returns G [] x x zero
  over : {f : Frame} {fs : List Frame} {x o out : Outcome} {m n : ℕ} → Gives G f x o m → Returns G fs o out n →
      Returns G (f ∷ fs) x out (m + n)

-- the state reaches the outcome after this number of nodes
pub data Finishes (G : Given) : State → Outcome → ℕ → Type 0 where
  entering : {p m n : ℕ} {a : Spot} {fs : List Frame} {x out : Outcome} → Answers G p a x m → Returns G fs x out n →
      Finishes G (at_node p a fs) out (m + n)
  handing : {fs : List Frame} {x out : Outcome} {n : ℕ} → Returns G fs x out n → Finishes G (with_outcome x fs) out n

-- an outcome, changed by a function, is passed to the frames; n nodes are entered in all
pub record HandedOn (G : Given) (outcomes : Outcome → ℕ → Type 0) (changed : Outcome →
    Outcome) (fs : List Frame) (out : Outcome) (n : ℕ) : Type 0 where
  pub outcome : Outcome
  pub nodes : ℕ
  pub further : ℕ
  pub answers : outcomes outcome nodes
  pub returns : Returns G fs (changed outcome) out further
  pub count : n ≡ nodes + further
