-- How levels over the machine's lists show the plain levels of an expression: what they own lies on the lists, with the
-- innermost level's last, and the lengths that they keep are those of what lies below.
use Rattle.std.specs.Prelude.{ℕ, zero, suc, List, [], ◌∷◌, ◌++◌, true, length, Option, Some, None}
use Rattle.pg_tree.specs.Trees.{Tree}
use Rattle.pg_grammar_form.specs.Operators.{Operator}
use Rattle.pg_grammar_value.specs.declared.trail.Fixity.TheVariants as fixity
use Rattle.pg_grammar_value.specs.declared.trail.TrailItem.{TrailItem}
use Rattle.pg_grammar_value.specs.declared.trail.TrailItem.TheVariants.{Ops}
use Rattle.pg_table.specs.Tables.{Table}
use Rattle.pg_expand.specs.Rows.{row_numbered}
use Rattle.pg_expand.specs.declared.rows.Row.{Row}
use Rattle.pg_language.specs.Answers.{Given}
use Rattle.pg_language.specs.OperatorReads.{Read, read_at}
use Rattle.pg_language.specs.RowReactions.{operators_of, items_of, joined_trail, noted_operator, no_affix}
use Rattle.pg_message_tape.specs.Messages.{TapeMessage}
use Rattle.pg_message_tape.specs.TapeErrors.{Holds, tape_error, kept_at}
use Rattle.pg_message_tape.specs.declared.message_tape.KeptError.{KeptError}
use Rattle.pg_machine_turns.specs.Extends.{Extends}
use Rattle.pg_machine_turns.specs.Levels.{Preceding, none_precedes, right_precedes, left_precedes, non_precedes, Level, row_level, right_level}
use Rattle.pg_machine_turns.specs.Spots.{spot_at}
use Rattle.pg_machine_lists.specs.TapeLevels.{OnPreceding, on_nothing, on_right, on_left, on_non, OnLevel, on_row, on_right_side, OnSetting, operator_read}

-- the rows with numbers from the given one down, the loosest first
abbrev pub rows_down : List Operator → ℕ → List Row
rows_down operators zero = []
rows_down operators (suc k) = row_numbered operators (suc k) ∷ rows_down operators k

-- a trail of a stretch as it lies on the list: its operators' item, and the other items
abbrev pub opened : List TrailItem → List TrailItem
opened u = Ops (operators_of u) ∷ items_of u

-- the trail of a prefix, if one was read
abbrev pub prefix_trail : Option Read → List TrailItem
prefix_trail None = []
prefix_trail (Some q) = noted_operator fixity.Prefix q.operator

-- what precedes the operand of a row, after n trees and m messages: it owns trees and items, and may have changed the table
pub data ShowsPreceding (n m : ℕ) (T : Table) : Preceding → OnPreceding → List Tree → List TrailItem → Table → Type 0 where
  nothing_precedes : ShowsPreceding n m T none_precedes on_nothing [] [] T
  a_right : {v : List Tree} {q : Read} {t : List TrailItem} {U : Table} → Extends true T U →
      ShowsPreceding n m T (right_precedes v q t) (on_right (operator_read q n m)) v t U
  a_left : {v : List Tree} {q : Read} {t : List TrailItem} {U : Table} → Extends true T U →
      ShowsPreceding n m T (left_precedes v q t) (on_left (operator_read q n m)) v t U
  a_non : {v : List Tree} {q : Read} {t : List TrailItem} {U : Table} → Extends true T U →
      ShowsPreceding n m T (non_precedes v q t) (on_non (operator_read q n m)) v t U

-- a prefix, if one was read, and the error from the start of the operand
pub data ShowsEntry (G : Given) (r : Row) (i : ℕ) : List TapeMessage → Option Read → Option (List ℕ) → KeptError → List TapeMessage → Type 0 where
  no_prefix : {x y : List TapeMessage} {kept : KeptError} → Holds x kept (no_affix G.text r.prefix i) y → ShowsEntry G r i x None None kept y
  a_prefix : {x : List TapeMessage} {q : Read} →
      ShowsEntry G r i x (Some q) (Some q.operator.symbol) (kept_at (length x) (tape_error q.end (length x))) x

-- the levels over the trees and messages below the expression and the table at its start, with the trees that they own, their
-- trail, and the messages and the table after them
pub data ShowsLevels (G : Given) (e : OnSetting) (v : List Tree) (x : List TapeMessage) (T : Table) : List Level → List OnLevel → List Tree → List TrailItem →
    List TapeMessage → Table → Type 0 where
  no_levels : ShowsLevels G e v x T [] [] [] [] x T
  a_row : {ls : List Level} {gs : List OnLevel} {w s : List Tree} {u t : List TrailItem} {y z : List TapeMessage} {U W : Table} {before : Preceding} {on : OnPreceding}
      {kept : KeptError} {prefix : Option (List ℕ)} (k i : ℕ) →
      ShowsLevels G e v x T ls gs w u y U → ShowsPreceding (length (v ++ w)) (length y) U before on s t W →
      ShowsEntry G (row_numbered e.operators (suc k)) i y
      (read_at G.grammar G.text e.parts.item (row_numbered e.operators (suc k)).prefix i) prefix kept z →
      ShowsLevels G e v x T (row_level (row_numbered e.operators (suc k)) (rows_down e.operators k) (spot_at W i) before ∷ ls)
      (on_row (suc k) prefix kept (length (v ++ (w ++ s))) (length y) on ∷ gs) (w ++ s)
      (joined_trail (joined_trail u t)
      (prefix_trail (read_at G.grammar G.text e.parts.item (row_numbered e.operators (suc k)).prefix i))) z W
  a_right_side : {ls : List Level} {gs : List OnLevel} {w s : List Tree} {u t : List TrailItem} {y : List TapeMessage} {U W : Table} {q : Read} →
      ShowsLevels G e v x T ls gs w u y U → Extends true U W →
      ShowsLevels G e v x T (right_level s q t ∷ ls) (on_right_side (operator_read q (length (v ++ w)) (length y)) ∷ gs) (w ++ s) (joined_trail u t) y W
