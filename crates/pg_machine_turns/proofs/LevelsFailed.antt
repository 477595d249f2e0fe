-- Levels of an expression over the machine's lists are handed a failure as on plain values.
use Rattle.std.proofs.Common.{◌≡◌, ℕ, suc, List, ◌++◌, Bool, true, refl, sym, ap, append_assoc, length}
use Rattle.std.specs.Prelude.{Option, Some, None}
use Rattle.pg_tree.specs.Trees.{Tree}
use Rattle.pg_grammar_value.specs.declared.trail.TrailItem.{TrailItem}
use Rattle.pg_table.specs.Tables.{Table}
use Rattle.pg_expand.specs.Rows.{row_numbered}
use Rattle.pg_expand.specs.declared.rows.Row.{Row}
use Rattle.pg_language.specs.Answers.{Given}
use Rattle.pg_language.specs.Errors.{Error}
use Rattle.pg_language.specs.OperatorReads.{Read, read_at}
use Rattle.pg_language.specs.Outcomes.{Outcome, failed}
use Rattle.pg_language.specs.RowReactions.{with_prefix, with_postfix, as_operand}
use Rattle.pg_machine_turns.specs.Extends.{Extends, same_table}
use Rattle.pg_machine_turns.specs.Spots.{spot_at}
use Rattle.pg_machine_turns.specs.Frames.{Frame}
use Rattle.pg_machine_turns.specs.Levels.{Preceding, Level, Followed, hands_on, after_operator, row_follows}
use Rattle.pg_machine_turns.specs.Turns.{followed, climb}
use Rattle.pg_message_tape.specs.Messages.{TapeMessage}
use Rattle.pg_message_tape.specs.TapeErrors.{Says, tape_error, kept_at}
use Rattle.pg_message_tape.specs.declared.message_tape.KeptError.{KeptError}
use Rattle.pg_message_tape.specs.declared.message_tape.TapeError.{TapeError}
use Rattle.pg_message_tape.proofs.Merged.{hold, nothing_says, after_says}
use Rattle.pg_machine_lists.specs.RunTrees.{RunTrees}
use Rattle.pg_machine_turns.specs.Shows.{Means, Stands, Shows, shows_failed}
use Rattle.pg_machine_turns.specs.ShowsLevels.{rows_down, opened, ShowsPreceding, nothing_precedes, a_right, a_left, a_non, ShowsEntry, no_prefix, a_prefix, ShowsLevels, no_levels, a_row, a_right_side}
use Rattle.pg_machine_turns.specs.Tape.{OnFrame, tape_failed}
use Rattle.pg_machine_lists.specs.TapeLevels.{OnPreceding, OnLevel, OnSetting, OnFailure, was_read, failed_after, failed_before, on_failed}
use Rattle.pg_machine_turns.proofs.Hiding.{relisted}
use Rattle.pg_machine_turns.proofs.Shown.{moved, turned, extends_both}

-- what was said last is the error of the outcome, which is a failure
pub data Fails (y : List TapeMessage) : Outcome → OnFailure → Type 0 where
  fails : {d : Error} {f : OnFailure} → Says y f.error d f.messages → Fails y (failed f.consumed d) f

module _ (G : Given) (e : OnSetting) where
  -- a prefix, if one was read, comes before
  entry_fails : {y z : List TapeMessage} {o : Outcome} {f : OnFailure} {prefix : Option (List ℕ)} {kept : KeptError} (r : Row) (i : ℕ) (U : Table) (got : Option Read) →
      ShowsEntry G r i y got prefix kept z → Fails z o f → Fails y (with_prefix G.text e.parts.builders r.prefix (spot_at U i) got o) (failed_after (was_read prefix) kept f)
  entry_fails r i U None (no_prefix h) (fails {f = f} o) = fails (after_says f.consumed h o)
  entry_fails {y = y} r i U (Some q) a_prefix (fails {f = f} o) = fails (after_says f.consumed (hold (nothing_says y q.end)) o)

  operand_fails : {y z : List TapeMessage} {o : Outcome} {f : OnFailure} {prefix : Option (List ℕ)} {kept : KeptError} (r : Row) (i : ℕ) (U : Table) →
      ShowsEntry G r i y (read_at G.grammar G.text e.parts.item r.prefix i) prefix kept z → Fails z o f →
      Fails y (as_operand G.grammar G.text e.parts r (spot_at U i) o) (failed_after (was_read prefix) kept f)
  operand_fails r i U entry h = with_none (entry_fails r i U (read_at G.grammar G.text e.parts.item r.prefix i) entry h)
    where
      with_none : {y : List TapeMessage} {o : Outcome} {f : OnFailure} → Fails y o f → Fails y (with_postfix G.grammar G.text e.parts r.postfix o) f
      with_none (fails o) = fails o

  -- a level hands a failure on
  record HandsOn (y : List TapeMessage) (next : Followed) (f : OnFailure) : Type 0 where
    outcome : Outcome
    is : next ≡ hands_on outcome
    handed : Fails y outcome f

  read_fails : {y : List TapeMessage} {o : Outcome} {f : OnFailure} (q : Read) (t : List TrailItem) → Fails y o f → Fails y (after_operator q t o) (failed_after true (kept_at (length y) (tape_error q.end (length y))) f)
  read_fails {y = y} q t (fails {f = f} o) = fails (after_says f.consumed (hold (nothing_says y q.end)) o)

  row_fails : {n : ℕ} {y : List TapeMessage} {U W : Table} {before : Preceding} {on : OnPreceding} {s : List Tree} {t : List TrailItem} {o : Outcome} {f : OnFailure} (r : Row) (ts : List Row) →
      ShowsPreceding n (length y) U before on s t W → Fails y o f → HandsOn y (row_follows G e.parts r ts before o) (failed_before on f)
  row_fails r ts nothing_precedes (fails o) = record { outcome = _; is = refl; handed = fails o }
  row_fails r ts (a_right {q = q} {t = t} grows) (fails o) = record { outcome = _; is = refl; handed = read_fails q t (fails o) }
  row_fails r ts (a_left {q = q} {t = t} grows) (fails o) = record { outcome = _; is = refl; handed = read_fails q t (fails o) }
  row_fails r ts (a_non {q = q} {t = t} grows) (fails o) = record { outcome = _; is = refl; handed = read_fails q t (fails o) }

  module _ {gs : List OnFrame} {v : List Tree} {t : List TrailItem} {x : List TapeMessage} {T W : Table} {fs : List Frame} {g : RunTrees} (stands : Stands G fs gs v t x T) (others : List Tree) (items : List TrailItem)
      (means : Means gs g (v ++ others)) (grows : Extends true T W) where
    -- the levels are handed a failure
    pub failed_shown : {ls : List Level} {ons : List OnLevel} {w : List Tree} {u : List TrailItem} {y : List TapeMessage} {U : Table} (o : Outcome) (f : OnFailure) → ShowsLevels G e v x T ls ons w u y U → Fails y o f →
        Shows G (climb G e.parts ls o fs) (tape_failed (on_failed ons f) gs g (t ++ items) W)
    failed_shown o f no_levels (fails s) = shows_failed others items stands means s grows
    failed_shown o f (a_row {ls = ls} {U = U} {W = V} k i below before entry) h =
        let row = row_numbered e.operators (suc k) in
        let next = row_fails row (rows_down e.operators k) before (operand_fails row i V entry h) in
        turned (failed_shown _ _ below next.handed) (ap (followed G e.parts (λ y. climb G e.parts ls y fs) ls fs) (sym next.is))
    failed_shown o f (a_right_side {t = p} {q = q} below more) (fails s) = failed_shown _ _ below (read_fails q p (fails s))

-- tables that grow from level to level
levels_grow : {G : Given} {e : OnSetting} {v : List Tree} {x : List TapeMessage} {T : Table} {ls : List Level} {ons : List OnLevel} {w : List Tree} {u : List TrailItem} {y : List TapeMessage} {U : Table} →
    ShowsLevels G e v x T ls ons w u y U → Extends true T U
levels_grow no_levels = same_table
levels_grow (a_row k i below nothing_precedes entry) = levels_grow below
levels_grow (a_row k i below (a_right grows) entry) = extends_both true true (levels_grow below) grows
levels_grow (a_row k i below (a_left grows) entry) = extends_both true true (levels_grow below) grows
levels_grow (a_row k i below (a_non grows) entry) = extends_both true true (levels_grow below) grows
levels_grow (a_right_side below grows) = extends_both true true (levels_grow below) grows

-- the term failed
pub expression_failed : {G : Given} {fs : List Frame} {gs : List OnFrame} {v w : List Tree} {t u : List TrailItem} {x y z : List TapeMessage} {T U W : Table} {e : OnSetting} {ls : List Level} {ons : List OnLevel}
    {g : RunTrees} {error : TapeError} {d : Error} (c : Bool) (s : List Tree) (r : List TrailItem) →
    Stands G fs gs v t x T → ShowsLevels G e v x T ls ons w u y U → Means gs g ((v ++ w) ++ s) → Says y error d z → Extends true U W →
    Shows G (climb G e.parts ls (failed c d) fs) (tape_failed (on_failed ons (record { consumed = c; error = error; messages = z })) gs g ((t ++ opened u) ++ r) W)
expression_failed {G = G} {gs = gs} {v = v} {w = w} {t = t} {u = u} {z = z} {W = W} {e = e} {ons = ons} {g = g} {error = error} {d = d} c s r h below m o l =
    let f : OnFailure = record { consumed = c; error = error; messages = z } in
    moved (failed_shown G e h (w ++ s) (opened u ++ r) (relisted (append_assoc v w s) m) (extends_both true true (levels_grow below) l) (failed c d) f below (fails o))
    (ap (λ (i : List TrailItem). tape_failed (on_failed ons f) gs g i W) (sym (append_assoc t (opened u) r)))
