-- An operand of a row over the machine's lists: a prefix before what lies there, and a postfix after it.
use Rattle.std.proofs.Common.{◌≡◌, ℕ, List, Bool, true, refl, sym, ap, subst, ◌∙◌, length}
use Rattle.std.specs.Prelude.{Option, Some, None}
use Rattle.std.specs.Str.{encode_utf8_all}
use Rattle.pg_tree.specs.Trees.{Tree}
use Rattle.pg_grammar_value.specs.declared.trail.Fixity.TheVariants as fixity
use Rattle.pg_grammar_value.specs.declared.trail.TrailItem.{TrailItem}
use Rattle.pg_table.specs.Tables.{Table}
use Rattle.pg_table.specs.Trails as trails
use Rattle.pg_expand.specs.declared.rows.Row.{Row}
use Rattle.pg_language.specs.Answers.{Given}
use Rattle.pg_language.specs.Derives.{Spot}
use Rattle.pg_language.specs.Errors.{Error}
use Rattle.pg_language.specs.OperatorReads.{Read, read_at}
use Rattle.pg_language.specs.Outcomes.{Outcome, ok}
use Rattle.pg_language.specs.RowReactions.{joined_trail, with_prefix, with_postfix, postfix_outcome, then_stretch, as_operand, no_affix}
use Rattle.pg_machine_turns.specs.Spots.{spot_at}
use Rattle.pg_message_tape.specs.Messages.{TapeMessage}
use Rattle.pg_message_tape.specs.TapeErrors.{tape_error}
use Rattle.pg_message_tape.specs.declared.message_tape.KeptError.{KeptError}
use Rattle.pg_message_tape.proofs.Merged.{hold, nothing_says}
use Rattle.pg_machine_lists.specs.RunTrees.{built_after}
use Rattle.pg_machine_turns.specs.Shows.{thrown_from}
use Rattle.pg_machine_turns.specs.ShowsLevels.{prefix_trail, ShowsEntry, no_prefix, a_prefix}
use Rattle.pg_machine_turns.specs.Tape.{OnFrame}
use Rattle.pg_machine_lists.specs.TapeLevels.{OnSetting, OnStretch, no_affix_said, noted_read, with_trail, with_forest, from_entry, to_postfix, operand_of}
use Rattle.pg_machine_turns.proofs.Hiding.{Under}
use Rattle.pg_machine_turns.proofs.LevelsLie.{Lies, lies, entry_none, entry_some, postfix_none, postfix_some}
use Rattle.pg_machine_turns.proofs.OperatorErrors.{no_affix_is}

module _ (G : Given) (e : OnSetting) {gs : List OnFrame} {v : List Tree} {t u : List TrailItem} {y : List TapeMessage} {U W : Table} where
  -- a prefix, if one was read, and what lies after it
  prefix_lies : {x : List TapeMessage} {o : Outcome} {z : OnStretch} {prefix : Option (List ℕ)} {kept : KeptError} (r : Row) (i : ℕ) (got : Option Read) → Under (thrown_from gs) (length v) →
      ShowsEntry G r i y got prefix kept x → Lies gs v t (joined_trail u (prefix_trail got)) x U W o z →
      Lies gs v t u y U W (with_prefix G.text e.parts.builders r.prefix (spot_at U i) got o) (from_entry G e prefix kept (length v) z)
  prefix_lies r i None n (no_prefix h) (lies k m q o l) = entry_none h (lies k m q o l)
  prefix_lies r i (Some q) n a_prefix (lies k m is o l) = entry_some e.parts.builders.prefix q.operator n (hold (nothing_says y q.end)) (lies k m is o l)

  -- a postfix, if one is read, after what lies there
  postfix_got : {c : Bool} {b : Spot} {s : List Tree} {p : List TrailItem} {d : Error} {z : OnStretch} (r : Row) (got : Option Read) → e.slot ≡ length t → Under (thrown_from gs) (length v) →
      z.place ≡ b.place → Lies gs v t u y U W (ok c b s p d) z →
      Lies gs v t u y U W (then_stretch c p d (postfix_outcome G.text e.parts.builders r.postfix s b got)) (to_postfix G e r (length v) z got)
  postfix_got {b = b} {z = z} r None slot n same h =
      postfix_none (no_affix_said G.text r.postfix z.place) (no_affix G.text r.postfix b.place)
      (no_affix_is G.text r.postfix z.place ∙ ap (no_affix G.text r.postfix) same) h
  postfix_got {c = c} {b = b} {s = s} {p = p} {d = d} {z = z} r (Some q) slot n same h =
      subst (λ (k : ℕ). Lies gs v t u y U W (then_stretch c p d (postfix_outcome G.text e.parts.builders r.postfix s b (Some q))) (record {
        consumed = true;
        place = q.end;
        error = tape_error q.end (length z.lists.x);
        lists = with_trail (with_forest z.lists (built_after e.parts.builders.postfix.shape (encode_utf8_all q.operator.symbol) (length v) z.lists.v))
            (noted_read k (trails.applied fixity.Postfix q.operator) z.lists.t);
      })) (sym slot) (postfix_some e.parts.builders.postfix q.operator q.end n h)

  postfix_lies : {o : Outcome} {z : OnStretch} (r : Row) → e.slot ≡ length t → Under (thrown_from gs) (length v) → Lies gs v t u y U W o z →
      Lies gs v t u y U W (with_postfix G.grammar G.text e.parts r.postfix o) (to_postfix G e r (length v) z (read_at G.grammar G.text e.parts.item r.postfix z.place))
  postfix_lies r slot n (lies {j = j} k m q o h) = postfix_got r (read_at G.grammar G.text e.parts.item r.postfix j) slot n refl (lies k m q o h)

  pub operand_lies : {x : List TapeMessage} {o : Outcome} {z : OnStretch} {prefix : Option (List ℕ)} {kept : KeptError} (r : Row) (i : ℕ) → e.slot ≡ length t → Under (thrown_from gs) (length v) →
      ShowsEntry G r i y (read_at G.grammar G.text e.parts.item r.prefix i) prefix kept x →
      Lies gs v t (joined_trail u (prefix_trail (read_at G.grammar G.text e.parts.item r.prefix i))) x U W o z →
      Lies gs v t u y U W (as_operand G.grammar G.text e.parts r (spot_at U i) o) (operand_of G e r prefix kept (length v) z)
  operand_lies r i slot n k z = postfix_lies r slot n (prefix_lies r i (read_at G.grammar G.text e.parts.item r.prefix i) n k z)
