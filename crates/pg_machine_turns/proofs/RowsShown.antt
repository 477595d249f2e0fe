-- The rows of an expression begin over the machine's lists as on plain values: each reads a prefix, if one stands there.
use Rattle.std.proofs.Common.{◌≡◌, ℕ, zero, suc, List, [], ◌∷◌, ◌++◌, refl, sym, ap, subst, ◌∙◌, append-nil, length}
use Rattle.std.proofs.lemmas.List.{length-map}
use mathlib.Core.List.{reverse-cons}
use Rattle.std.specs.Prelude.{Option, Some, None, reverse, slice_get, unwrap_or}
use Rattle.pg_tree.specs.Trees.{Tree}
use Rattle.pg_grammar_form.specs.Operators.{Operator}
use Rattle.pg_grammar_form.specs.declared.operators_item.OperatorsItem.{OperatorsItem}
use Rattle.pg_grammar_form.specs.declared.used.OperatorBuilders.{OperatorBuilders}
use Rattle.pg_grammar_value.specs.declared.trail.AppliedOperator.{AppliedOperator}
use Rattle.pg_grammar_value.specs.declared.trail.Fixity.TheVariants as fixity
use Rattle.pg_grammar_value.specs.declared.trail.TrailItem.{TrailItem}
use Rattle.pg_grammar_value.specs.declared.trail.TrailItem.TheVariants.{Ops}
use Rattle.pg_table.specs.Rows.{rows}
use Rattle.pg_table.specs.Tables.{Table}
use Rattle.pg_table.specs.Trails as trails
use Rattle.pg_expand.specs.Rows.{rows_of, row_at, row_numbered, by_role}
use Rattle.pg_expand.specs.declared.rows.Row.{Row}
use Rattle.pg_language.specs.Answers.{Given}
use Rattle.pg_language.specs.Derives.{Spot}
use Rattle.pg_language.specs.Errors.{Error}
use Rattle.pg_language.specs.OperatorReads.{Read, read_at}
use Rattle.pg_language.specs.RowReactions.{Setting, operators_of, items_of, joined_trail, past_prefix, no_affix}
use Rattle.pg_machine_turns.specs.Spots.{spot_at}
use Rattle.pg_machine_turns.specs.Frames.{Frame}
use Rattle.pg_machine_turns.specs.Levels.{Preceding, none_precedes, Level, row_level}
use Rattle.pg_machine_turns.specs.Turns.{descend, row_operand_at, enter_expression}
use Rattle.pg_message_tape.specs.Messages.{TapeMessage, error_of}
use Rattle.pg_message_tape.specs.TapeErrors.{Says, tape_error, kept_at}
use Rattle.pg_message_tape.proofs.Merged.{hold, just_says}
use Rattle.pg_machine_lists.specs.RunTrees.{RunTrees}
use Rattle.pg_machine_turns.specs.Shows.{Means, Stands, stands_expression, Shows, shows_at, shows_endless}
use Rattle.pg_machine_turns.specs.ShowsLevels.{rows_down, opened, prefix_trail, ShowsPreceding, nothing_precedes, ShowsEntry, no_prefix, a_prefix, ShowsLevels, no_levels, a_row}
use Rattle.pg_machine_turns.specs.Tape.{OnFrame, tape_at, on_expression, tape_down, tape_expression}
use Rattle.pg_machine_lists.specs.TapeLevels.{OnPreceding, on_nothing, OnLevel, on_row, OnSetting, Begun, begun, row_begun, down, operand_down, no_affix_said, noted_read}
use Rattle.pg_machine_turns.proofs.Hiding.{framed, relisted, means_count}
use Rattle.pg_machine_turns.proofs.LevelsLie.{opened_noted}
use Rattle.pg_machine_turns.proofs.Shown.{moved, turned}

pub opened_nil : (u : List TrailItem) → opened (joined_trail u []) ≡ opened u
opened_nil u =
    ap (λ (os : List AppliedOperator). Ops os ∷ (items_of u ++ [])) (append-nil (operators_of u))
    ∙ ap (λ (is : List TrailItem). Ops (operators_of u) ∷ is) (append-nil (items_of u))

affix_said : (text : List ℕ) (operators : List Operator) (i : ℕ) → error_of i (no_affix_said text operators i).messages ≡ no_affix text operators i
affix_said text [] i = refl
affix_said text (o ∷ os) i = refl

-- ---- a row begins

-- after what precedes the operand of a row, and a prefix of it, if one stands there, the rows below it begin
record Begins (G : Given) (e : OnSetting) (gs : List OnFrame) (v : List Tree) (t : List TrailItem) (x : List TapeMessage) (T : Table) (k i : ℕ) (before : Preceding) (ls : List Level) (ons : List OnLevel)
    (W : Table) (got : Option Read) (b : Begun) : Type 0 where
  owned : List Tree
  trail : List TrailItem
  levels : ShowsLevels G e v x T (row_level (row_numbered e.operators (suc k)) (rows_down e.operators k) (spot_at W i) before ∷ ls) (b.level ∷ ons) owned trail b.lists.x W
  means : Means gs b.lists.v (v ++ owned)
  noted : b.lists.t ≡ t ++ opened trail
  spot : past_prefix (spot_at W i) got ≡ spot_at W b.place

module _ (G : Given) (e : OnSetting) {gs : List OnFrame} {v : List Tree} {t : List TrailItem} {x : List TapeMessage} {T : Table} where
  module _ {ls : List Level} {ons : List OnLevel} {w s : List Tree} {u o : List TrailItem} {y : List TapeMessage} {U W : Table} {before : Preceding} {on : OnPreceding} where
    begins : (k i : ℕ) (g : RunTrees) (q : List TrailItem) (got : Option Read) → read_at G.grammar G.text e.parts.item (row_numbered e.operators (suc k)).prefix i ≡ got →
        e.slot ≡ length t → ShowsLevels G e v x T ls ons w u y U → ShowsPreceding (length (v ++ w)) (length y) U before on s o W → Means gs g (v ++ (w ++ s)) →
        q ≡ t ++ opened (joined_trail u o) →
        Begins G e gs v t x T k i before ls ons W got (begun G e (suc k) i on (record { v = g; t = q; x = y }) (row_numbered e.operators (suc k)) got)
    begins k i g q None got slot h p m is =
        let row = row_numbered e.operators (suc k) in
        let z = y ++ (no_affix_said G.text row.prefix i).messages in
        let kept = kept_at (length z) (tape_error i (length y)) in
        let says = subst (λ (d : Error). Says y (tape_error i (length y)) d z) (affix_said G.text row.prefix i) (just_says y (no_affix_said G.text row.prefix i).messages i) in
        let entry = subst (λ (a : Option Read). ShowsEntry G row i y a None kept z) (sym got) (no_prefix (hold says)) in
        let trail = joined_trail (joined_trail u o) (prefix_trail (read_at G.grammar G.text e.parts.item row.prefix i)) in
        record {
          owned = w ++ s;
          trail = trail;
          levels = subst (λ (n : ℕ). ShowsLevels G e v x T (row_level row (rows_down e.operators k) (spot_at W i) before ∷ ls) (on_row (suc k) None kept n (length y) on ∷ ons) (w ++ s) trail z W)
              (sym (means_count m)) (a_row k i h p entry);
          means = m;
          noted = is ∙ ap (λ (a : List TrailItem). t ++ a) (sym (opened_nil (joined_trail u o)))
              ∙ ap (λ (a : Option Read). t ++ opened (joined_trail (joined_trail u o) (prefix_trail a))) (sym got);
          spot = refl;
        }
    begins k i g q (Some p) got slot h b m is =
        let row = row_numbered e.operators (suc k) in
        let kept = kept_at (length y) (tape_error p.end (length y)) in
        let prefix = Some p.operator.symbol in
        let entry = subst (λ (a : Option Read). ShowsEntry G row i y a prefix kept y) (sym got) a_prefix in
        let trail = joined_trail (joined_trail u o) (prefix_trail (read_at G.grammar G.text e.parts.item row.prefix i)) in
        record {
          owned = w ++ s;
          trail = trail;
          levels = subst (λ (n : ℕ). ShowsLevels G e v x T (row_level row (rows_down e.operators k) (spot_at W i) before ∷ ls) (on_row (suc k) prefix kept n (length y) on ∷ ons) (w ++ s) trail y W)
              (sym (means_count m)) (a_row k i h b entry);
          means = m;
          noted = ap (noted_read e.slot (trails.applied fixity.Prefix p.operator)) is
              ∙ ap (λ (n : ℕ). noted_read n (trails.applied fixity.Prefix p.operator) (t ++ opened (joined_trail u o))) slot
              ∙ opened_noted t (joined_trail u o) fixity.Prefix p.operator
              ∙ ap (λ (a : Option Read). t ++ opened (joined_trail (joined_trail u o) (prefix_trail a))) (sym got);
          spot = refl;
        }

  module _ {fs : List Frame} (stands : Stands G fs gs v t x T) (slot : e.slot ≡ length t) where
    -- ---- all rows below a number begin

    pub rows_shown : (k i : ℕ) {ls : List Level} {ons : List OnLevel} {w : List Tree} {u : List TrailItem} {y : List TapeMessage} {U : Table} (g : RunTrees) (q : List TrailItem) →
        ShowsLevels G e v x T ls ons w u y U → Means gs g (v ++ w) → q ≡ t ++ opened u →
        Shows G (descend G e.parts (rows_down e.operators k) (spot_at U i) ls fs) (tape_down G e (down G e k i ons (record { v = g; t = q; x = y })) gs U)
    rows_shown zero i {ons = ons} {y = y} {U = U} g q h m is =
        moved (shows_at (stands_expression stands slot h) (framed refl refl m))
        (ap (λ (r : List TrailItem). tape_at e.parts.term i (on_expression e ons ∷ gs) g r y U) (sym is))
    rows_shown (suc k) i {ls = ls} {ons = ons} {w = w} {u = u} {y = y} {U = U} g q h m is =
        let row = row_numbered e.operators (suc k) in
        let got = read_at G.grammar G.text e.parts.item row.prefix i in
        let nil = append-nil w in
        let b = begins k i g q got refl slot h nothing_precedes (relisted (ap (λ (a : List Tree). v ++ a) (sym nil)) m) (is ∙ ap (λ (a : List TrailItem). t ++ a) (sym (opened_nil u))) in
        let begun = row_begun G e (suc k) i on_nothing (record { v = g; t = q; x = y }) in
        turned (rows_shown k begun.place begun.lists.v begun.lists.t b.levels b.means b.noted)
        (ap (λ (a : Spot). descend G e.parts (rows_down e.operators k) a (row_level row (rows_down e.operators k) (spot_at U i) none_precedes ∷ ls) fs) (sym b.spot))

    -- an operand of a row begins, after what precedes it
    pub operand_shown : (k i : ℕ) {ls : List Level} {ons : List OnLevel} {w s : List Tree} {u o : List TrailItem} {y : List TapeMessage} {U W : Table} {before : Preceding} {on : OnPreceding} (g : RunTrees) (q : List TrailItem) →
        ShowsLevels G e v x T ls ons w u y U → ShowsPreceding (length (v ++ w)) (length y) U before on s o W → Means gs g (v ++ (w ++ s)) → q ≡ t ++ opened (joined_trail u o) →
        Shows G (row_operand_at G e.parts (row_numbered e.operators (suc k)) (rows_down e.operators k) (spot_at W i) before ls fs)
        (tape_down G e (operand_down G e k i on ons (record { v = g; t = q; x = y })) gs W)
    operand_shown k i {ls = ls} {y = y} {W = W} {before = before} {on = on} g q h p m is =
        let row = row_numbered e.operators (suc k) in
        let got = read_at G.grammar G.text e.parts.item row.prefix i in
        let b = begins k i g q got refl slot h p m is in
        let begun = row_begun G e (suc k) i on (record { v = g; t = q; x = y }) in
        turned (rows_shown k begun.place begun.lists.v begun.lists.t b.levels b.means b.noted)
        (ap (λ (a : Spot). descend G e.parts (rows_down e.operators k) a (row_level row (rows_down e.operators k) (spot_at W i) before ∷ ls) fs) (sym b.spot))

-- ---- an expression begins

-- the items of a list with these numbers and lower ones
abbrev items_down : {A : Type 0} → List A → A → ℕ → List A
items_down xs none zero = []
items_down xs none (suc k) = unwrap_or (slice_get xs k) none ∷ items_down xs none k

items_after : {A : Type 0} (x : A) (xs : List A) (none : A) (k : ℕ) → items_down (x ∷ xs) none (suc k) ≡ items_down xs none k ++ x ∷ []
items_after x xs none zero = refl
items_after x xs none (suc k) = ap (λ ys. unwrap_or (slice_get xs k) none ∷ ys) (items_after x xs none k)

reversed : {A : Type 0} (xs : List A) (none : A) → reverse xs ≡ items_down xs none (length xs)
reversed [] none = refl
reversed (x ∷ xs) none = reverse-cons x xs ∙ ap (λ ys. ys ++ x ∷ []) (reversed xs none) ∙ sym (items_after x xs none (length xs))

rows_by_number : (operators : List Operator) (k : ℕ) → items_down (rows_of operators) (by_role []) k ≡ rows_down operators k
rows_by_number operators zero = refl
rows_by_number operators (suc k) = ap (λ (rs : List Row). row_numbered operators (suc k) ∷ rs) (rows_by_number operators k)

-- the rows of a table, the loosest first, are those with its numbers
rows_reversed : (operators : List Operator) → reverse (rows_of operators) ≡ rows_down operators (length (rows operators))
rows_reversed operators =
    reversed (rows_of operators) (by_role []) ∙ rows_by_number operators (length (rows_of operators)) ∙ ap (rows_down operators) (length-map (rows operators) (row_at operators))

module _ {G : Given} {fs : List Frame} {gs : List OnFrame} {v : List Tree} {g : RunTrees} {t : List TrailItem} {x : List TapeMessage} {T : Table} where
  pub expression_shown : (builders : OperatorBuilders) (p i : ℕ) (item : Option OperatorsItem) → Stands G fs gs v t x T → Means gs g v →
      Shows G (enter_expression G builders p (spot_at T i) fs item) (tape_expression G builders p i gs g t x T item)
  expression_shown builders p i None h m = shows_endless
  expression_shown builders p i (Some item) h m =
      let s : Setting = record { item = item; builders = builders; term = p } in
      let e : OnSetting = record { parts = s; operators = T.operators; slot = length t } in
      turned (rows_shown G e h refl (length (rows T.operators)) i g (t ++ Ops [] ∷ []) no_levels (relisted (sym (append-nil v)) m) refl)
      (ap (λ (rs : List Row). descend G s rs (spot_at T i) [] fs) (sym (rows_reversed T.operators)))
