-- Levels of an expression over the machine's lists are handed a stretch as on plain values.
use Rattle.std.proofs.Common.{◌≡◌, ℕ, suc, List, [], ◌∷◌, ◌++◌, Bool, true, false, refl, sym, ap, subst, ◌∙◌, arith, append_assoc, append-nil, length, length-append}
use Rattle.std.specs.Prelude.{Option, Some, None, codes}
use Rattle.pg_tree.specs.Trees.{Tree}
use Rattle.pg_grammar_form.specs.Operators.{Operator}
use Rattle.pg_grammar_value.specs.declared.trail.Fixity.TheVariants as fixity
use Rattle.pg_grammar_value.specs.declared.trail.TrailItem.{TrailItem}
use Rattle.pg_grammar_value.specs.declared.trail.TrailItem.TheVariants.{Ops}
use Rattle.pg_table.specs.Tables.{Table}
use Rattle.pg_table.specs.Trails as trails
use Rattle.pg_expand.specs.Rows.{row_numbered}
use Rattle.pg_expand.specs.declared.rows.Row.{Row}
use Rattle.pg_language.specs.Answers.{Given}
use Rattle.pg_language.specs.Derives.{Spot, at, applied}
use Rattle.pg_language.specs.Errors.{Error, merge, no_messages_at}
use Rattle.pg_language.specs.OperatorReads.{Read, read_at, unread}
use Rattle.pg_language.specs.Outcomes.{Outcome, ok, failed}
use Rattle.pg_language.specs.RowReactions.{joined_trail, noted_operator, then_stretch, as_applied, or_return, with_last, ambiguous_right, ambiguous_left, ambiguous_non}
use Rattle.pg_machine_turns.specs.Extends.{Extends}
use Rattle.pg_machine_turns.specs.Spots.{spot_at}
use Rattle.pg_machine_turns.specs.Frames.{Frame}
use Rattle.pg_machine_turns.specs.Levels.{Preceding, none_precedes, right_precedes, left_precedes, non_precedes, Level, Followed, with_infix, no_right, no_left, no_infix, after_operator, after_first, after_right, after_left, row_follows}
use Rattle.pg_machine_turns.specs.Turns.{row_operand_at, followed, climb}
use Rattle.pg_message_tape.specs.Messages.{TapeMessage}
use Rattle.pg_message_tape.specs.TapeErrors.{Says}
use Rattle.pg_message_tape.specs.declared.message_tape.TapeError.{TapeError}
use Rattle.pg_message_tape.proofs.Merged.{cut_messages}
use Rattle.pg_machine_lists.specs.RunTrees.{RunTrees}
use Rattle.pg_machine_turns.specs.Shows.{thrown_from, Means, Stands, Shows, shows_succeeded}
use Rattle.pg_machine_turns.specs.ShowsLevels.{rows_down, opened, ShowsPreceding, nothing_precedes, a_right, a_left, a_non, ShowsLevels, no_levels, a_row, a_right_side}
use Rattle.pg_machine_turns.specs.Tape.{OnFrame, tape_with, tape_down, tape_climbed}
use Rattle.pg_machine_lists.specs.TapeLevels.{OnPreceding, on_nothing, on_right, on_left, on_non, OnLevel, OnSetting, OnStretch, operator_read, noted_read, no_infix_said, unread_said, ambiguous_said, said_after, says_right, says_left, says_non, joined_from, after_read, lists_after, operand_down, OnFollowed, first_on, right_on, left_on, row_on, on_followed, on_climb}
use Rattle.pg_machine_turns.specs.declared.frame.Reply.TheVariants.{Succeeded}
use Rattle.pg_machine_turns.proofs.Hiding.{Under, under, under_longer, relisted}
use Rattle.pg_machine_turns.proofs.LevelsLie.{Lies, lies, opened_noted, opened_items, said_lies, postfix_none, applied_lies, read_lies, joined_nil, or_false}
use Rattle.pg_machine_turns.proofs.Stretches.{joined_assoc}
use Rattle.pg_machine_turns.proofs.OperandsLie.{operand_lies}
use Rattle.pg_machine_turns.proofs.OperatorErrors.{unread_is, ambiguous_is, error_said, no_infix_is, no_right_said, no_left_said, last_said}
use Rattle.pg_machine_turns.proofs.RowsShown.{operand_shown}
use Rattle.pg_machine_turns.proofs.Shown.{moved, extends_any, extends_both}

-- ---- the same lists in another form

after_trees : {gs : List OnFrame} {v w : List Tree} {t u : List TrailItem} {y : List TapeMessage} {U W : Table} {o : Outcome} {z : OnStretch} → v ≡ w → Lies gs v t u y U W o z → Lies gs w t u y U W o z
after_trees {gs = gs} {t = t} {u = u} {y = y} {U = U} {W = W} {o = o} {z = z} is h = subst (λ (a : List Tree). Lies gs a t u y U W o z) is h

-- nothing precedes
after_nothing : {gs : List OnFrame} {v : List Tree} {t u : List TrailItem} {y : List TapeMessage} {U W : Table} {o : Outcome} {z : OnStretch} → Lies gs v t (joined_trail u []) y U W o z → Lies gs v t u y U W o z
after_nothing {t = t} {u = u} (lies {r = r} k m q o h) = lies k m (q ∙ ap (λ (i : List TrailItem). t ++ opened i) (joined_assoc u [] r)) o h

-- an end of a stretch at which an error is said
ended_lies : {gs : List OnFrame} {v : List Tree} {t u : List TrailItem} {y : List TapeMessage} {U W : Table} {c : Bool} {b : Spot} {s : List Tree} {r : List TrailItem} {f : Error} {z : OnStretch} (e d : Error) → merge e d ≡ f →
    Lies gs v t u y U W (ok c b s r f) z → Lies gs v t u y U W (then_stretch c r e (ok false b s [] d)) z
ended_lies {gs = gs} {v = v} {t = t} {u = u} {y = y} {U = U} {W = W} {c = c} {b = b} {s = s} {r = r} {z = z} e d is (lies {error = error} {x = x} m n q o h) =
    subst (λ (k : Bool). Lies gs v t u y U W (ok k b s (joined_trail r []) (merge e d)) z) (sym (or_false c))
    (lies refl n (q ∙ ap (λ (i : List TrailItem). t ++ i) (sym (joined_nil u r))) (subst (λ (a : Error). Says y error a x) (sym is) o) h)

module _ (G : Given) (e : OnSetting) (gs : List OnFrame) (v : List Tree) (t : List TrailItem) (fs : List Frame) where
  -- what is known of the levels below
  abbrev Climbs : List Level → List OnLevel → List Tree → List TrailItem → List TapeMessage → Table → Table → Type 0
  Climbs ls ons w u y U W = (o : Outcome) (z : OnStretch) → Lies gs (v ++ w) t u y U W o z → Shows G (climb G e.parts ls o fs) (tape_climbed G e (on_climb G e ons z) gs W)

  -- what is done next on plain values is what is done next over the lists
  abbrev Follows : List Level → List OnLevel → Table → Followed → OnFollowed → Type 0
  Follows ls ons W next on = Shows G (followed G e.parts (λ y. climb G e.parts ls y fs) ls fs next) (tape_climbed G e (on_followed G e (λ y. on_climb G e ons y) ons on) gs W)

module _ (G : Given) (e : OnSetting) {gs : List OnFrame} {v : List Tree} {t : List TrailItem} {x : List TapeMessage} {T : Table} {fs : List Frame} (stands : Stands G fs gs v t x T) (slot : e.slot ≡ length t) where
  -- trees are thrown away only after those below the levels
  under_levels : (w : List Tree) → Under (thrown_from gs) (length (v ++ w))
  under_levels w = under_longer _ (length v) (length (v ++ w)) (omega (arith, length-append v w)) (under stands)

  -- an infix operator was read after a stretch: an operand of its row begins
  operator_follows : {ls : List Level} {ons : List OnLevel} {w : List Tree} {u : List TrailItem} {y : List TapeMessage} {U : Table} → ShowsLevels G e v x T ls ons w u y U → (k : ℕ) {before : Preceding} {on : OnPreceding} {W : Table} {d : Error} (s : List Tree) (r : List TrailItem) (p : Read) (z : OnStretch) →
      ShowsPreceding (length (v ++ w)) (length y) U before on s (with_infix r p) W → Means gs z.lists.v (v ++ (w ++ s)) → z.lists.t ≡ t ++ opened (joined_trail u r) → Says y z.error d z.lists.x →
      Shows G (row_operand_at G e.parts (row_numbered e.operators (suc k)) (rows_down e.operators k) (spot_at W p.end) before ls fs)
      (tape_down G e (operand_down G e k p.end on ons (lists_after G e p (length y) z)) gs W)
  operator_follows {ls = ls} {ons = ons} {w = w} {u = u} {y = y} below k {before = before} {on = on} {W = W} s r p z b m is o =
      let noted = noted_read e.slot (trails.applied fixity.Infix p.operator) z.lists.t in
      let trail : noted ≡ t ++ opened (joined_trail u (with_infix r p)) =
      ap (noted_read e.slot (trails.applied fixity.Infix p.operator)) is
      ∙ ap (λ (n : ℕ). noted_read n (trails.applied fixity.Infix p.operator) (t ++ opened (joined_trail u r))) slot
      ∙ opened_noted t (joined_trail u r) fixity.Infix p.operator ∙ ap (λ (i : List TrailItem). t ++ opened i) (joined_assoc u r (noted_operator fixity.Infix p.operator)) in
      subst (λ (a : List TapeMessage). Shows G (row_operand_at G e.parts (row_numbered e.operators (suc k)) (rows_down e.operators k) (spot_at W p.end) before ls fs)
      (tape_down G e (operand_down G e k p.end on ons (record { v = z.lists.v; t = noted; x = a })) gs W)) (sym (cut_messages o)) (operand_shown G e stands slot k p.end z.lists.v noted below b m trail)

  module _ {ls : List Level} {ons : List OnLevel} {w : List Tree} {u : List TrailItem} {y : List TapeMessage} {U : Table} (below : ShowsLevels G e v x T ls ons w u y U) where
    -- ---- a first operand of a row

    first_got : (k : ℕ) {c : Bool} {b : Spot} {s : List Tree} {r : List TrailItem} {d : Error} {z : OnStretch} {W : Table} (right left non : Option Read) →
        read_at G.grammar G.text e.parts.item (row_numbered e.operators (suc k)).right b.place ≡ right → read_at G.grammar G.text e.parts.item (row_numbered e.operators (suc k)).left b.place ≡ left →
        read_at G.grammar G.text e.parts.item (row_numbered e.operators (suc k)).non b.place ≡ non → Climbs G e gs v t fs ls ons w u y U W → Lies gs (v ++ w) t u y U W (ok c b s r d) z →
        Follows G e gs v t fs ls ons W (after_first G e.parts (row_numbered e.operators (suc k)) (rows_down e.operators k) c b s r d right left non)
        (first_on G e k (row_numbered e.operators (suc k)) (length (v ++ w)) (length y) z right left non)
    first_got k {s = s} {r = r} {z = z} (Some p) left non _ _ _ ih (lies _ m q o l) = operator_follows below k s r p z (a_right (extends_any l)) (relisted (append_assoc v w s) m) q o
    first_got k {s = s} {r = r} {z = z} None (Some p) non _ _ _ ih (lies _ m q o l) = operator_follows below k s r p z (a_left (extends_any l)) (relisted (append_assoc v w s) m) q o
    first_got k {s = s} {r = r} {z = z} None None (Some p) _ _ _ ih (lies _ m q o l) = operator_follows below k s r p z (a_non (extends_any l)) (relisted (append_assoc v w s) m) q o
    first_got k {c = c} {s = s} {r = r} {d = d} {z = z} {W = W} None None None is_right is_left is_non ih (lies {j = j} a m q o l) =
        let row = row_numbered e.operators (suc k) in
        let said = no_infix_said G.text (row.right ++ (row.left ++ row.non)) j in
        ih (then_stretch c r d (no_infix G e.parts row s (spot_at W j))) (said_after said z)
        (subst (λ (f : Outcome). Lies gs (v ++ w) t u y U W (then_stretch c r d f) (said_after said z)) (sym (no_infix_is G e.parts row s (spot_at W j) is_right is_left is_non))
        (postfix_none said (error_said said) refl (lies a m q o l)))

    first_shown : (k : ℕ) {o : Outcome} {z : OnStretch} {W : Table} → Climbs G e gs v t fs ls ons w u y U W → Lies gs (v ++ w) t u y U W o z →
        Follows G e gs v t fs ls ons W (row_follows G e.parts (row_numbered e.operators (suc k)) (rows_down e.operators k) none_precedes o)
        (row_on G e k (row_numbered e.operators (suc k)) (length (v ++ w)) (length y) on_nothing z)
    first_shown k ih (lies {j = j} a m q o l) =
        let row = row_numbered e.operators (suc k) in
        first_got k (read_at G.grammar G.text e.parts.item row.right j) (read_at G.grammar G.text e.parts.item row.left j) (read_at G.grammar G.text e.parts.item row.non j) refl refl refl ih (lies a m q o l)

    -- ---- an operand of a row after an infix operator of it

    module _ (s : List Tree) (q : Read) (p : List TrailItem) {V : Table} (grows : Extends true U V) where
      -- the operator is applied to the forest before it and to a stretch
      joined_lies : {c : Bool} {b : Spot} {a : List Tree} {r : List TrailItem} {d : Error} {z : OnStretch} {W : Table} → Lies gs (v ++ (w ++ s)) t (joined_trail u p) y V W (ok c b a r d) z →
          Lies gs (v ++ w) t (joined_trail u p) y V W (as_applied e.parts.builders.infix q.operator s (ok c b a r d)) (joined_from G e (operator_read q (length (v ++ w)) (length y)) z)
      joined_lies h = applied_lies s e.parts.builders.infix q.operator (under_levels w) (after_trees (sym (append_assoc v w s)) h)

      -- the stretch is all that was read after the operator
      right_side_lies : {o : Outcome} {z : OnStretch} {W : Table} → Lies gs (v ++ (w ++ s)) t (joined_trail u p) y V W o z →
          Lies gs (v ++ w) t u y U W (after_operator q p (as_applied e.parts.builders.infix q.operator s o))
          (after_read G e (operator_read q (length (v ++ w)) (length y)) (joined_from G e (operator_read q (length (v ++ w)) (length y)) z))
      right_side_lies (lies a m k o l) = read_lies p q.end grows (joined_lies (lies a m k o l))

      -- ---- what is said where none of the operators of the row may follow any more

      module _ {c : Bool} {b : Spot} {a : List Tree} {r : List TrailItem} {d : Error} {z : OnStretch} {W : Table} (row : Row) where
        says_left_lies : Lies gs (v ++ (w ++ s)) t (joined_trail u p) y V W (ok c b a r d) z →
            Lies gs (v ++ (w ++ s)) t (joined_trail u p) y V W (ok c b a r (merge d (ambiguous_left G.grammar G.text e.parts.item row z.place))) (says_left G e row z)
        says_left_lies h =
            said_lies (ambiguous_said (codes "left") G.text row.left z.place (read_at G.grammar G.text e.parts.item row.left z.place)) (ambiguous_left G.grammar G.text e.parts.item row z.place)
            (ambiguous_is (codes "left") G.text row.left z.place (read_at G.grammar G.text e.parts.item row.left z.place)) h

        says_right_lies : Lies gs (v ++ (w ++ s)) t (joined_trail u p) y V W (ok c b a r d) z →
            Lies gs (v ++ (w ++ s)) t (joined_trail u p) y V W (ok c b a r (merge d (ambiguous_right G.grammar G.text e.parts.item row z.place))) (says_right G e row z)
        says_right_lies h =
            said_lies (ambiguous_said (codes "right") G.text row.right z.place (read_at G.grammar G.text e.parts.item row.right z.place)) (ambiguous_right G.grammar G.text e.parts.item row z.place)
            (ambiguous_is (codes "right") G.text row.right z.place (read_at G.grammar G.text e.parts.item row.right z.place)) h

        says_non_lies : Lies gs (v ++ (w ++ s)) t (joined_trail u p) y V W (ok c b a r d) z →
            Lies gs (v ++ (w ++ s)) t (joined_trail u p) y V W (ok c b a r (merge d (ambiguous_non G.grammar G.text e.parts.item row z.place))) (says_non G e row z)
        says_non_lies h =
            said_lies (ambiguous_said (codes "non") G.text row.non z.place (read_at G.grammar G.text e.parts.item row.non z.place)) (ambiguous_non G.grammar G.text e.parts.item row z.place)
            (ambiguous_is (codes "non") G.text row.non z.place (read_at G.grammar G.text e.parts.item row.non z.place)) h

        unread_lies : (operators : List Operator) → Lies gs (v ++ (w ++ s)) t (joined_trail u p) y V W (ok c b a r d) z →
            Lies gs (v ++ (w ++ s)) t (joined_trail u p) y V W (ok c b a r (merge d (unread G.text operators z.place))) (said_after (unread_said G.text operators z.place) z)
        unread_lies operators h = said_lies (unread_said G.text operators z.place) (unread G.text operators z.place) (unread_is G.text operators z.place) h

      -- ---- an operator of the same side follows the operand, or none

      right_got : (k : ℕ) {c : Bool} {b : Spot} {a : List Tree} {r : List TrailItem} {d : Error} {z : OnStretch} {W : Table} (there : Option Read) → Climbs G e gs v t fs ls ons w u y U W →
          Lies gs (v ++ (w ++ s)) t (joined_trail u p) y V W (ok c b a r d) z →
          Follows G e gs v t fs ls ons W (after_right G e.parts (row_numbered e.operators (suc k)) (rows_down e.operators k) s q p c b a r d there)
          (right_on G e k (row_numbered e.operators (suc k)) (length (v ++ (w ++ s))) (length y) (operator_read q (length (v ++ w)) (length y)) z there)
      right_got k {a = a} {r = r} {z = z} (Some n) ih (lies _ m i o l) =
          operator_follows (a_right_side below grows) k a r n z (a_right (extends_any l)) (relisted (append_assoc v (w ++ s) a) m) i o
      right_got k {c = c} {a = a} {r = r} {d = d} {z = z} {W = W} None ih (lies {j = j} f m i o l) =
          let row = row_numbered e.operators (suc k) in
          let first = said_after (unread_said G.text row.right j) z in
          let last = says_non G e row (says_left G e row first) in
          ih (after_operator q p (as_applied e.parts.builders.infix q.operator s (then_stretch c r d (or_return (spot_at W j) a (failed false (no_right G e.parts row j))))))
          (after_read G e (operator_read q (length (v ++ w)) (length y)) (joined_from G e (operator_read q (length (v ++ w)) (length y)) last))
          (right_side_lies (ended_lies d (merge (no_right G e.parts row j) (no_messages_at j)) (no_right_said G e.parts row d j)
          (says_non_lies row (says_left_lies row (unread_lies row row.right (lies f m i o l))))))

      left_follows : (k : ℕ) {c : Bool} {b : Spot} {r : List TrailItem} {d : Error} {z : OnStretch} {W : Table} (a : List Tree) (n : Read) → Lies gs (v ++ w) t (joined_trail u p) y V W (ok c b a r d) z →
          Shows G (row_operand_at G e.parts (row_numbered e.operators (suc k)) (rows_down e.operators k) (at b n.end) (left_precedes a n (with_infix (joined_trail p r) n)) ls fs)
          (tape_down G e (operand_down G e k n.end (on_left (operator_read n (length (v ++ w)) (length y))) ons (lists_after G e n (length y) z)) gs W)
      left_follows k {c = c} {r = r} {z = z} a n (lies _ m i o l) =
          operator_follows below k a (joined_trail p r) n z (a_left (extends_both true c grows l)) (relisted (append_assoc v w a) m) (i ∙ ap (λ (is : List TrailItem). t ++ opened is) (joined_assoc u p r)) o

      left_got : (k : ℕ) {c : Bool} {b : Spot} {a : List Tree} {r : List TrailItem} {d : Error} {z : OnStretch} {W : Table} (there : Option Read) → Climbs G e gs v t fs ls ons w u y U W →
          Lies gs (v ++ (w ++ s)) t (joined_trail u p) y V W (ok c b a r d) z →
          Follows G e gs v t fs ls ons W (after_left G e.parts (row_numbered e.operators (suc k)) (rows_down e.operators k) s q p c b a r d there)
          (left_on G e k (row_numbered e.operators (suc k)) (length y) (operator_read q (length (v ++ w)) (length y)) z there)
      left_got k {a = a} (Some n) ih h = left_follows k (applied e.parts.builders.infix q.operator (s ++ a)) n (joined_lies h)
      left_got k {c = c} {a = a} {r = r} {d = d} {z = z} {W = W} None ih (lies {j = j} f m i o l) =
          let row = row_numbered e.operators (suc k) in
          let first = said_after (unread_said G.text row.left j) z in
          let last = says_non G e row (says_right G e row first) in
          ih (after_operator q p (then_stretch c r d (or_return (spot_at W j) (applied e.parts.builders.infix q.operator (s ++ a)) (failed false (no_left G e.parts row j)))))
          (after_read G e (operator_read q (length (v ++ w)) (length y)) (joined_from G e (operator_read q (length (v ++ w)) (length y)) last))
          (right_side_lies (ended_lies d (merge (no_left G e.parts row j) (no_messages_at j)) (no_left_said G e.parts row d j)
          (says_non_lies row (says_right_lies row (unread_lies row row.left (lies f m i o l))))))

      right_shown : (k : ℕ) {o : Outcome} {z : OnStretch} {W : Table} → Climbs G e gs v t fs ls ons w u y U W → Lies gs (v ++ (w ++ s)) t (joined_trail u p) y V W o z →
          Follows G e gs v t fs ls ons W (row_follows G e.parts (row_numbered e.operators (suc k)) (rows_down e.operators k) (right_precedes s q p) o)
          (row_on G e k (row_numbered e.operators (suc k)) (length (v ++ (w ++ s))) (length y) (on_right (operator_read q (length (v ++ w)) (length y))) z)
      right_shown k ih (lies {j = j} f m i o l) = right_got k (read_at G.grammar G.text e.parts.item (row_numbered e.operators (suc k)).right j) ih (lies f m i o l)

      left_shown : (k : ℕ) {o : Outcome} {z : OnStretch} {W : Table} → Climbs G e gs v t fs ls ons w u y U W → Lies gs (v ++ (w ++ s)) t (joined_trail u p) y V W o z →
          Follows G e gs v t fs ls ons W (row_follows G e.parts (row_numbered e.operators (suc k)) (rows_down e.operators k) (left_precedes s q p) o)
          (row_on G e k (row_numbered e.operators (suc k)) (length (v ++ (w ++ s))) (length y) (on_left (operator_read q (length (v ++ w)) (length y))) z)
      left_shown k ih (lies {j = j} f m i o l) = left_got k (read_at G.grammar G.text e.parts.item (row_numbered e.operators (suc k)).left j) ih (lies f m i o l)

      non_shown : (k : ℕ) {o : Outcome} {z : OnStretch} {W : Table} → Climbs G e gs v t fs ls ons w u y U W → Lies gs (v ++ (w ++ s)) t (joined_trail u p) y V W o z →
          Follows G e gs v t fs ls ons W (row_follows G e.parts (row_numbered e.operators (suc k)) (rows_down e.operators k) (non_precedes s q p) o)
          (row_on G e k (row_numbered e.operators (suc k)) (length (v ++ (w ++ s))) (length y) (on_non (operator_read q (length (v ++ w)) (length y))) z)
      non_shown k {o = x} {z = z} {W = W} ih (lies {j = j} {e = d} f m i o l) =
          let row = row_numbered e.operators (suc k) in
          let last = says_non G e row (says_left G e row (says_right G e row z)) in
          let said = merge (ambiguous_right G.grammar G.text e.parts.item row j) (merge (ambiguous_left G.grammar G.text e.parts.item row j) (ambiguous_non G.grammar G.text e.parts.item row j)) in
          ih (after_operator q p (with_last G.grammar G.text e.parts row q s x))
          (after_read G e (operator_read q (length (v ++ w)) (length y)) (joined_from G e (operator_read q (length (v ++ w)) (length y)) last))
          (right_side_lies (ended_lies d (merge said (no_messages_at j)) (last_said G e.parts row d j)
          (says_non_lies row (says_left_lies row (says_right_lies row (lies f m i o l))))))

  -- ---- all levels

  shown_row : (k : ℕ) {ls : List Level} {ons : List OnLevel} {w s : List Tree} {u p : List TrailItem} {y : List TapeMessage} {U W X : Table} {before : Preceding} {on : OnPreceding} {o : Outcome} {a : OnStretch} →
      ShowsLevels G e v x T ls ons w u y U → ShowsPreceding (length (v ++ w)) (length y) U before on s p W → Climbs G e gs v t fs ls ons w u y U X → Lies gs (v ++ (w ++ s)) t (joined_trail u p) y W X o a →
      Follows G e gs v t fs ls ons X (row_follows G e.parts (row_numbered e.operators (suc k)) (rows_down e.operators k) before o)
      (row_on G e k (row_numbered e.operators (suc k)) (length (v ++ (w ++ s))) (length y) on a)
  shown_row k {ls = ls} {ons = ons} {w = w} {y = y} {X = X} {o = o} {a = a} below nothing_precedes ih h =
      let same : v ++ (w ++ []) ≡ v ++ w = ap (λ (b : List Tree). v ++ b) (append-nil w) in
      subst (λ (n : ℕ). Follows G e gs v t fs ls ons X (row_follows G e.parts (row_numbered e.operators (suc k)) (rows_down e.operators k) none_precedes o)
      (row_on G e k (row_numbered e.operators (suc k)) n (length y) on_nothing a)) (sym (ap (λ (b : List Tree). length b) same)) (first_shown below k ih (after_nothing (after_trees same h)))
  shown_row k {s = s} {p = p} below (a_right {q = q} grows) ih h = right_shown below s q p grows k ih h
  shown_row k {s = s} {p = p} below (a_left {q = q} grows) ih h = left_shown below s q p grows k ih h
  shown_row k {s = s} {p = p} below (a_non {q = q} grows) ih h = non_shown below s q p grows k ih h

  -- the levels are handed a stretch that was ok
  pub climb_shown : {ls : List Level} {ons : List OnLevel} {w : List Tree} {u : List TrailItem} {y : List TapeMessage} {U W : Table} → ShowsLevels G e v x T ls ons w u y U → Climbs G e gs v t fs ls ons w u y U W
  climb_shown {W = W} no_levels a z (lies {c = c} {j = j} {s = s} {r = r} {g = g} {error = error} {x = said} is m trail o l) =
      let same : t ++ r ≡ z.lists.t = ap (λ (i : List TrailItem). t ++ i) (sym is) ∙ sym trail in
      moved (shows_succeeded stands (relisted (ap (λ (b : List Tree). b ++ s) (append-nil v)) m) o l)
      (ap (λ (i : List TrailItem). tape_with (Succeeded c j error) gs g i said W) same)
  climb_shown (a_row {w = w} {s = s} k i below before entry) o z h =
      shown_row k below before (climb_shown below) (operand_lies G e (row_numbered e.operators (suc k)) i slot (under_levels (w ++ s)) entry h)
  climb_shown (a_right_side {s = s} {t = p} {q = q} below grows) o z h = climb_shown below _ _ (right_side_lies below s q p grows h)

-- the term was ok
pub expression_succeeded : {G : Given} {fs : List Frame} {gs : List OnFrame} {v w : List Tree} {t u : List TrailItem} {x y z : List TapeMessage} {T U W : Table} {e : OnSetting} {ls : List Level} {ons : List OnLevel}
    {g : RunTrees} {error : TapeError} {d : Error} (c : Bool) (j : ℕ) (s : List Tree) (r : List TrailItem) →
    Stands G fs gs v t x T → e.slot ≡ length t → ShowsLevels G e v x T ls ons w u y U → Means gs g ((v ++ w) ++ s) → Says y error d z → Extends c U W →
    Shows G (climb G e.parts ls (ok c (spot_at W j) s (Ops [] ∷ r) d) fs)
    (tape_climbed G e (on_climb G e ons (record { consumed = c; place = j; error = error; lists = record { v = g; t = (t ++ opened u) ++ r; x = z } })) gs W)
expression_succeeded {G = G} {t = t} {u = u} {e = e} c j s r h slot below m o l =
    climb_shown G e h slot below _ _ (lies refl m (append_assoc t (opened u) r ∙ ap (λ (i : List TrailItem). t ++ i) (opened_items u r)) o l)
