-- A turn of the machine over lists is a turn of the machine on plain values.
use Rattle.std.proofs.Common.{◌≡◌, ℕ, suc, ◌+◌, List, [], ◌∷◌, ◌++◌, Bool, true, false, refl, sym, ap, ◌∙◌, subst, append-nil, length}
use Rattle.std.specs.Prelude.{Option, Some, None, slice_get, codes, ◌==◌, nat_lt, if◌then◌else◌}
use Rattle.std.specs.List.{list_any}
use Rattle.std.specs.Str.{bytes_eq}
use Rattle.pg_tree.specs.Trees.{Tree}
use Rattle.pg_grammar_form.specs.ClassItems.{has_character}
use Rattle.pg_grammar_value.specs.Grammar.{Grammar}
use Rattle.pg_grammar_form.specs.declared.class.ClassPart.{ClassPart}
use Rattle.pg_grammar_form.specs.Forms.{Node}
use Rattle.pg_grammar_form.specs.declared.form.Form.TheVariants as form
use Rattle.pg_grammar_form.specs.declared.form.Leaf.{Leaf}
use Rattle.pg_grammar_form.specs.declared.form.Leaf.TheVariants as leaf
use Rattle.pg_grammar_value.specs.declared.grammar.Rule as declared
use Rattle.pg_grammar_value.specs.declared.trail.TrailItem.{TrailItem}
use Rattle.pg_grammar_value.specs.declared.trail.TrailItem.TheVariants.{Rounds}
use Rattle.pg_grammar_form.specs.declared.word_item.WordItem.{WordItem}
use Rattle.pg_language.specs.Runs.{run_at}
use Rattle.pg_grammar_form.specs.Operators.{Operator}
use Rattle.pg_grammar_form.specs.declared.operators_item.OperatorsItem.{OperatorsItem}
use Rattle.pg_table.specs.Tables.{Table, admit_fault, with_operator}
use Rattle.pg_table.specs.declared.admit_fault.AdmitFault.{AdmitFault}
use Rattle.pg_language.specs.Declarations.{Declaration, no_keyword, no_digit, no_symbol, declared, declaration_at, unless_refused, declaration_outcome}
use Rattle.pg_language.specs.Answers.{Given}
use Rattle.pg_language.specs.Errors.{Error, quote, seen_at, stopped_by, stopped_before, refused, refused_before}
use Rattle.pg_language.specs.Leaves.{taken, satisfy_next, word_read, word_next, not_followed_next, matched, string_outcome, end_outcome, some_word_outcome, some_declare_outcome, leaf_outcome}
use Rattle.pg_language.specs.Derives.{Spot}
use Rattle.pg_expand.specs.declared.rows.Row.{Row}
use Rattle.pg_language.specs.OperatorReads.{Read, read_at}
use Rattle.pg_language.specs.Outcomes.{Outcome, ok, failed, empty_round}
use Rattle.pg_language.specs.RowReactions.{Setting, with_prefix, with_postfix}
use Rattle.pg_machine_turns.specs.Levels.{none_precedes, right_precedes, left_precedes, non_precedes, Level, row_level, right_level, hands_on, row_follows, follows}
use Rattle.pg_machine_turns.specs.Spots.{spot_at}
use Rattle.pg_machine_turns.specs.Listed.{listed}
use Rattle.pg_machine_turns.specs.Extends.{same_table, more_operators}
use Rattle.pg_machine_turns.specs.Frames.{Frame, in_parts, in_choice, in_rounds, in_first, in_separator, in_operand, in_rule, in_around, in_expression}
use Rattle.pg_message_tape.specs.Messages.{TapeMessage, error_of}
use Rattle.pg_machine_turns.specs.Shows.{Means, nothing_tried, Stands, no_frames, stands_parts, stands_choice, stands_rounds, stands_first, stands_separator, stands_operand, stands_rule, stands_expression, stands_around, no_parts, Shows, shows_at, shows_succeeded, shows_failed, shows_stuck, shows_endless}
use Rattle.pg_machine_turns.specs.Tape.{OnFrame, on_parts, on_choice, on_rounds, on_first, on_separator, on_operand, on_rule, on_around, on_expression, Tape, tape_with, tape_hand, tape_leaf, tape_rule, tape_told, tape_enter, tape_enter_at, tape_turn, tape_is_last}
use Rattle.pg_message_tape.specs.TapeErrors.{tape_error, Says}
use Rattle.pg_machine_turns.specs.declared.frame.Reply.TheVariants.{EmptyRound}
use Rattle.pg_machine_turns.specs.Turns.{State, with_outcome, told, enter_rule, enter_form, enter_node, hand, followed, climb, turn, is_last}
use Rattle.pg_machine_lists.specs.RunTrees.{RunTrees}
use Rattle.pg_machine_turns.proofs.Hiding.{relisted, means_more, means_count, means_in, means_made, means_failed, framed, unframed}
use Rattle.pg_machine_turns.proofs.ChainsShown.{first_succeeded, first_failed, separator_succeeded, ended_shown, operand_succeeded, operand_failed}
use Rattle.pg_machine_turns.proofs.Joined.{stuck_parts}
use Rattle.pg_machine_turns.proofs.RowsShown.{expression_shown}
use Rattle.pg_machine_turns.proofs.LevelsShown.{expression_succeeded}
use Rattle.pg_machine_turns.proofs.LevelsFailed.{expression_failed}
use Rattle.pg_machine_turns.proofs.Labels.{around_succeeded_says, around_failed_says}
use Rattle.pg_message_tape.proofs.Merged.{nothing_says, just_says}
use Rattle.pg_machine_turns.proofs.Shown.{moved, turned, leaves, table_left, parts_succeeded, parts_failed, next_shown, choice_succeeded, choice_failed, rounds_succeeded, rounds_failed}

-- ---- leaves

-- an outcome of a leaf: it stays under the table or adds an operator, and each of its messages stands once
data IsLeaf (T : Table) : Outcome → Type 0 where
  leaf_ok : {c : Bool} {w : List Tree} {u : List TrailItem} {e : Error} (j : ℕ) → error_of e.place (listed e.messages) ≡ e → IsLeaf T (ok c (spot_at T j) w u e)
  -- an operator came to the end of the table
  leaf_declared : {w : List Tree} {u : List TrailItem} {e : Error} (j : ℕ) (d : Operator) → error_of e.place (listed e.messages) ≡ e →
      IsLeaf T (ok true (spot_at (with_operator T d) j) w u e)
  leaf_failed : {c : Bool} {e : Error} → error_of e.place (listed e.messages) ≡ e → IsLeaf T (failed c e)

taken_leaf : (T : Table) (i : ℕ) (s : List ℕ) → IsLeaf T (taken (spot_at T i) s)
taken_leaf T i s = leaf_ok (i + length s) refl

satisfy_leaf : (T : Table) (g : Grammar) (class : List ClassPart) (i : ℕ) (next : Option ℕ) → IsLeaf T (satisfy_next g class (spot_at T i) next)
satisfy_leaf T g class i None = leaf_failed refl
satisfy_leaf T g class i (Some c) = either (has_character g.classes class c)
  where
    either : (b : Bool) → IsLeaf T (if b then taken (spot_at T i) (c ∷ []) else failed false (stopped_by (quote (c ∷ [])) i))
    either true = taken_leaf T i (c ∷ [])
    either false = leaf_failed refl

read_leaf : (T : Table) (item : WordItem) (i : ℕ) (s : List ℕ) → IsLeaf T (word_read item (spot_at T i) s)
read_leaf T item i s = either (list_any (λ reserved. bytes_eq reserved s) item.reserved)
  where
    either : (b : Bool) → IsLeaf T (if b then failed false (refused (codes "reserved word " ++ quote s) i) else taken (spot_at T i) s)
    either true = leaf_failed refl
    either false = taken_leaf T i s

word_leaf : (T : Table) (g : Grammar) (text : List ℕ) (item : WordItem) (i : ℕ) (next : Option ℕ) → IsLeaf T (word_next g text item (spot_at T i) next)
word_leaf T g text item i None = leaf_failed refl
word_leaf T g text item i (Some c) = either (has_character g.classes item.head c)
  where
    either : (b : Bool) → IsLeaf T (if b then word_read item (spot_at T i) (c ∷ run_at g text item.rest (suc i)) else failed false (stopped_by (quote (c ∷ [])) i))
    either true = read_leaf T item i (c ∷ run_at g text item.rest (suc i))
    either false = leaf_failed refl

not_followed_leaf : (T : Table) (g : Grammar) (class : List ClassPart) (i : ℕ) (next : Option ℕ) → IsLeaf T (not_followed_next g class (spot_at T i) next)
not_followed_leaf T g class i None = leaf_ok i refl
not_followed_leaf T g class i (Some c) = either (has_character g.classes class c)
  where
    either : (b : Bool) → IsLeaf T (if b then failed false (refused (quote (c ∷ [])) i) else ok false (spot_at T i) [] [] (stopped_by (quote (c ∷ [])) i))
    either true = leaf_failed refl
    either false = leaf_ok i refl

string_leaf : (T : Table) (text s : List ℕ) (i : ℕ) → IsLeaf T (string_outcome text s (spot_at T i))
string_leaf T text s i = either (matched text s i == length s)
  where
    either : (b : Bool) → IsLeaf T (if b then taken (spot_at T i) s else failed (nat_lt 0 (matched text s i)) (stopped_before (quote s) (seen_at text (i + matched text s i)) i))
    either true = taken_leaf T i s
    either false = leaf_failed refl

end_leaf : (T : Table) (text : List ℕ) (i : ℕ) → IsLeaf T (end_outcome text (spot_at T i))
end_leaf T text i = either (i == length text)
  where
    either : (b : Bool) → IsLeaf T (if b then ok false (spot_at T i) [] [] (stopped_before (codes "end of input") [] i) else failed false (refused_before (codes "end of input") (seen_at text i) i))
    either true = leaf_ok i refl
    either false = leaf_failed refl

refused_leaf : (T : Table) (d : Operator) (i j : ℕ) (fault : Option AdmitFault) → IsLeaf T (unless_refused d T i j fault)
refused_leaf T d i j (Some fault) = leaf_failed refl
refused_leaf T d i j None = leaf_declared j d refl

declaration_leaf : (T : Table) (text : List ℕ) (i : ℕ) (x : Declaration) → IsLeaf T (declaration_outcome text (spot_at T i) x)
declaration_leaf T text i no_keyword = leaf_failed refl
declaration_leaf T text i (no_digit j) = leaf_failed refl
declaration_leaf T text i (no_symbol j) = leaf_failed refl
declaration_leaf T text i (declared d k j) = refused_leaf T d k j (admit_fault T d)

module _ {G : Given} {T : Table} where
  leaf_shown : {fs : List Frame} {gs : List OnFrame} {v : List Tree} {g : RunTrees} {t : List TrailItem} {x : List TapeMessage} {o : Outcome} → IsLeaf T o → Stands G fs gs v t x T → Means gs g v → Shows G (with_outcome o fs) (tape_leaf o gs g t x T)
  leaf_shown {x = x} (leaf_ok {w = w} {e = e} j is) h g = shows_succeeded h (means_more w g) (subst (λ (w : Error). Says x (tape_error e.place (length x)) w (x ++ listed e.messages)) is (just_says x (listed e.messages) e.place)) same_table
  leaf_shown {x = x} (leaf_declared {w = w} {e = e} j d is) h g =
      shows_succeeded h (means_more w g) (subst (λ (w : Error). Says x (tape_error e.place (length x)) w (x ++ listed e.messages)) is (just_says x (listed e.messages) e.place)) (more_operators (d ∷ []))
  leaf_shown {v = v} {t = t} {x = x} (leaf_failed {e = e} is) h g =
      let d = append-nil t in moved (shows_failed [] [] h (relisted (sym (append-nil v)) g) (subst (λ (w : Error). Says x (tape_error e.place (length x)) w (x ++ listed e.messages)) is (just_says x (listed e.messages) e.place)) same_table) cc

  -- ---- nodes are entered

  rule_shown : {fs : List Frame} {gs : List OnFrame} {v : List Tree} {g : RunTrees} {t : List TrailItem} {x : List TapeMessage} (named : Option declared.Rule) (i : ℕ) → Stands G fs gs v t x T → Means gs g v →
      Shows G (enter_rule named (spot_at T i) fs) (tape_rule named i gs g t x T)
  rule_shown None i h g = shows_endless
  rule_shown (Some named) i h g = shows_at (stands_rule h) (framed refl refl g)

  word_shown : {fs : List Frame} {gs : List OnFrame} {v : List Tree} {w : RunTrees} {t : List TrailItem} {x : List TapeMessage} (g : Grammar) (text : List ℕ) (item : Option WordItem) (i : ℕ) → Stands G fs gs v t x T → Means gs w v →
      Shows G (told (some_word_outcome g text (spot_at T i) item) fs) (tape_told (some_word_outcome g text (spot_at T i) item) gs w t x T)
  word_shown g text None i h m = shows_endless
  word_shown g text (Some item) i h m = leaf_shown (word_leaf T g text item i (slice_get text i)) h m

  declare_shown : {fs : List Frame} {gs : List OnFrame} {v : List Tree} {w : RunTrees} {t : List TrailItem} {x : List TapeMessage} (g : Grammar) (text : List ℕ) (class : List ClassPart) (item : Option OperatorsItem) (i : ℕ) →
      Stands G fs gs v t x T → Means gs w v → Shows G (told (some_declare_outcome g text class (spot_at T i) item) fs) (tape_told (some_declare_outcome g text class (spot_at T i) item) gs w t x T)
  declare_shown g text class None i h m = shows_endless
  declare_shown g text class (Some item) i h m = leaf_shown (declaration_leaf T text i (declaration_at g text item class i)) h m

  told_shown : {fs : List Frame} {gs : List OnFrame} {v : List Tree} {w : RunTrees} {t : List TrailItem} {x : List TapeMessage} (g : Grammar) (text : List ℕ) (l : Leaf ℕ) (i : ℕ) → Stands G fs gs v t x T → Means gs w v →
      Shows G (told (leaf_outcome g text l (spot_at T i)) fs) (tape_told (leaf_outcome g text l (spot_at T i)) gs w t x T)
  told_shown g text (leaf.Satisfy class) i h m = leaf_shown (satisfy_leaf T g class i (slice_get text i)) h m
  told_shown g text (leaf.String s) i h m = leaf_shown (string_leaf T text s i) h m
  told_shown g text (leaf.Word w) i h m = word_shown g text (slice_get g.words w) i h m
  told_shown g text (leaf.NotFollowedBy class) i h m = leaf_shown (not_followed_leaf T g class i (slice_get text i)) h m
  told_shown g text leaf.EndOfText i h m = leaf_shown (end_leaf T text i) h m
  told_shown g text (leaf.Declare class) i h m = declare_shown g text class g.operators i h m

  form_shown : {fs : List Frame} {gs : List OnFrame} {v : List Tree} {g : RunTrees} {t : List TrailItem} {x : List TapeMessage} (f : Node) (i : ℕ) → Stands G fs gs v t x T → Means gs g v →
      Shows G (enter_form G f (spot_at T i) fs) (tape_enter G f i gs g t x T)
  form_shown (form.Leaf l) i h g = told_shown G.grammar G.text l i h g
  form_shown {v = v} {t = t} {x = x} (form.Seq []) i h g = let d = append-nil t in moved (shows_succeeded h (relisted (sym (append-nil v)) g) (nothing_says x i) same_table) cc
  form_shown {v = v} {t = t} (form.Seq (p ∷ ps)) i h g = let d = append-nil t in moved (shows_at (stands_parts h no_parts) (framed refl refl (relisted (sym (append-nil v)) g))) cc
  form_shown (form.Choice ps) i h g = next_shown 1 ps i h nothing_tried g
  form_shown {v = v} (form.Many p) i h g =
      let a = append-nil v in let n = means_count g in moved (shows_at (stands_rounds {w = []} {u = []} (Rounds 0) h same_table) (framed refl refl (relisted (sym a) g))) cc
  form_shown (form.Chain side used p s) i h g = let n = means_count g in moved (shows_at (stands_first {ch = record { side = side; used = used; operand = p; separator = s }} (Rounds 0) h) (framed refl refl g)) cc
  form_shown (form.Rule r) i h g = rule_shown (slice_get G.grammar.rules r) i h g
  form_shown (form.Expression builders p) i h g = expression_shown builders p i G.grammar.operators h g
  form_shown (form.Around around p) i h g = let n = means_count g in moved (shows_at (stands_around h) (means_in around i g)) cc

  node_shown : {fs : List Frame} {gs : List OnFrame} {v : List Tree} {g : RunTrees} {t : List TrailItem} {x : List TapeMessage} (f : Option Node) (i : ℕ) → Stands G fs gs v t x T → Means gs g v →
      Shows G (enter_node G f (spot_at T i) fs) (tape_enter_at G f i gs g t x T)
  node_shown None i h m = shows_endless
  node_shown (Some f) i h m = form_shown f i h m

-- ---- an empty round is handed on

round_operand : (G : Given) (s : Setting) (r : Row) (a : Spot) (q : Option Read) →
    with_postfix G.grammar G.text s r.postfix (with_prefix G.text s.builders r.prefix a q empty_round) ≡ empty_round
round_operand G s r a None = refl
round_operand G s r a (Some q) = refl

-- a level of an expression hands it on
round_follows : (G : Given) (s : Setting) (l : Level) → follows G s l empty_round ≡ hands_on empty_round
round_follows G s (row_level r ts a none_precedes) = ap (row_follows G s r ts none_precedes) (round_operand G s r a (read_at G.grammar G.text s.item r.prefix a.place))
round_follows G s (row_level r ts a (right_precedes v q t)) = ap (row_follows G s r ts (right_precedes v q t)) (round_operand G s r a (read_at G.grammar G.text s.item r.prefix a.place))
round_follows G s (row_level r ts a (left_precedes v q t)) = ap (row_follows G s r ts (left_precedes v q t)) (round_operand G s r a (read_at G.grammar G.text s.item r.prefix a.place))
round_follows G s (row_level r ts a (non_precedes v q t)) = ap (row_follows G s r ts (non_precedes v q t)) (round_operand G s r a (read_at G.grammar G.text s.item r.prefix a.place))
round_follows G s (right_level v q t) = refl

round_climbs : (G : Given) (s : Setting) (levels : List Level) (fs : List Frame) → climb G s levels empty_round fs ≡ with_outcome empty_round fs
round_climbs G s [] fs = refl
round_climbs G s (l ∷ levels) fs = ap (followed G s (λ y. climb G s levels y fs) levels fs) (round_follows G s l) ∙ round_climbs G s levels fs

-- the frame is handed an empty round, and so is the next one
round_handed : (G : Given) (f : Frame) (fs : List Frame) → hand G f empty_round fs ≡ with_outcome empty_round fs
round_handed G (in_parts [] done) fs = ap (λ (o : Outcome). with_outcome o fs) (stuck_parts done)
round_handed G (in_parts (q ∷ ps) done) fs = refl
round_handed G (in_choice k ps a tried) fs = refl
round_handed G (in_rounds p k c a v t) fs = refl
round_handed G (in_first ch) fs = refl
round_handed G (in_separator ch linked a) fs = refl
round_handed G (in_operand ch linked a c v t e) fs = refl
round_handed G in_rule fs = refl
round_handed G (in_around around a) fs = refl
round_handed G (in_expression s levels) fs = round_climbs G s levels fs

round_lies : (G : Given) (g : OnFrame) (fs : List Frame) (gs : List OnFrame) (v : RunTrees) (t : List TrailItem) (x : List TapeMessage) (T : Table) → length fs ≡ length gs →
    Shows G (with_outcome empty_round fs) (tape_hand G g EmptyRound gs v t x T)
round_lies G (on_parts rest b) fs gs v t x T e = shows_stuck e
round_lies G (on_choice k ps i tried n m o) fs gs v t x T e = shows_stuck e
round_lies G (on_rounds p k c i slot n m o l) fs gs v t x T e = shows_stuck e
round_lies G (on_first ch slot n) fs gs v t x T e = shows_stuck e
round_lies G (on_separator links) fs gs v t x T e = shows_stuck e
round_lies G (on_operand links b n) fs gs v t x T e = shows_stuck e
round_lies G on_rule fs gs v t x T e = shows_stuck e
round_lies G (on_around around i n o) fs gs v t x T e = shows_stuck e
round_lies G (on_expression s levels) fs gs v t x T e = shows_stuck e

stuck_shown : (G : Given) (fs : List Frame) (gs : List OnFrame) (v : RunTrees) (t : List TrailItem) (x : List TapeMessage) (T : Table) → length fs ≡ length gs →
    is_last (with_outcome empty_round fs) ≡ false → Shows G (turn G (with_outcome empty_round fs)) (tape_turn G (tape_with EmptyRound gs v t x T))
stuck_shown G [] gs v t x T e going = cc
stuck_shown G (f ∷ fs) [] v t x T e going = absurd cc
stuck_shown G (f ∷ fs) (g ∷ gs) v t x T e going =
    let same : length fs ≡ length gs = cc in
    turned (round_lies G g fs gs v t x T same) (sym (round_handed G f fs))

-- ---- one turn

pub turn_shown : (G : Given) {st : State} {x : Tape} → Shows G st x → is_last st ≡ false → Shows G (turn G st) (tape_turn G x)
turn_shown G (shows_at {p = p} {i = i} h g) going = node_shown (slice_get G.grammar.nodes p) i h g
turn_shown G (shows_succeeded no_frames g o e) going = cc
turn_shown G (shows_succeeded {w = s} {u = r} {c = c} {j = j} (stands_parts {ps = ps} h k) g o e) going = parts_succeeded ps c j s r h k (unframed refl refl g) o e
turn_shown G (shows_succeeded {w = s} {u = r} {c = c} {j = j} (stands_choice {ps = ps} {k = k} {i = i} h q) g o e) going = choice_succeeded G.reading k ps i c j s r h q (unframed refl refl g) o e
turn_shown G (shows_succeeded {w = s} {u = r} {c = c} {j = j} (stands_rounds {w = w} {u = u} {p = p} {k = k} {i = i} {c = b} item h l) g o e) going = rounds_succeeded w u p k b i item c j s r h l (unframed refl refl g) o e
turn_shown G (shows_succeeded {w = s} {u = r} {c = c} {j = j} (stands_first {ch = ch} item h) g o e) going = first_succeeded ch item c j s r h (unframed refl refl g) o e
turn_shown G (shows_succeeded {w = s} {u = r} {c = c} {j = j} (stands_separator h k) g o e) going = separator_succeeded c j s r h k (unframed refl refl g) o e
turn_shown G (shows_succeeded {w = s} {u = r} {c = d} {j = j} (stands_operand {s = a} {r = q} {c = c} h k m l) g o e) going = operand_succeeded a q c d j s r h k m l (unframed refl refl g) o e
turn_shown G (shows_succeeded (stands_rule h) g o e) going = shows_succeeded h (unframed refl refl g) o e
turn_shown G (shows_succeeded {w = s} {c = c} {j = j} (stands_around {around = around} {i = i} h) g o e) going =
    let d = table_left around e in moved (shows_succeeded h (means_made around G.text i j s h g) (around_succeeded_says around c j o) (leaves around e)) cc
turn_shown G (shows_succeeded {w = s} {u = r} {c = c} {j = j} (stands_expression h slot levels) g o e) going = expression_succeeded c j s r h slot levels (unframed refl refl g) o e
turn_shown G (shows_failed w u no_frames g o e) going = cc
turn_shown G (shows_failed {c = c} s r (stands_parts {ps = ps} h k) g o e) going = parts_failed ps c s r h k (unframed refl refl g) o e
turn_shown G (shows_failed {c = c} s r (stands_choice {ps = ps} {k = k} {i = i} h q) g o e) going = choice_failed G.reading k ps i c s r h q (unframed refl refl g) o e
turn_shown G (shows_failed {c = c} s r (stands_rounds {w = w} {u = u} {p = p} {k = k} {i = i} {c = b} item h l) g o e) going = rounds_failed w u p k b i item c s r h l (unframed refl refl g) o e
turn_shown G (shows_failed {c = c} s r (stands_first {ch = ch} item h) g o e) going = first_failed ch item c s r h (unframed refl refl g) o e
turn_shown G (shows_failed {c = c} s r (stands_separator h k) g o e) going = ended_shown c s r h k (unframed refl refl g) o e
turn_shown G (shows_failed {c = d} s r (stands_operand {s = a} {r = q} {c = c} h k m l) g o e) going = operand_failed a q c d s r h k m l (unframed refl refl g) o e
turn_shown G (shows_failed s r (stands_rule h) g o e) going = shows_failed s r h (unframed refl refl g) o e
turn_shown G (shows_failed {c = c} s r (stands_around {around = around} {i = i} h) g o e) going =
    let failing = means_failed around i s h g in
    shows_failed failing.others r h failing.means (around_failed_says around c o) e
turn_shown G (shows_failed {c = c} s r (stands_expression h slot levels) g o e) going = expression_failed c s r h levels (unframed refl refl g) o e
turn_shown G (shows_stuck {fs = fs} {gs = gs} {f = f} {t = t} {x = x} {T = T} e) going = stuck_shown G fs gs f t x T e going
turn_shown G shows_endless going = cc

stuck_last : (fs : List Frame) (gs : List OnFrame) (v : RunTrees) (t : List TrailItem) (x : List TapeMessage) (T : Table) → length fs ≡ length gs →
    is_last (with_outcome empty_round fs) ≡ tape_is_last (tape_with EmptyRound gs v t x T)
stuck_last [] [] v t x T e = refl
stuck_last [] (g ∷ gs) v t x T e = absurd cc
stuck_last (f ∷ fs) [] v t x T e = absurd cc
stuck_last (f ∷ fs) (g ∷ gs) v t x T e = refl

-- a state is the last one where its tape is
pub last_shown : {G : Given} {st : State} {x : Tape} → Shows G st x → is_last st ≡ tape_is_last x
last_shown (shows_at h g) = refl
last_shown (shows_succeeded no_frames g o e) = refl
last_shown (shows_succeeded (stands_parts h k) g o e) = refl
last_shown (shows_succeeded _ g o e) = refl
last_shown (shows_failed s r no_frames g o e) = refl
last_shown (shows_failed s r (stands_parts h k) g o e) = refl
last_shown (shows_failed s r _ g o e) = refl
last_shown (shows_stuck {fs = fs} {gs = gs} {f = f} {t = t} {x = x} {T = T} e) = stuck_last fs gs f t x T e
last_shown shows_endless = refl
