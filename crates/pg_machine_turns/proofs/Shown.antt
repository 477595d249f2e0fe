-- A turn of the machine over lists is a turn of the machine on plain values: what is handed to frames.
use Rattle.std.proofs.Common.{◌≡◌, ℕ, suc, List, [], ◌∷◌, ◌++◌, Bool, true, false, refl, ap, sym, ◌∙◌, subst, append_assoc, append-nil, length, take, drop}
use Rattle.std.proofs.Math.Seq.{set-append_seam}
use Rattle.std.specs.Prelude.{slice_set, Option, ◌||◌}
use Rattle.pg_tree.specs.Trees.{Tree}
use Rattle.pg_grammar_form.specs.Operators.{Operator}
use Rattle.pg_grammar_value.specs.declared.trail.TrailItem.{TrailItem}
use Rattle.pg_grammar_value.specs.declared.trail.TrailItem.TheVariants.{Alt, Rounds}
use Rattle.pg_table.specs.Tables.{Table, first_operators}
use Rattle.pg_grammar_form.specs.declared.form.Around.{Around}
use Rattle.pg_grammar_form.specs.declared.form.Around.TheVariants as kind
use Rattle.pg_language.specs.Derives.{table_by}
use Rattle.pg_language.specs.Errors.{Error}
use Rattle.pg_language.specs.Outcomes.{ok, failed}
use Rattle.pg_language.specs.declared.reading.Reading.{Reading}
use Rattle.pg_language.specs.declared.reading.Reading.TheVariants.{Library, Report}
use Rattle.pg_language.specs.Answers.{Given}
use Rattle.pg_machine_turns.specs.Spots.{spot_at}
use Rattle.pg_machine_turns.specs.Extends.{with_operators, Extends, same_table, more_operators}
use Rattle.pg_machine_turns.specs.Frames.{Before, Tried, after_tried, with_failure, with_empty_ok, Frame}
use Rattle.pg_message_tape.specs.Messages.{TapeMessage}
use Rattle.pg_machine_turns.specs.Shows.{ShowsBefore, no_parts, some_parts, ShowsTried, nothing_tried, a_failure, an_empty_ok, thrown_from, Means, KeepsPart, Stands, no_frames, stands_parts, stands_choice, stands_rounds, stands_first, stands_separator, stands_operand, stands_rule, stands_expression, stands_around, Shows, shows_at, shows_succeeded, shows_failed, shows_stuck}
use Rattle.pg_machine_lists.specs.RunTrees.{RunTrees}
use Rattle.pg_machine_turns.proofs.Hiding.{relisted, means_first, means_rejoined, means_part, means_count, means_cut, framed}
use Rattle.pg_machine_turns.specs.Tape.{OnTried, OnFrame, Tape, left_table, tape_to_parts, tape_settled, tape_next_alternative, tried_messages, tried_with_failure, tried_with_empty_ok, tried_kept, tape_empty_ok, tape_to_choice, tape_to_rounds}
use Rattle.pg_machine_turns.specs.Turns.{State, with_outcome, next_alternative, hand_empty_ok, hand_to_choice, hand_to_parts, hand_to_rounds}
use Rattle.pg_message_tape.specs.TapeErrors.{Says}
use Rattle.pg_machine_turns.specs.declared.frame.Before as declared
use Rattle.pg_machine_turns.specs.declared.frame.Reply.TheVariants.{Succeeded, Failed}
use Rattle.pg_message_tape.specs.declared.message_tape.TapeError.{TapeError}
use Rattle.pg_machine_turns.proofs.PastError.{past_says}
use Rattle.pg_message_tape.proofs.Merged.{drop_seam, take_seam, hold, nothing_says, alone, cut_messages, merge_says, after_says}

-- ---- the same lists in another form

pub moved : {G : Given} {st : State} {a b : Tape} → Shows G st a → a ≡ b → Shows G st b
moved {G = G} {st = st} s e = subst (Shows G st) e s

pub turned : {G : Given} {st up : State} {a : Tape} → Shows G st a → st ≡ up → Shows G up a
turned {G = G} {a = a} s e = subst (λ (st : State). Shows G st a) e s

-- there are as many frames
stands_length : {G : Given} {fs : List Frame} {gs : List OnFrame} {v : List Tree} {t : List TrailItem} {x : List TapeMessage} {T : Table} → Stands G fs gs v t x T → length fs ≡ length gs
stands_length no_frames = refl
stands_length (stands_parts h k) = ap suc (stands_length h)
stands_length (stands_choice h k) = ap suc (stands_length h)
stands_length (stands_rounds item h k) = ap suc (stands_length h)
stands_length (stands_first item h) = ap suc (stands_length h)
stands_length (stands_separator h k) = ap suc (stands_length h)
stands_length (stands_operand h k l m) = ap suc (stands_length h)
stands_length (stands_rule h) = ap suc (stands_length h)
stands_length (stands_expression h e k) = ap suc (stands_length h)
stands_length (stands_around h) = ap suc (stands_length h)

-- the last of three lists
pub three : {A : Type 0} (a b c : List A) → a ++ (b ++ c) ≡ a ++ b ++ c
three a b c = sym (append_assoc a b c)

-- the trail after an alternative's item
pub item_seam : (t : List TrailItem) (item : TrailItem) (r : List TrailItem) → t ++ (item ∷ r) ≡ t ++ item ∷ [] ++ r
item_seam t item r = sym (append_assoc t (item ∷ []) r)

-- ---- tables

-- what was said of two runs one after the other
pub extends_any : {c : Bool} {T U : Table} → Extends c T U → Extends true T U
extends_any same_table = same_table
extends_any (more_operators ds) = more_operators ds

pub extends_both : {T U W : Table} (c d : Bool) → Extends c T U → Extends d U W → Extends (c || d) T W
extends_both false d same_table k = k
extends_both true d same_table k = extends_any k
extends_both true d (more_operators ds) same_table = more_operators ds
extends_both {T = T} true true (more_operators ds) (more_operators es) =
    let one : with_operators T (ds ++ es) ≡ with_operators (with_operators T ds) es =
    ap (λ (os : List Operator). let u : Table = record { operators = os; reserved = T.reserved; most = T.most } in u) (sym (append_assoc T.operators ds es)) in
    subst (Extends true T) one (more_operators (ds ++ es))

-- the first table is given back
pub given_back : {c : Bool} {T U : Table} → Extends c T U → first_operators (length T.operators) U ≡ T
given_back {T = T} same_table =
    ap (λ (os : List Operator). let u : Table = record { operators = take (length T.operators) os; reserved = T.reserved; most = T.most } in u) (sym (append-nil T.operators))
    ∙ ap (λ (os : List Operator). let u : Table = record { operators = os; reserved = T.reserved; most = T.most } in u) (take_seam T.operators [])
given_back {T = T} (more_operators ds) =
    ap (λ (os : List Operator). let u : Table = record { operators = os; reserved = T.reserved; most = T.most } in u) (take_seam T.operators ds)

-- a form around a part leaves the table of before or the part's
pub leaves : {c : Bool} {T U : Table} (around : Around) → Extends c T U → Extends c T (table_by around T U)
leaves kind.Local e = same_table
leaves _ e = e

-- the table that it leaves on the tape is that one
pub table_left : {c : Bool} {T U : Table} (around : Around) → Extends c T U → left_table around (length T.operators) U ≡ table_by around T U
table_left kind.Local e = given_back e
table_left _ e = refl

module _ {T : Table} where
  one_failed : {thrown : Option ℕ} {x y z : List TapeMessage} {tried : Tried} {q : OnTried} {error : TapeError} {f : Error} → ShowsTried thrown T x tried q y → Says y error f z →
      ShowsTried thrown T x (with_failure tried f) (tried_with_failure q (tried_kept q error z)) (tried_messages q error z)
  one_failed nothing_tried o = a_failure (hold o)
  one_failed (a_failure k) o = a_failure (hold (merge_says k o))
  one_failed (an_empty_ok k p) o = an_empty_ok (hold (merge_says k o)) p

  one_empty_ok : {thrown : Option ℕ} {x y z : List TapeMessage} {tried : Tried} {q : OnTried} {error : TapeError} {f : Error} {w : List Tree} {n : ℕ} (j : ℕ) (s : List Tree) (r : List TrailItem) → ShowsTried thrown T x tried q y → Says y error f z →
      KeepsPart thrown w n s → ShowsTried thrown T x (with_empty_ok tried (spot_at T j) s r f) (tried_with_empty_ok q j w n r (tried_kept q error z)) (tried_messages q error z)
  one_empty_ok j s r nothing_tried o p = an_empty_ok (hold o) p
  one_empty_ok j s r (a_failure k) o p = an_empty_ok (hold (merge_says k o)) p
  one_empty_ok j s r (an_empty_ok k own) o p = an_empty_ok (hold (merge_says k o)) own

module _ {G : Given} {T : Table} where
  -- ---- sequences

  pub parts_succeeded : {fs : List Frame} {gs : List OnFrame} {v w : List Tree} {g : RunTrees} {t u : List TrailItem} {x y z : List TapeMessage} {U W : Table} {done : Before} {b : Option declared.Before} {error : TapeError} {f : Error}
      (ps : List ℕ) (c : Bool) (j : ℕ) (s : List Tree) (r : List TrailItem) → Stands G fs gs v t x T → ShowsBefore x T done w u b y U → Means gs g (v ++ w ++ s) → Says y error f z → Extends c U W →
      Shows G (hand_to_parts ps done (ok c (spot_at W j) s r f) fs) (tape_to_parts ps b (Succeeded c j error) gs g (t ++ u ++ r) z W)
  parts_succeeded {v = v} {t = t} [] c j s r h no_parts g q m =
      let d = append-nil t in moved (shows_succeeded h (relisted (ap (λ k. k ++ s) (append-nil v)) g) q m) cc
  parts_succeeded {v = v} {t = t} (p ∷ ps) c j s r h no_parts g q m =
      let d = append-nil t in moved (shows_at (stands_parts h (some_parts (hold q) m)) (framed refl refl (relisted (ap (λ k. k ++ s) (append-nil v)) g))) cc
  parts_succeeded {v = v} {w = w} {t = t} {u = u} [] c j s r h (some_parts {c = b} k l) g q m =
      let d = three t u r in moved (shows_succeeded h (relisted (sym (three v w s)) g) (past_says c k q) (extends_both b c l m)) cc
  parts_succeeded {v = v} {w = w} {t = t} {u = u} (p ∷ ps) c j s r h (some_parts {c = b} k l) g q m =
      let d = three t u r in moved (shows_at (stands_parts h (some_parts (hold (past_says c k q)) (extends_both b c l m))) (framed refl refl (relisted (sym (three v w s)) g))) cc

  pub parts_failed : {fs : List Frame} {gs : List OnFrame} {v w : List Tree} {g : RunTrees} {t u : List TrailItem} {x y z : List TapeMessage} {U W : Table} {done : Before} {b : Option declared.Before} {error : TapeError} {f : Error}
      (ps : List ℕ) (c : Bool) (s : List Tree) (r : List TrailItem) → Stands G fs gs v t x T → ShowsBefore x T done w u b y U → Means gs g (v ++ w ++ s) → Says y error f z → Extends true U W →
      Shows G (hand_to_parts ps done (failed c f) fs) (tape_to_parts ps b (Failed c error) gs g (t ++ u ++ r) z W)
  parts_failed {v = v} {t = t} [] c s r h no_parts g q m =
      let d = append-nil t in moved (shows_failed s r h (relisted (ap (λ k. k ++ s) (append-nil v)) g) q m) cc
  parts_failed {v = v} {t = t} (p ∷ ps) c s r h no_parts g q m =
      let d = append-nil t in moved (shows_failed s r h (relisted (ap (λ k. k ++ s) (append-nil v)) g) q m) cc
  parts_failed {v = v} {w = w} {t = t} {u = u} [] c s r h (some_parts k l) g q m =
      let d = three t u r in moved (shows_failed (w ++ s) (u ++ r) h (relisted (sym (three v w s)) g) (past_says c k q) (extends_both true true (extends_any l) m)) cc
  parts_failed {v = v} {w = w} {t = t} {u = u} (p ∷ ps) c s r h (some_parts k l) g q m =
      let d = three t u r in moved (shows_failed (w ++ s) (u ++ r) h (relisted (sym (three v w s)) g) (past_says c k q) (extends_both true true (extends_any l) m)) cc

  -- ---- choices

  settled_succeeded : {fs : List Frame} {gs : List OnFrame} {v : List Tree} {g : RunTrees} {t : List TrailItem} {x y z : List TapeMessage} {U : Table} {tried : Tried} {q : OnTried} {error : TapeError} {f : Error}
      (c : Bool) (j : ℕ) (s : List Tree) (r : List TrailItem) → Stands G fs gs v t x T → ShowsTried (thrown_from gs) T x tried q y → Means gs g (v ++ s) → Says y error f z → Extends c T U →
      Shows G (with_outcome (after_tried tried (ok c (spot_at U j) s r f)) fs) (tape_settled q (length v) (length t) (length T.operators) (Succeeded c j error) gs g (t ++ r) z U)
  settled_succeeded c j s r h nothing_tried g o m = shows_succeeded h g o m
  settled_succeeded c j s r h (a_failure k) g o m = shows_succeeded h g (after_says c k o) m
  settled_succeeded true j s r h (an_empty_ok k p) g o m = shows_succeeded h g (alone k o) m
  settled_succeeded {v = v} {t = t} false j s r h (an_empty_ok k p) g o m =
      let d = take_seam t r in let back = given_back m in moved (shows_succeeded h (means_rejoined (means_first s h g) p) (merge_says k o) same_table) cc

  settled_failed : {fs : List Frame} {gs : List OnFrame} {v : List Tree} {g : RunTrees} {t : List TrailItem} {x y z : List TapeMessage} {U : Table} {tried : Tried} {q : OnTried} {error : TapeError} {f : Error}
      (c : Bool) (s : List Tree) (r : List TrailItem) → Stands G fs gs v t x T → ShowsTried (thrown_from gs) T x tried q y → Means gs g (v ++ s) → Says y error f z → Extends true T U →
      Shows G (with_outcome (after_tried tried (failed c f)) fs) (tape_settled q (length v) (length t) (length T.operators) (Failed c error) gs g (t ++ r) z U)
  settled_failed c s r h nothing_tried g o m = shows_failed s r h g o m
  settled_failed c s r h (a_failure k) g o m = shows_failed s r h g (after_says c k o) m
  settled_failed true s r h (an_empty_ok k p) g o m = shows_failed s r h g (alone k o) m
  settled_failed {v = v} {t = t} false s r h (an_empty_ok k p) g o m =
      let d = take_seam t r in let back = given_back m in moved (shows_succeeded h (means_rejoined (means_first s h g) p) (merge_says k o) same_table) cc

  pub next_shown : {fs : List Frame} {gs : List OnFrame} {v : List Tree} {g : RunTrees} {t : List TrailItem} {x y : List TapeMessage} {tried : Tried} {q : OnTried}
      (k : ℕ) (ps : List ℕ) (i : ℕ) → Stands G fs gs v t x T → ShowsTried (thrown_from gs) T x tried q y → Means gs g v →
      Shows G (next_alternative k ps (spot_at T i) tried fs) (tape_next_alternative k ps i q gs g t y T)
  next_shown {v = v} {t = t} {y = y} k [] i h o g =
      let d = append-nil t in let n = means_count g in moved (settled_failed false [] [] h o (relisted (sym (append-nil v)) g) (nothing_says y i) same_table) cc
  next_shown k (p ∷ ps) i h o g = let n = means_count g in moved (shows_at (stands_choice h o) (framed refl refl g)) cc

  empty_ok_shown : {fs : List Frame} {gs : List OnFrame} {v : List Tree} {g : RunTrees} {t : List TrailItem} {x y z : List TapeMessage} {U : Table} {tried : Tried} {q : OnTried} {error : TapeError} {f : Error}
      (reading : Reading) (k : ℕ) (ps : List ℕ) (i j : ℕ) (s : List Tree) (r : List TrailItem) → Stands G fs gs v t x T → ShowsTried (thrown_from gs) T x tried q y → Means gs g (v ++ s) → Says y error f z → Extends false T U →
      Shows G (hand_empty_ok reading k ps (spot_at T i) tried (spot_at U j) s r f fs) (tape_empty_ok reading k ps i q (length v) (length t) (length T.operators) j error gs g (t ++ Alt k ∷ [] ++ r) z U)
  empty_ok_shown {v = v} {t = t} Library k ps i j s r h o g e m = let d = item_seam t (Alt k) r in moved (settled_succeeded false j s (Alt k ∷ r) h o g e m) cc
  empty_ok_shown {v = v} {t = t} Report k ps i j s r h o g e same_table =
      let d = item_seam t (Alt k) r in
      let n : take (length t) (t ++ Alt k ∷ [] ++ r) ≡ t = ap (take (length t)) (sym d) ∙ take_seam t (Alt k ∷ r) in
      let l : drop (length t) (t ++ Alt k ∷ [] ++ r) ≡ Alt k ∷ r = ap (drop (length t)) (sym d) ∙ drop_seam t (Alt k ∷ r) in
      let back : first_operators (length T.operators) T ≡ T = given_back {c = false} same_table in
      moved (next_shown (suc k) ps i h (one_empty_ok j s (Alt k ∷ r) o e (means_part s h g)) (means_first s h g)) cc

  pub choice_succeeded : {fs : List Frame} {gs : List OnFrame} {v : List Tree} {g : RunTrees} {t : List TrailItem} {x y z : List TapeMessage} {U : Table} {tried : Tried} {q : OnTried} {error : TapeError} {f : Error}
      (reading : Reading) (k : ℕ) (ps : List ℕ) (i : ℕ) (c : Bool) (j : ℕ) (s : List Tree) (r : List TrailItem) → Stands G fs gs v t x T → ShowsTried (thrown_from gs) T x tried q y → Means gs g (v ++ s) → Says y error f z → Extends c T U →
      Shows G (hand_to_choice reading k ps (spot_at T i) tried (ok c (spot_at U j) s r f) fs) (tape_to_choice reading k ps i q (length v) (length t) (length T.operators) (Succeeded c j error) gs g (t ++ Alt k ∷ [] ++ r) z U)
  choice_succeeded {t = t} reading k ps i true j s r h o g e m = let d = item_seam t (Alt k) r in moved (settled_succeeded true j s (Alt k ∷ r) h o g e m) cc
  choice_succeeded reading k ps i false j s r h o g e m = empty_ok_shown reading k ps i j s r h o g e m

  pub choice_failed : {fs : List Frame} {gs : List OnFrame} {v : List Tree} {g : RunTrees} {t : List TrailItem} {x y z : List TapeMessage} {U : Table} {tried : Tried} {q : OnTried} {error : TapeError} {f : Error}
      (reading : Reading) (k : ℕ) (ps : List ℕ) (i : ℕ) (c : Bool) (s : List Tree) (r : List TrailItem) → Stands G fs gs v t x T → ShowsTried (thrown_from gs) T x tried q y → Means gs g (v ++ s) → Says y error f z → Extends true T U →
      Shows G (hand_to_choice reading k ps (spot_at T i) tried (failed c f) fs) (tape_to_choice reading k ps i q (length v) (length t) (length T.operators) (Failed c error) gs g (t ++ Alt k ∷ [] ++ r) z U)
  choice_failed {t = t} reading k ps i true s r h o g e m = let d = item_seam t (Alt k) r in moved (settled_failed true s (Alt k ∷ r) h o g e m) cc
  choice_failed {v = v} {t = t} reading k ps i false s r h o g e m =
      let back = given_back m in
      let d = item_seam t (Alt k) r in
      let n : take (length t) (t ++ Alt k ∷ [] ++ r) ≡ t = ap (take (length t)) (sym d) ∙ take_seam t (Alt k ∷ r) in
      moved (next_shown (suc k) ps i h (one_failed o e) (means_first s h g)) cc

  -- ---- repetitions

  pub rounds_succeeded : {fs : List Frame} {gs : List OnFrame} {v : List Tree} {g : RunTrees} {t : List TrailItem} {x z : List TapeMessage} {U W : Table} {error : TapeError} {f : Error} (w : List Tree) (u : List TrailItem)
      (p k : ℕ) (b : Bool) (i : ℕ) (item : TrailItem) (c : Bool) (j : ℕ) (s : List Tree) (r : List TrailItem) → Stands G fs gs v t x T → Extends b T U → Means gs g (v ++ w ++ s) → Says x error f z → Extends c U W →
      Shows G (hand_to_rounds p k b (spot_at U i) w u (ok c (spot_at W j) s r f) fs)
      (tape_to_rounds p k b i (length t) (length (v ++ w)) (length (t ++ item ∷ u)) (length U.operators) (length x) (Succeeded c j error) gs g (t ++ item ∷ u ++ r) z W)
  rounds_succeeded {v = v} {t = t} {x = x} w u p k b i item true j s r h l g o m =
      let n = means_count g in
      let a = three v w s in
      let d : t ++ (item ∷ (u ++ r)) ≡ t ++ item ∷ u ++ r = three t (item ∷ u) r in
      let cut = cut_messages o in
      moved (shows_at (stands_rounds item h (extends_both true true (extends_any l) m)) (framed refl refl (relisted (sym a) g))) cc
  rounds_succeeded w u p k b i item false j s r h l g o m = shows_stuck (stands_length h)

  pub rounds_failed : {fs : List Frame} {gs : List OnFrame} {v : List Tree} {g : RunTrees} {t : List TrailItem} {x z : List TapeMessage} {U W : Table} {error : TapeError} {f : Error} (w : List Tree) (u : List TrailItem)
      (p k : ℕ) (b : Bool) (i : ℕ) (item : TrailItem) (c : Bool) (s : List Tree) (r : List TrailItem) → Stands G fs gs v t x T → Extends b T U → Means gs g (v ++ w ++ s) → Says x error f z → Extends true U W →
      Shows G (hand_to_rounds p k b (spot_at U i) w u (failed c f) fs)
      (tape_to_rounds p k b i (length t) (length (v ++ w)) (length (t ++ item ∷ u)) (length U.operators) (length x) (Failed c error) gs g (t ++ item ∷ u ++ r) z W)
  rounds_failed {v = v} {t = t} w u p k b i item true s r h l g o m =
      let d : t ++ (item ∷ (u ++ r)) ≡ t ++ item ∷ u ++ r = three t (item ∷ u) r in
      moved (shows_failed (w ++ s) (item ∷ (u ++ r)) h (relisted (sym (three v w s)) g) o (extends_both true true (extends_any l) m)) cc
  rounds_failed {v = v} {t = t} w u p k b i item false s r h l g o m =
      let d = take_seam (t ++ item ∷ u) r in
      let slot : slice_set (t ++ item ∷ u) (length t) (Rounds k) ≡ t ++ Rounds k ∷ u = set-append_seam t item u (Rounds k) in
      let back = given_back m in
      moved (shows_succeeded h (means_cut s refl (stands_rounds {w = w} {u = u} {p = p} {k = k} {i = i} {c = b} item h l) g) o l) cc
