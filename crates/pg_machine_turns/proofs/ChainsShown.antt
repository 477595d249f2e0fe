-- The same of chains.
use Rattle.std.proofs.Common.{◌≡◌, ℕ, suc, List, [], ◌∷◌, ◌++◌, Bool, true, false, refl, ap, sym, ◌∙◌, append_assoc, append-nil, length, take, ◌≤◌, arith, length-append}
use Rattle.std.proofs.Math.Bool.{or-true, or-false}
use Rattle.std.proofs.Math.Seq.{set-append_seam}
use Rattle.std.specs.Prelude.{◌||◌, slice_set}
use Rattle.pg_tree.specs.Trees.{Tree}
use Rattle.pg_tree.specs.Built.{built}
use Rattle.pg_grammar_value.specs.declared.trail.TrailItem.{TrailItem}
use Rattle.pg_grammar_value.specs.declared.trail.TrailItem.TheVariants.{Rounds}
use Rattle.pg_language.specs.Derives.{Spot, carried}
use Rattle.pg_table.specs.Tables.{Table, first_operators}
use Rattle.pg_language.specs.Errors.{Error, merge, no_messages_at}
use Rattle.pg_language.specs.Outcomes.{ok, failed}
use Rattle.pg_language.specs.Reactions.{error_after, noted, then_rest, unless_begun, as_finished}
use Rattle.pg_grammar_form.specs.declared.side.Side.{Side}
use Rattle.pg_grammar_form.specs.declared.side.Side.TheVariants.{Left, Right}
use Rattle.pg_language.specs.Answers.{Given}
use Rattle.pg_machine_turns.specs.Spots.{spot_at}
use Rattle.pg_machine_turns.specs.Extends.{Extends}
use Rattle.pg_machine_turns.specs.Frames.{Chain, Linked, folded, Frame}
use Rattle.pg_message_tape.specs.Messages.{TapeMessage}
use Rattle.pg_machine_turns.specs.Shows.{thrown_from, Means, plain, Waits, none_wait, from_left, from_right, ShowsLinks, links, Stands, stands_separator, stands_operand, Shows, shows_at, shows_succeeded, shows_failed, shows_endless}
use Rattle.pg_machine_turns.specs.Tape.{OnChain, OnLinks, OnFrame, tape_at, tape_with, all_built, tape_to_first, tape_ended, tape_to_separator, link_forest, link_waiting, link_left, tape_linked, tape_to_operand}
use Rattle.pg_machine_lists.specs.RunTrees.{tree_count, first_trees, built_after}
use Rattle.pg_machine_lists.specs.RunTrees.{RunTrees}
use Rattle.pg_machine_turns.proofs.Hiding.{Under, under, under_longer, wait_longer, first_means, built_means, relisted, means_count, framed}
use Rattle.pg_machine_turns.specs.Turns.{at_node, with_outcome, ended, with_link, hand_to_first, hand_to_separator, next_link, hand_to_operand}
use Rattle.pg_message_tape.specs.TapeErrors.{kept_at, Says, Holds}
use Rattle.pg_machine_turns.specs.declared.frame.Reply.TheVariants.{Succeeded, Failed}
use Rattle.pg_message_tape.specs.declared.message_tape.TapeError.{TapeError}
use Rattle.pg_message_tape.specs.declared.message_tape.KeptError.{KeptError}
use Rattle.pg_machine_turns.specs.Frames.{in_separator}
use Rattle.pg_machine_turns.specs.Tape.{on_separator}
use Rattle.pg_message_tape.proofs.Merged.{take_seam, hold, nothing_says, alone, merge_says, after_says}
use Rattle.pg_machine_turns.proofs.Shown.{moved, turned, three, extends_any, extends_both, given_back}

-- ---- what waits to be folded

-- the trees that lie there are made into what the outcome's forest becomes
pub record Folds (gs : List OnFrame) (ch : OnChain) (v : List Tree) (waiting : List (List Tree × List Tree)) (ns : List ℕ) (y left : List Tree) : Type 0 where
  pub forest : List Tree
  pub on_list : (g : RunTrees) → Means gs g (y ++ left) → Means gs (all_built ch.used.shape ns g) (v ++ forest)
  pub in_outcome : (c : Bool) (b : Spot) (t : List TrailItem) (e : Error) → folded (plain ch) waiting (ok c b left t e) ≡ ok c b forest t e

left_alone : (ch : OnChain) → ch.side ≡ Left → (waiting : List (List Tree × List Tree)) (left : List Tree) (c : Bool) (b : Spot) (t : List TrailItem) (e : Error) →
    folded (plain ch) waiting (ok c b left t e) ≡ ok c b left t e
left_alone ch h [] left c b t e = refl
left_alone ch h (x ∷ waiting) left c b t e =
    ap (λ (side : Side). folded (plain ch) waiting (as_finished side ch.used.shape x.0 x.1 (ok c b left t e))) h ∙ left_alone ch h waiting left c b t e

pub folds : {gs : List OnFrame} {ch : OnChain} {v y : List Tree} {waiting : List (List Tree × List Tree)} {ns : List ℕ} → Under (thrown_from gs) (length v) → Waits ch v waiting ns y → (left : List Tree) → Folds gs ch v waiting ns y left
folds u none_wait left = record { forest = left; on_list = λ g m. m; in_outcome = λ c b t e. refl }
folds {ch = ch} u (from_left {waiting = waiting} h) left = record { forest = left; on_list = λ g m. m; in_outcome = left_alone ch h waiting left }
folds {gs = gs} {ch = ch} {v = v} u (from_right {y = y} {a = a} {s = s} {waiting = waiting} {ns = ns} h w) left =
    let next = folds {gs = gs} u w (built ch.used.shape [] (a ++ s ++ left) ∷ []) in
    let lists : y ++ a ++ s ++ left ≡ y ++ (a ++ s ++ left) = append_assoc (y ++ a) s left ∙ append_assoc y a (s ++ left) ∙ ap (λ z. y ++ z) (sym (append_assoc a s left)) in
    let within = under_longer (thrown_from gs) (length v) (length y) (wait_longer w) u in
    record {
      forest = next.forest;
      on_list = λ g m. next.on_list (built_after ch.used.shape [] (length y) g) (built_means y ch.used.shape [] (a ++ s ++ left) within (relisted lists m));
      in_outcome = λ c b t e. ap (λ (side : Side). folded (plain ch) waiting (as_finished side ch.used.shape a s (ok c b left t e))) h ∙ next.in_outcome c b t e;
    }

folded_failed : (ch : Chain) (waiting : List (List Tree × List Tree)) (c : Bool) (e : Error) → folded ch waiting (failed c e) ≡ failed c e
folded_failed ch [] c e = refl
folded_failed ch (x ∷ waiting) c e = folded_failed ch waiting c e

-- a link more waits
left_waits : {ch : OnChain} {v y : List Tree} {waiting : List (List Tree × List Tree)} {ns : List ℕ} (x : List Tree × List Tree) → ch.side ≡ Left → Waits ch v waiting ns y → Waits ch v (x ∷ waiting) ns y
left_waits x h none_wait = from_left h
left_waits x h (from_left k) = from_left h
left_waits x h (from_right k w) = let z : Left ≡ Right = sym h ∙ k in cc

-- what waits lies after what stands below
record After (v y : List Tree) : Type 0 where
  more : List Tree
  lists : y ≡ v ++ more

wait_after : {ch : OnChain} {v y : List Tree} {waiting : List (List Tree × List Tree)} {ns : List ℕ} → Waits ch v waiting ns y → After v y
wait_after {v = v} none_wait = record { more = []; lists = sym (append-nil v) }
wait_after {v = v} (from_left h) = record { more = []; lists = sym (append-nil v) }
wait_after {v = v} (from_right {a = a} {s = s} h w) =
    let b = wait_after w in record { more = b.more ++ a ++ s; lists = ap (λ z. z ++ a ++ s) b.lists ∙ ap (λ z. z ++ s) (append_assoc v b.more a) ∙ append_assoc v (b.more ++ a) s }

module _ {G : Given} {T : Table} where
  pub first_succeeded : {fs : List Frame} {gs : List OnFrame} {v : List Tree} {g : RunTrees} {t : List TrailItem} {x z : List TapeMessage} {U : Table} {error : TapeError} {f : Error} (ch : OnChain)
      (item : TrailItem) (c : Bool) (j : ℕ) (s : List Tree) (r : List TrailItem) → Stands G fs gs v t x T → Means gs g (v ++ s) → Says x error f z → Extends c T U →
      Shows G (hand_to_first (plain ch) (ok c (spot_at U j) s r f) fs) (tape_to_first ch (length t) (length v) (Succeeded c j error) gs g (t ++ item ∷ [] ++ r) z U)
  first_succeeded {t = t} ch item c j s r h g o m =
      let n = means_count g in
      let d : t ++ (item ∷ r) ≡ t ++ item ∷ [] ++ r = sym (append_assoc t (item ∷ []) r) in
      moved (shows_at (stands_separator h (links {ch = ch} item none_wait (hold o) m)) (framed refl refl g)) cc

  pub first_failed : {fs : List Frame} {gs : List OnFrame} {v : List Tree} {g : RunTrees} {t : List TrailItem} {x z : List TapeMessage} {U : Table} {error : TapeError} {f : Error} (ch : OnChain)
      (item : TrailItem) (c : Bool) (s : List Tree) (r : List TrailItem) → Stands G fs gs v t x T → Means gs g (v ++ s) → Says x error f z → Extends true T U →
      Shows G (hand_to_first (plain ch) (failed c f) fs) (tape_to_first ch (length t) (length v) (Failed c error) gs g (t ++ item ∷ [] ++ r) z U)
  first_failed {t = t} ch item c s r h g o m =
      let d : t ++ (item ∷ r) ≡ t ++ item ∷ [] ++ r = sym (append_assoc t (item ∷ []) r) in
      moved (shows_failed s (item ∷ r) h g o m) cc

  -- a link failed, having consumed
  failed_link : {fs : List Frame} {gs : List OnFrame} {v y : List Tree} {g : RunTrees} {t : List TrailItem} {x z : List TapeMessage} {W : Table} {error : TapeError} {f : Error} (w : List Tree) (u : List TrailItem) (ch : Chain) (waiting : List (List Tree × List Tree)) (n : ℕ) (b : Bool) (e : Error) (item : TrailItem)
      (s : List Tree) (r : List TrailItem) → Stands G fs gs v t x T → Means gs g (y ++ w ++ s) → Says x error f z → Extends true T W → (a : List Tree) → y ≡ v ++ a →
      Shows G (with_outcome (noted (Rounds n) (then_rest b [] u e (folded ch waiting (failed true f)))) fs) (tape_with (Failed true error) gs g (t ++ item ∷ u ++ r) z W)
  failed_link {fs = fs} {gs = gs} {v = v} {y = y} {g = g} {t = t} {z = z} {W = W} {error = error} {f = f} w u ch waiting n b e item s r h trees o m a is =
      let lists : v ++ (a ++ w ++ s) ≡ y ++ w ++ s = three v (a ++ w) s ∙ ap (λ q. q ++ s) (three v a w) ∙ ap (λ q. q ++ w ++ s) (sym is) in
      let d : t ++ (item ∷ (u ++ r)) ≡ t ++ item ∷ u ++ r = three t (item ∷ u) r in
      let same : failed true f ≡ noted (Rounds n) (then_rest b [] u e (folded ch waiting (failed true f))) =
      ap (λ c. failed c f) (sym (or-true b)) ∙ ap (λ o. noted (Rounds n) (then_rest b [] u e o)) (sym (folded_failed ch waiting true f)) in
      let shown : Shows G (with_outcome (failed true f) fs) (tape_with (Failed true error) gs g (t ++ item ∷ u ++ r) z W) = moved (shows_failed (a ++ w ++ s) (item ∷ (u ++ r)) h (relisted (sym lists) trees) o m) cc in
      turned shown (ap (λ o. with_outcome o fs) same)

  -- a link failed empty: the chain ends before it
  ended_link : {fs : List Frame} {gs : List OnFrame} {v y : List Tree} {g : RunTrees} {t : List TrailItem} {x z : List TapeMessage} {U W : Table} {error : TapeError} {ch : OnChain} {waiting : List (List Tree × List Tree)} {ns : List ℕ}
      (w : List Tree) (u : List TrailItem) (e f : Error) (n i : ℕ) (b : Bool) (item : TrailItem) (s : List Tree) (r : List TrailItem) → Stands G fs gs v t x T → Waits ch v waiting ns y → Extends b T U → Means gs g (y ++ w ++ s) → Says x error (merge e (merge f (no_messages_at i))) z → Extends true U W →
      Shows G (with_outcome (noted (Rounds n) (then_rest b [] u e (folded (plain ch) waiting (ok false (spot_at U i) w [] (merge f (no_messages_at i)))))) fs)
      (tape_with (Succeeded b i error) gs (all_built ch.used.shape ns (first_trees (length (y ++ w)) g)) (slice_set (take (length (t ++ item ∷ u)) (t ++ item ∷ u ++ r)) (length t) (Rounds n)) z (first_operators (length U.operators) W))
  ended_link {fs = fs} {gs = gs} {v = v} {y = y} {g = g} {t = t} {z = z} {U = U} {W = W} {error = error} {ch = ch} {waiting = waiting} {ns = ns} w u e f n i b item s r h k l means o m =
      let back = given_back m in
      let below = under h in
      let all = folds {gs = gs} below k w in
      let longer : length v ≤ length (y ++ w) = omega (arith, wait_longer k, length-append y w) in
      let trees = all.on_list (first_trees (length (y ++ w)) g) (first_means s (under_longer (thrown_from gs) (length v) (length (y ++ w)) longer below) means) in
      let items : t ++ (Rounds n ∷ u) ≡ slice_set (take (length (t ++ item ∷ u)) (t ++ item ∷ u ++ r)) (length t) (Rounds n) =
      sym (set-append_seam t item u (Rounds n)) ∙ ap (λ (q : List TrailItem). slice_set q (length t) (Rounds n)) (sym (take_seam (t ++ item ∷ u) r)) in
      let none = append-nil u in
      let empty = or-false b in
      let same : ok b (spot_at U i) all.forest (Rounds n ∷ u) (merge e (merge f (no_messages_at i))) ≡ noted (Rounds n) (then_rest b [] u e (folded (plain ch) waiting (ok false (spot_at U i) w [] (merge f (no_messages_at i))))) =
      ap (λ c. ok c (spot_at U i) all.forest (Rounds n ∷ u) (merge e (merge f (no_messages_at i)))) (sym empty)
      ∙ ap (λ q. ok (b || false) (spot_at U i) all.forest (Rounds n ∷ q) (merge e (merge f (no_messages_at i)))) (sym none)
      ∙ ap (λ o. noted (Rounds n) (then_rest b [] u e o)) (sym (all.in_outcome false (spot_at U i) [] (merge f (no_messages_at i)))) in
      let shown : Shows G (with_outcome (ok b (spot_at U i) all.forest (Rounds n ∷ u) (merge e (merge f (no_messages_at i)))) fs)
      (tape_with (Succeeded b i error) gs (all_built ch.used.shape ns (first_trees (length (y ++ w)) g)) (slice_set (take (length (t ++ item ∷ u)) (t ++ item ∷ u ++ r)) (length t) (Rounds n)) z (first_operators (length U.operators) W)) = moved (shows_succeeded h trees o l) cc in
      turned shown (ap (λ o. with_outcome o fs) same)

  pub ended_shown : {fs : List Frame} {gs : List OnFrame} {v w : List Tree} {g : RunTrees} {t u : List TrailItem} {x y z : List TapeMessage} {U W : Table} {error : TapeError} {f : Error} {linked : Linked} {i : ℕ} {l : OnLinks}
      (c : Bool) (s : List Tree) (r : List TrailItem) → Stands G fs gs v t x T → ShowsLinks v t x T linked i l w u y U → Means gs g (w ++ s) → Says y error f z → Extends true U W →
      Shows G (with_outcome (ended (plain l.chain) linked (unless_begun c (spot_at U i) linked.left f)) fs) (tape_ended l c error gs g (u ++ r) z W)
  ended_shown true s r h (links {ch = ch} {w = w} {u = u} {waiting = waiting} {n = n} {c = b} {e = e} item k kept d) g o m =
      let a = wait_after k in failed_link w u (plain ch) waiting n b e item s r h g (alone kept o) (extends_both true true (extends_any d) m) a.more a.lists
  ended_shown {z = z} {f = f} false s r h (links {w = w} {u = u} {n = n} {i = i} {c = b} {e = e} item k kept d) g o m =
      ended_link w u e f n i b item s r h k d g (merge_says kept (merge_says (hold o) (nothing_says z i))) m

  pub separator_succeeded : {fs : List Frame} {gs : List OnFrame} {v w : List Tree} {g : RunTrees} {t u : List TrailItem} {x y z : List TapeMessage} {U W : Table} {error : TapeError} {f : Error} {linked : Linked} {i : ℕ} {l : OnLinks}
      (c : Bool) (j : ℕ) (s : List Tree) (r : List TrailItem) → Stands G fs gs v t x T → ShowsLinks v t x T linked i l w u y U → Means gs g (w ++ s) → Says y error f z → Extends c U W →
      Shows G (hand_to_separator (plain l.chain) linked (spot_at U i) (ok c (spot_at W j) s r f) fs) (tape_to_separator l (Succeeded c j error) gs g (u ++ r) z W)
  separator_succeeded c j s r h k g o m = let n = means_count g in moved (shows_at (stands_operand h k (hold o) m) (framed refl refl g)) cc

  -- the next separator runs
  more_shown : {fs : List Frame} {gs : List OnFrame} {v y : List Tree} {g : RunTrees} {t : List TrailItem} {x z : List TapeMessage} {W : Table} {error : TapeError} {f : Error} (w a : List Tree) (u q : List TrailItem) {waiting : List (List Tree × List Tree)} {ns : List ℕ} (side : Side) (ch : OnChain)
      (n i j : ℕ) (b : Bool) (kept : KeptError) (item : TrailItem) (s : List Tree) (r : List TrailItem) → ch.side ≡ side → Stands G fs gs v t x T → Waits ch v waiting ns y → Means gs g (y ++ w ++ a ++ s) → Says x error f z → Extends true T W →
      Shows G (at_node ch.separator (spot_at W j) (in_separator (plain ch)
      (record { count = suc n; consumed = true; trail = u ++ (q ++ r); error = f; waiting = (w, a) ∷ waiting; left = carried side ch.used.shape w a s }) (spot_at W j) ∷ fs))
      (tape_at ch.separator j (on_separator (record {
        chain = ch;
        slot = length t;
        count = suc n;
        consumed = true;
        kept = kept_at (length z) error;
        waiting = link_waiting side (length y) ns;
        left = link_left side (length y) (length (y ++ w ++ a));
        start = j;
        forest = tree_count (link_forest side ch.used.shape (length y) g);
        trail = length (t ++ item ∷ u ++ q ++ r);
        operators = length W.operators;
      }) ∷ gs)
      (link_forest side ch.used.shape (length y) g) (t ++ item ∷ u ++ q ++ r) z W)
  more_shown {gs = gs} {v = v} {y = y} {t = t} w a u q Left ch n i j b kept item s r is h k g o m =
      let inner : y ++ w ++ a ++ s ≡ y ++ (w ++ a ++ s) = append_assoc (y ++ w) a s ∙ append_assoc y w (a ++ s) ∙ ap (λ z. y ++ z) (sym (append_assoc w a s)) in
      let trees = built_means y ch.used.shape [] (w ++ a ++ s) (under_longer (thrown_from gs) (length v) (length y) (wait_longer k) (under h)) (relisted inner g) in
      let all = means_count trees in
      let items : t ++ (item ∷ (u ++ (q ++ r))) ≡ t ++ item ∷ u ++ q ++ r = three t (item ∷ u) (q ++ r) ∙ three (t ++ item ∷ u) q r in
      moved (shows_at (stands_separator h (links item (left_waits (w, a) is k) (hold o) m)) (framed refl refl trees)) cc
  more_shown {y = y} {t = t} w a u q Right ch n i j b kept item s r is h k g o m =
      let all = means_count g in
      let items : t ++ (item ∷ (u ++ (q ++ r))) ≡ t ++ item ∷ u ++ q ++ r = three t (item ∷ u) (q ++ r) ∙ three (t ++ item ∷ u) q r in
      moved (shows_at (stands_separator h (links item (from_right is k) (hold o) m)) (framed refl refl g)) cc

  linked_shown : {fs : List Frame} {gs : List OnFrame} {v w : List Tree} {g : RunTrees} {t u : List TrailItem} {x y z : List TapeMessage} {U W : Table} {error : TapeError} (a : List Tree) (q : List TrailItem) (f : Error) {linked : Linked} {i : ℕ} {l : OnLinks}
      (b c d : Bool) (j : ℕ) (e : Error) (s : List Tree) (r : List TrailItem) → Stands G fs gs v t x T → ShowsLinks v t x T linked i l w u y U → Means gs g (w ++ a ++ s) → Says y error (error_after d e f) z → Extends true U W →
      Shows G (next_link b (plain l.chain) (with_link (plain l.chain) linked a q e d s r f) (spot_at W j) fs)
      (tape_linked b l j (length (w ++ a)) (kept_at (length z) error) gs (link_forest l.chain.side l.chain.used.shape l.left g) (u ++ q ++ r) z W)
  linked_shown a q f true c d j e s r h (links {ch = ch} {w = w} {u = u} {n = n} {i = i} {c = b} {kept = kept} item k o l) g m p =
      more_shown w a u q ch.side ch n i j b kept item s r refl h k g (alone o m) (extends_both true true (extends_any l) p)
  linked_shown a q f false c d j e s r h k g m p = shows_endless

  pub operand_succeeded : {fs : List Frame} {gs : List OnFrame} {v w : List Tree} {g : RunTrees} {t u : List TrailItem} {x y z zs : List TapeMessage} {U V W : Table} {error : TapeError} {e f : Error} {linked : Linked} {i : ℕ} {l : OnLinks} {kept : KeptError}
      (a : List Tree) (q : List TrailItem) (c d : Bool) (j : ℕ) (s : List Tree) (r : List TrailItem) → Stands G fs gs v t x T → ShowsLinks v t x T linked i l w u y U → Holds y kept e z → Extends c U V → Means gs g (w ++ a ++ s) → Says z error f zs → Extends d V W →
      Shows G (hand_to_operand (plain l.chain) linked (spot_at U i) c a q e (ok d (spot_at W j) s r f) fs)
      (tape_to_operand l (record { consumed = c; kept = kept }) (length (w ++ a)) (Succeeded d j error) gs g (u ++ q ++ r) zs W)
  operand_succeeded {e = e} {f = f} a q c d j s r h k o l g m n =
      linked_shown a q f (c || d) c d j e s r h k g (after_says d o m) (extends_any (extends_both c d l n))

  pub operand_failed : {fs : List Frame} {gs : List OnFrame} {v w : List Tree} {g : RunTrees} {t u : List TrailItem} {x y z zs : List TapeMessage} {U V W : Table} {error : TapeError} {e f : Error} {linked : Linked} {i : ℕ} {l : OnLinks} {kept : KeptError}
      (a : List Tree) (q : List TrailItem) (c d : Bool) (s : List Tree) (r : List TrailItem) → Stands G fs gs v t x T → ShowsLinks v t x T linked i l w u y U → Holds y kept e z → Extends c U V → Means gs g (w ++ a ++ s) → Says z error f zs → Extends true V W →
      Shows G (hand_to_operand (plain l.chain) linked (spot_at U i) c a q e (failed d f) fs)
      (tape_to_operand l (record { consumed = c; kept = kept }) (length (w ++ a)) (Failed d error) gs g (u ++ q ++ r) zs W)
  operand_failed {w = w} {u = u} a q c d s r h k o l g m n =
      let y = three u q r in
      moved (ended_shown (c || d) (a ++ s) (q ++ r) h k (relisted (sym (three w a s)) g) (after_says d o m) (extends_both true true (extends_any l) n)) cc
