-- Links of a chain that is folded from the left: a link is a round of a separator and an operand.
use Rattle.std.proofs.Common.{◌≡◌, ◌∙◌, ◌<◌, ◌+◌, ℕ, zero, suc, List, [], ◌∷◌, ◌++◌, Bool, true, false, ◌||◌, refl, sym, ap, subst, Some, slice_get, append_assoc, arith}
use Rattle.pg_tree.specs.Trees.{Tree}
use Rattle.pg_tree.specs.Built.{built}
use Rattle.pg_tree.specs.declared.shape.Shape.{Shape}
use Rattle.pg_grammar_form.specs.declared.form.Form.TheVariants as form
use Rattle.pg_grammar_form.specs.declared.side.Side.TheVariants.{Left}
use Rattle.pg_grammar_form.specs.declared.used.ChainBuilder.{ChainBuilder}
use Rattle.pg_grammar_value.specs.declared.trail.TrailItem.{TrailItem}
use Rattle.pg_language.specs.Answers.{Given, Answers, AnswersForm, seq, part, AfterPart, part_last, part_failed, part_stuck, part_ok, AnswersLinks, link, separator_failed, separator_ok, operand_failed, operand_ok}
use Rattle.pg_language.specs.Derives.{Spot, carried}
use Rattle.pg_language.specs.Errors.{Error, merge, no_messages_at}
use Rattle.pg_language.specs.Outcomes.{Outcome, ok, failed, empty_round}
use Rattle.pg_language.specs.Reactions.{then_rest, error_after, as_finished}
use Rattle.pg_machine_plan.specs.Facts.{Outcomes}
use Rattle.pg_machine_plan.specs.Layout.{GoesRound, FoldsBack}
use Rattle.pg_machine_plan.specs.Plans.{Program, chosen}
use Rattle.pg_machine_quick.specs.Turns.{Frame, State, state, added, on_turn, run, folded, folded_by}
use Rattle.pg_machine_plan.specs.declared.instruction.Arm.{Arm}
use Rattle.pg_machine_plan.specs.declared.instruction.Instruction.TheVariants.{Jump, Pick, Fold}
use Rattle.pg_machine_plan.specs.declared.instruction.Keep.{Keep}
use Rattle.pg_machine_plan.specs.declared.instruction.Keep.TheVariants.{Kept, Hidden}
use Rattle.pg_machine_quick.proofs.Comes.{or_assoc, or_false, or_true, onward, Comes, Claim, turned, same_run, same_back, same_count}
use Rattle.pg_machine_plan.proofs.LeafVerdicts.{of_form}
use Rattle.pg_machine_quick.proofs.Rounds.{Round, ends, fails, goes_on, Folds, round_comes}

-- the outcomes of links after this forest, of any number
abbrev pub of_links : Given → Shape → ℕ → ℕ → List Tree → Spot → Outcomes
of_links G shape p q left a = λ o m. (k : ℕ) × AnswersLinks G Left shape p q left k a o m

-- ---- the chain, from the outcome of a separator and an operand in order

-- the links after them are so in the chain
record Onward (G : Given) (shape : Shape) (p q : ℕ) (left v : List Tree) (a b : Spot) (m : ℕ) : Type 0 where
  separator_consumed : Bool
  operand_consumed : Bool
  consumed : (separator_consumed || operand_consumed) ≡ true
  trail : List TrailItem
  more : List TrailItem
  error : Error
  other : Error
  separator : List Tree
  rest : (k : ℕ) (o : Outcome) (n : ℕ) → AnswersLinks G Left shape p q (built shape [] (left ++ v) ∷ []) k b o n →
      AnswersLinks G Left shape p q left (suc k) a
      (then_rest separator_consumed [] trail error (then_rest operand_consumed [] more other (as_finished Left shape left separator o))) (m + n)

-- what these two make of the chain, by their outcome
abbrev Chained : (G : Given) (shape : Shape) (p q : ℕ) (left : List Tree) (a : Spot) (o : Outcome) (m : ℕ) → Type 0
Chained G shape p q left a (ok true b v t e) m = Onward G shape p q left v a b m
Chained G shape p q left a (ok false b v t e) m = Unit {0}
Chained G shape p q left a (failed true e) m = (f : Error) × (k : ℕ) × AnswersLinks G Left shape p q left k a (failed true f) m
Chained G shape p q left a (failed false e) m = (f : Error) × (k : ℕ) × AnswersLinks G Left shape p q left k a (ok false a left [] f) m
Chained G shape p q left a empty_round m = Unit {0}

-- a separator that fails
after_failed : (G : Given) (shape : Shape) (p q : ℕ) (left : List Tree) (a : Spot) (c : Bool) (e : Error) (m : ℕ) → Answers G q a (failed c e) m →
    Chained G shape p q left a (failed c e) (m + zero)
after_failed G shape p q left a true e m d = (e, zero, link d separator_failed)
after_failed G shape p q left a false e m d = (merge e (no_messages_at a.place), zero, link d separator_failed)

-- an operand that fails, after a separator that was ok
after_lost : (G : Given) (shape : Shape) (p q : ℕ) (left : List Tree) (a b : Spot) (c d : Bool) (v : List Tree) (t : List TrailItem) (e f : Error) (m n : ℕ) →
    Answers G q a (ok c b v t e) m → Answers G p b (failed d f) n → Chained G shape p q left a (failed (c || d) (error_after d e f)) (m + (n + zero))
after_lost G shape p q left a b true d v t e f m n x y = (error_after d e f, zero, link x (separator_ok y operand_failed))
after_lost G shape p q left a b false true v t e f m n x y = (f, zero, link x (separator_ok y operand_failed))
after_lost G shape p q left a b false false v t e f m n x y =
    (merge (merge e f) (no_messages_at a.place), zero, link x (separator_ok y operand_failed))

-- both were ok
both_ok : (G : Given) (shape : Shape) (p q : ℕ) (left : List Tree) (a b d : Spot) (c y : Bool) (v w : List Tree) (t u : List TrailItem) (e f : Error) (m n : ℕ) →
    (c || y) ≡ true → Answers G q a (ok c b v t e) m → Answers G p b (ok y d w u f) n → Onward G shape p q left (v ++ w) a d (m + (n + zero))
both_ok G shape p q left a b d c y v w t u e f m n h x z = record {
  separator_consumed = c;
  operand_consumed = y;
  consumed = h;
  trail = t;
  more = u;
  error = e;
  other = f;
  separator = v;
  rest = λ k o j r.
      let apart : left ++ (v ++ w) ≡ left ++ v ++ w = sym (append_assoc left v w) in
      let s : AnswersLinks G Left shape p q (carried Left shape left v w) k d o j =
      subst (λ g. AnswersLinks G Left shape p q (built shape [] g ∷ []) k d o j) apart r in
      let counted : m + (n + j) ≡ m + (n + zero) + j = omega arith in
      subst (AnswersLinks G Left shape p q left (suc k) a (then_rest c [] t e (then_rest y [] u f (as_finished Left shape left v o)))) counted
      (link x (separator_ok z (operand_ok h s)));
}

both_chained : (G : Given) (shape : Shape) (p q : ℕ) (left : List Tree) (a b d : Spot) (c y : Bool) (v w : List Tree) (t u : List TrailItem) (e f : Error) (m n : ℕ) →
    Answers G q a (ok c b v t e) m → Answers G p b (ok y d w u f) n →
    Chained G shape p q left a (ok (c || y) d (v ++ w) (t ++ u) (error_after y e f)) (m + (n + zero))
both_chained G shape p q left a b d true y v w t u e f m n x z = both_ok G shape p q left a b d true y v w t u e f m n refl x z
both_chained G shape p q left a b d false true v w t u e f m n x z = both_ok G shape p q left a b d false true v w t u e f m n refl x z
both_chained G shape p q left a b d false false v w t u e f m n x z = tt

with_operand : (G : Given) (shape : Shape) (p q : ℕ) (left : List Tree) (a b : Spot) (c : Bool) (v : List Tree) (t : List TrailItem) (e : Error) (m n : ℕ) (o : Outcome) →
    Answers G q a (ok c b v t e) m → Answers G p b o n → Chained G shape p q left a (then_rest c v t e o) (m + (n + zero))
with_operand G shape p q left a b c v t e m n (ok y d w u f) x z = both_chained G shape p q left a b d c y v w t u e f m n x z
with_operand G shape p q left a b c v t e m n (failed y f) x z = after_lost G shape p q left a b c y v t e f m n x z
with_operand G shape p q left a b c v t e m n empty_round x z = tt

after_separator : (G : Given) (shape : Shape) (p q : ℕ) (left : List Tree) (a : Spot) (x o : Outcome) (m n : ℕ) → Answers G q a x m → AfterPart G (p ∷ []) x o n →
    Chained G shape p q left a o (m + n)
after_separator G shape p q left a (ok c b v t e) o m n d (part_ok (part {m = i} {x = y} z part_last)) = with_operand G shape p q left a b c v t e m i y d z
after_separator G shape p q left a (failed c e) o m n d part_failed = after_failed G shape p q left a c e m d
after_separator G shape p q left a empty_round o m n d part_stuck = tt

-- a separator and an operand make this of the chain
chained : (G : Given) (shape : Shape) (p q : ℕ) (left : List Tree) (a : Spot) (o : Outcome) (m : ℕ) → AnswersForm G (form.Seq (q ∷ p ∷ [])) a o m →
    Chained G shape p q left a o m
chained G shape p q left a o m (seq (part {m = i} {n = j} {x = x} d r)) = after_separator G shape p q left a x o i j d r

-- ---- runs

-- after links, the run goes on as after the chain of all
on_linked : (P : Program) (l : ℕ) (keep : Keep) (end : ℕ) (k : List Frame) (x : Bool) (n : ℕ) (t : State) (c d : Bool) (i j : List TrailItem) (e g : Error)
    (shape : Shape) (left v : List Tree) (o : Outcome) → (c || d) ≡ true → onward P l keep end k [] (x || true) o n ≡ Some t →
    onward P l keep end k [] x (then_rest c [] i e (then_rest d [] j g (as_finished Left shape left v o))) n ≡ Some t
on_linked P l keep end k x n t c d i j e g shape left v (ok y b w u f) h on =
    same_run P l end b k (added keep [] w) (added keep [] w) n n ((x || true) || y) (x || (c || (d || y))) t refl refl
    (or_assoc x true y ∙ ap (λ z. x || (z || y)) (sym h) ∙ ap (λ z. x || z) (or_assoc c d y)) on
on_linked P l keep end k x n t c d i j e g shape left v (failed y f) h on =
    same_back P l k n ((x || true) || y) (x || (c || (d || y))) t
    (or_assoc x true y ∙ ap (λ z. x || (z || y)) (sym h) ∙ ap (λ z. x || z) (or_assoc c d y)) on
on_linked P l keep end k x n t c d i j e g shape left v empty_round h on = on

-- the forest of a chain becomes one tree
folds : (P : Program) (keep : Keep) (r p q head : ℕ) (used : ChainBuilder) → slice_get P.given.grammar.nodes r ≡ Some (form.Chain Left used p q) →
    Folds P head (FoldsBack P.plan keep r head) (folded_by keep used)
folds P keep r p q head used is = λ l z t leads on.
    let u = turned P l z t (Fold keep r) leads.fold on in
    let counted = u.counted in
    let y : State = state (z.pc + 1) z.spot z.stack (folded_by keep used z.forest) z.nodes z.taken in
    let g : run P u.left y ≡ Some t = ap (λ n. on_turn (folded keep z n) (λ y. run P u.left y)) (sym is) ∙ u.on in
    let w = turned P u.left y t (Jump head) leads.jump g in
    let less = w.counted in
    (w.left, omega arith, w.on)

folded_links : (keep : Keep) (used : ChainBuilder) (left v : List Tree) →
    folded_by keep used (added keep (added keep [] left) v) ≡ added keep [] (built used.shape [] (left ++ v) ∷ [])
folded_links Kept used left v = refl
folded_links Hidden used left v = refl

-- what is at the head of a chain's links
pub record IsLinkHead (P : Program) (keep : Keep) (r head table out p q : ℕ) (used : ChainBuilder) : Type 0 where
  pub chain : slice_get P.given.grammar.nodes r ≡ Some (form.Chain Left used p q)
  pub pick : slice_get P.plan.code head ≡ Some (Pick table)
  pub arms : (a : Spot) (arm : Arm) → chosen P.plan table (slice_get P.given.text a.place) ≡ Some arm →
      GoesRound P keep head out a arm q (p ∷ []) (FoldsBack P.plan keep r head)

after_link : (P : Program) (n : ℕ) (keep : Keep) (head out p q : ℕ) (used : ChainBuilder) (left : List Tree) (a : Spot) (k : List Frame) (c : ℕ) (x : Bool) (t : State) →
    Round P n keep head out (state head a k (added keep [] left) c x) t (of_form P.given (form.Seq (q ∷ p ∷ [])) a) (folded_by keep used) →
    ((l : ℕ) (b : Spot) (other : List Tree) (d : ℕ) (y : Bool) → l < n → run P l (state head b k (added keep [] other) d y) ≡ Some t →
    Comes P l keep out (state head b k [] d y) t (of_links P.given used.shape p q other b)) →
    Comes P n keep out (state head a k [] c x) t (of_links P.given used.shape p q left a)
after_link P n keep head out p q used left a k c x t (ends {l = l} {m = m} {e = e} few d on) rest =
    let y = chained P.given used.shape p q left a (failed false e) m d in
    record {
      left = l;
      fewer = few;
      outcome = ok false a left [] y.0;
      nodes = m;
      has = (y.1, y.2);
      on = same_run P l out a k (added keep [] left) (added keep [] left) (c + m) (c + m) x (x || false) t refl refl (or_false x) on;
    }
after_link P n keep head out p q used left a k c x t (fails {l = l} {m = m} {e = e} few d on) rest =
    let y = chained P.given used.shape p q left a (failed true e) m d in
    record {
      left = l;
      fewer = few;
      outcome = failed true y.0;
      nodes = m;
      has = (y.1, y.2);
      on = same_back P l k (c + m) true (x || true) t (or_true x) on;
    }
after_link P n keep head out p q used left a k c x t (goes_on {l = l} {m = m} {b = b} {v = v} {i = i} {e = e} few d on) rest =
    let y = chained P.given used.shape p q left a (ok true b v i e) m d in
    let other : List Tree = built used.shape [] (left ++ v) ∷ [] in
    let g : run P l (state head b k (added keep [] other) (c + m) (x || true)) ≡ Some t =
    same_run P l head b k (folded_by keep used (added keep (added keep [] left) v)) (added keep [] other) (c + m) (c + m) (x || true) (x || true) t
    (folded_links keep used left v) refl refl on in
    let r = rest l b other (c + m) (x || true) few g in
    let less = r.fewer in
    let links = r.has in
    let o : Outcome = then_rest y.separator_consumed [] y.trail y.error (then_rest y.operand_consumed [] y.more y.other (as_finished Left used.shape left y.separator r.outcome)) in
    record {
      left = r.left;
      fewer = omega arith;
      outcome = o;
      nodes = m + r.nodes;
      has = (suc links.0, y.rest links.0 r.outcome r.nodes links.1);
      on = same_count P r.left keep out k [] x o (c + m + r.nodes) (c + (m + r.nodes)) t (omega arith)
          (on_linked P r.left keep out k x (c + m + r.nodes) t y.separator_consumed y.operand_consumed y.trail y.more y.error y.other used.shape left y.separator
          r.outcome y.consumed r.on);
    }

-- from the head on, by a bound on the turns
pub links_come : (P : Program) (N : ℕ) → Claim P N → (B n : ℕ) (keep : Keep) (r head table out p q : ℕ) (used : ChainBuilder) (left : List Tree) (a : Spot) (k : List Frame)
    (c : ℕ) (x : Bool) (t : State) → IsLinkHead P keep r head table out p q used → n < B → n < N → run P n (state head a k (added keep [] left) c x) ≡ Some t →
    Comes P n keep out (state head a k [] c x) t (of_links P.given used.shape p q left a)
links_come P N claim zero n keep r head table out p q used left a k c x t is less below on = absurd (omega arith)
links_come P N claim (suc B) n keep r head table out p q used left a k c x t is less below on =
    after_link P n keep head out p q used left a k c x t
    (round_comes P N claim n keep table out q (p ∷ []) (state head a k (added keep [] left) c x) t (FoldsBack P.plan keep r head) (folded_by keep used) below
    (folds P keep r p q head used is.chain) is.pick (is.arms a) on)
    (λ l b other d y few g. links_come P N claim B l keep r head table out p q used other b k d y t is (omega arith) (omega arith) g)
