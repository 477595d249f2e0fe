-- Links of chains that are folded from the right.
use Rattle.std.proofs.Common.{◌≡◌, ◌<◌, ◌≤◌, ◌+◌, ℕ, zero, suc, List, [], ◌∷◌, ◌++◌, Bool, true, false, ◌||◌, refl, sym, ap, subst, Option, Some, slice_get, arith}
use Rattle.pg_tree.specs.Trees.{Tree}
use Rattle.pg_tree.specs.Built.{built}
use Rattle.pg_tree.specs.declared.shape.Shape.{Shape}
use Rattle.pg_grammar_form.specs.Forms.{Node}
use Rattle.pg_grammar_form.specs.declared.decl.Role.TheVariants.{InfixRight}
use Rattle.pg_grammar_form.specs.declared.form.Form.TheVariants as form
use Rattle.pg_grammar_form.specs.declared.side.Side.TheVariants.{Right}
use Rattle.pg_grammar_form.specs.declared.used.ChainBuilder.{ChainBuilder}
use Rattle.pg_grammar_value.specs.declared.trail.TrailItem.{TrailItem}
use Rattle.pg_language.specs.Answers.{Given, Answers, AnswersLinks, link, separator_failed, separator_ok, operand_failed, operand_ok}
use Rattle.pg_language.specs.Derives.{Spot}
use Rattle.pg_language.specs.Errors.{Error, merge, no_messages_at}
use Rattle.pg_language.specs.Outcomes.{Outcome, ok, failed, empty_round}
use Rattle.pg_language.specs.Reactions.{then_rest, as_finished, error_after}
use Rattle.pg_table.specs.Tables.{Table}
use Rattle.pg_machine_plan.specs.Facts.{Outcomes}
use Rattle.pg_machine_plan.specs.Layout.{IsNoted, GoesRound, ComesTo}
use Rattle.pg_machine_plan.specs.Plans.{Program, chosen}
use Rattle.pg_machine_plan.specs.declared.instruction.Arm.{Arm}
use Rattle.pg_machine_plan.specs.declared.instruction.Instruction.TheVariants.{Pick, Link, FoldLinks}
use Rattle.pg_machine_plan.specs.declared.instruction.Keep.{Keep}
use Rattle.pg_machine_plan.specs.declared.instruction.Keep.TheVariants.{Kept, Hidden}
use Rattle.pg_machine_plan.proofs.LeafVerdicts.{of_form}
use Rattle.pg_machine_plan.proofs.Verdicts.{alone}
use Rattle.pg_machine_quick.specs.Turns.{Frame, operates, State, state, added, folded_by, links_folded, run}
use Rattle.pg_machine_quick.proofs.Comes.{or_assoc, or_false, or_true, true_stays, onward, Comes, Claim, turned, comes_to, was_picked, same_run, same_back, same_count}
use Rattle.pg_machine_quick.proofs.Rounds.{Round, ends, fails, goes_on, by_arm, part_of, jumps}
use Rattle.pg_machine_quick.proofs.RowTurns.{went, Onto}

-- the outcomes of links after this forest, of any number
abbrev pub of_right_links : Given → Shape → ℕ → ℕ → List Tree → Spot → Outcomes
of_right_links G shape p q left a = λ o m. (k : ℕ) × AnswersLinks G Right shape p q left k a o m

-- what is at the head of a chain's links, and where a link is noted
pub record IsRightHead (P : Program) (keep : Keep) (r head table round out p q : ℕ) (used : ChainBuilder) : Type 0 where
  pub chain : slice_get P.given.grammar.nodes r ≡ Some (form.Chain Right used p q)
  pub pick : slice_get P.plan.code head ≡ Some (Pick table)
  pub arms : (a : Spot) (arm : Arm) → chosen P.plan table (slice_get P.given.text a.place) ≡ Some arm → GoesRound P keep (head + 1) out a arm q [] (ComesTo P.plan (head + 1))
  pub link : slice_get P.plan.code (head + 1) ≡ Some Link
  pub operand : IsNoted P keep p (head + 2) round
  pub comes : ComesTo P.plan head round
  pub folds : slice_get P.plan.code out ≡ Some (FoldLinks keep r)

-- ---- reactions

on_rest : (P : Program) (l : ℕ) (keep : Keep) (end : ℕ) (k : List Frame) (x : Bool) (n : ℕ) (t : State) (c : Bool) (i : List TrailItem) (e : Error) (o : Outcome) →
    onward P l keep end k [] (x || c) o n ≡ Some t → onward P l keep end k [] x (then_rest c [] i e o) n ≡ Some t
on_rest P l keep end k x n t c i e (ok d b w u g) h =
    same_run P l end b k (added keep [] w) (added keep [] w) n n ((x || c) || d) (x || (c || d)) t refl refl (or_assoc x c d) h
on_rest P l keep end k x n t c i e (failed d g) h = same_back P l k n ((x || c) || d) (x || (c || d)) t (or_assoc x c d) h
on_rest P l keep end k x n t c i e empty_round h = h

linked_forest : (keep : Keep) (used : ChainBuilder) (left v w : List Tree) →
    folded_by keep used (added keep (added keep [] left) v ++ added keep [] w) ≡ added keep [] (built used.shape [] (left ++ v ++ w) ∷ [])
linked_forest Kept used left v w = refl
linked_forest Hidden used left v w = refl

-- what waits is folded with what came after it
folds_on : (P : Program) (l r p q end : ℕ) (keep : Keep) (used : ChainBuilder) (rank i c : ℕ) (left v : List Tree) (T : Table) (k : List Frame) (x : Bool) (o : Outcome) (n : ℕ) (t : State) →
    slice_get P.given.grammar.nodes r ≡ Some (form.Chain Right used p q) → slice_get P.plan.code end ≡ Some (FoldLinks keep r) →
    onward P l keep end (operates rank InfixRight i c (added keep (added keep [] left) v) T ∷ k) [] x o n ≡ Some t →
    Onto P l keep end k x (as_finished Right used.shape left v o) n t
folds_on P l r p q end keep used rank i c left v T k x (ok d b w u g) n t chain code on =
    let f : List Tree = added keep (added keep [] left) v in
    let z : State = state end b (operates rank InfixRight i c f T ∷ k) (added keep [] w) n (x || d) in
    let y = went P l z (state end b k (folded_by keep used (f ++ added keep [] w)) n (x || d)) t (FoldLinks keep r) code
    (ap (λ (m : Option Node). links_folded keep z m) chain) on in
    let few = y.fewer in
    record {
      left = y.left;
      most = omega arith;
      on = same_run P y.left end b k (folded_by keep used (f ++ added keep [] w)) (added keep [] (built used.shape [] (left ++ v ++ w) ∷ [])) n n (x || d) (x || d) t
          (linked_forest keep used left v w) refl refl y.on;
    }
folds_on P l r p q end keep used rank i c left v T k x (failed d e) n t chain code on = record { left = l; most = omega arith; on = on }
folds_on P l r p q end keep used rank i c left v T k x empty_round n t chain code on = absurd (cc)

-- ---- links

module _ (P : Program) (N : ℕ) (claim : Claim P N) (keep : Keep) (r head table round out p q : ℕ) (used : ChainBuilder)
    (is : IsRightHead P keep r head table round out p q used) where
  -- the runs from the head on, of fewer turns
  abbrev Rest : ℕ → State → Type 0
  Rest n t = (l : ℕ) (a : Spot) (k : List Frame) (left : List Tree) (c : ℕ) (x : Bool) → l < n → run P l (state head a k (added keep [] left) c x) ≡ Some t →
      Comes P l keep out (state head a k [] c x) t (of_right_links P.given used.shape p q left a)

  -- the operand after a separator has come
  operand_came : (n l m j : ℕ) (left v : List Tree) (a b : Spot) (i : List TrailItem) (e : Error) (k : List Frame) (c : ℕ) (x : Bool) (t : State) (o : Outcome) → l < n →
      Answers P.given q a (ok true b v i e) m → Answers P.given p b o j → Rest n t →
      onward P l keep round (operates 0 InfixRight b.place 0 (added keep (added keep [] left) v) b.table ∷ k) [] (x || true) o (c + m + j) ≡ Some t →
      Comes P n keep out (state head a k [] c x) t (of_right_links P.given used.shape p q left a)
  operand_came n l m j left v a b i e k c x t (ok d b1 w u g) less first second rest on =
      let f : List Tree = added keep (added keep [] left) v in
      let k1 : List Frame = operates 0 InfixRight b.place 0 f b.table ∷ k in
      let back = comes_to P head l (state round b1 k1 (added keep [] w) (c + m + j) ((x || true) || d)) t is.comes on in
      let few = back.1 in
      let y = rest back.0 b1 k1 w (c + m + j) ((x || true) || d) (omega arith) back.2 in
      let fewer = y.fewer in
      let links = y.has in
      let z = folds_on P y.left r p q out keep used 0 b.place 0 left v b.table k ((x || true) || d) y.outcome (c + m + j + y.nodes) t is.chain is.folds y.on in
      let most = z.most in
      let inner : Outcome = as_finished Right used.shape left v y.outcome in
      let o : Outcome = then_rest true [] i e (then_rest d [] u g inner) in
      record {
        left = z.left;
        fewer = omega arith;
        outcome = o;
        nodes = m + (j + y.nodes);
        has = (suc links.0, link first (separator_ok second (operand_ok refl links.1)));
        on = same_count P z.left keep out k [] x o (c + m + j + y.nodes) (c + (m + (j + y.nodes))) t (omega arith)
            (on_rest P z.left keep out k x (c + m + j + y.nodes) t true i e (then_rest d [] u g inner)
            (on_rest P z.left keep out k (x || true) (c + m + j + y.nodes) t d u g inner z.on));
      }
  operand_came n l m j left v a b i e k c x t (failed d g) less first second rest on =
      let count : m + (j + zero) ≡ m + j = omega arith in
      record {
        left = l;
        fewer = less;
        outcome = failed true (error_after d e g);
        nodes = m + j;
        has = (zero, subst (AnswersLinks P.given Right used.shape p q left zero a (failed true (error_after d e g))) count (link first (separator_ok second operand_failed)));
        on = same_count P l keep out k [] x (failed true (error_after d e g)) (c + m + j) (c + (m + j)) t (omega arith)
            (same_back P l k (c + m + j) ((x || true) || d) (x || true) t (true_stays x d) on);
      }
  operand_came n l m j left v a b i e k c x t empty_round less first second rest on = absurd (cc)

  -- a separator has come
  after_round : (n : ℕ) (left : List Tree) (a : Spot) (k : List Frame) (c : ℕ) (x : Bool) (t : State) → n ≤ N →
      Round P n keep (head + 1) out (state head a k (added keep [] left) c x) t (of_form P.given (form.Seq (q ∷ [])) a) (λ g. g) → Rest n t →
      Comes P n keep out (state head a k [] c x) t (of_right_links P.given used.shape p q left a)
  after_round n left a k c x t below (ends {l = l} {m = m} {e = e} few d on) rest = record {
    left = l;
    fewer = few;
    outcome = ok false a left [] (merge e (no_messages_at a.place));
    nodes = m;
    has = (
      zero,
      subst (AnswersLinks P.given Right used.shape p q left zero a (ok false a left [] (merge e (no_messages_at a.place)))) (alone m)
          (link (part_of P.given q a (failed false e) m d) separator_failed),
    );
    on = same_run P l out a k (added keep [] left) (added keep [] left) (c + m) (c + m) x (x || false) t refl refl (or_false x) on;
  }
  after_round n left a k c x t below (fails {l = l} {m = m} {e = e} few d on) rest = record {
    left = l;
    fewer = few;
    outcome = failed true e;
    nodes = m;
    has = (zero, subst (AnswersLinks P.given Right used.shape p q left zero a (failed true e)) (alone m) (link (part_of P.given q a (failed true e) m d) separator_failed));
    on = same_back P l k (c + m) true (x || true) t (or_true x) on;
  }
  after_round n left a k c x t below (goes_on {l = l} {m = m} {b = b} {v = v} {i = i} {e = e} few d on) rest =
      let f : List Tree = added keep (added keep [] left) v in
      let k1 : List Frame = operates 0 InfixRight b.place 0 f b.table ∷ k in
      let y = went P l (state (head + 1) b k f (c + m) (x || true)) (state (head + 1 + 1) b k1 [] (c + m) (x || true)) t Link is.link refl on in
      let fewer = y.fewer in
      let two : head + 1 + 1 ≡ head + 2 = omega arith in
      let z = claim y.left keep p round (state (head + 2) b k1 [] (c + m) (x || true)) t (omega arith) is.operand
      (subst (λ pc. run P y.left (state pc b k1 [] (c + m) (x || true)) ≡ Some t) two y.on) in
      let less = z.fewer in
      operand_came n z.left m z.nodes left v a b i e k c x t z.outcome (omega arith) (part_of P.given q a (ok true b v i e) m d) z.has rest z.on

  -- from the head on, by a bound on the turns
  pub right_links_come : (B n : ℕ) (left : List Tree) (a : Spot) (k : List Frame) (c : ℕ) (x : Bool) (t : State) → n < B → n < N →
      run P n (state head a k (added keep [] left) c x) ≡ Some t → Comes P n keep out (state head a k [] c x) t (of_right_links P.given used.shape p q left a)
  right_links_come zero n left a k c x t less below on = absurd (omega arith)
  right_links_come (suc B) n left a k c x t less below on =
      let z : State = state head a k (added keep [] left) c x in
      let u = turned P n z t (Pick table) is.pick on in
      let counted = u.counted in
      let w = was_picked P u.left z t (chosen P.plan table (slice_get P.given.text a.place)) u.on in
      after_round n left a k c x t (omega arith)
      (subst (λ i. Round P i keep (head + 1) out z t (of_form P.given (form.Seq (q ∷ [])) a) (λ g. g)) (sym counted)
      (by_arm P N claim u.left keep (head + 1) out w.arm q [] z t (ComesTo P.plan (head + 1)) (λ g. g) (omega arith) (jumps P (head + 1)) (is.arms a w.arm w.is) w.on))
      (λ l b k1 other d y few g. right_links_come B l other b k1 d y t (omega arith) (omega arith) g)
