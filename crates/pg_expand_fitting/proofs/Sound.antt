-- What is taken is read of operators that wait and of an operand, all of which fit, so that its end is a tree that fits.
use Rattle.std.proofs.Common.{◌≡◌, ◌<◌, ◌≤◌, Bool, true, false, List, [], ◌∷◌, ◌++◌, inl, refl, sym, ap, subst, ◌∙◌, append_assoc, append-nil, arith}
use Rattle.std.specs.Prelude.{Option, None, Some, is_some, map, option_map, option_and_then, if◌then◌else◌}
use Rattle.std.specs.List.{AllByRecursion}
use Rattle.pg_grammar_form.specs.Operators.{Operator, IsOperator}
use Rattle.pg_grammar_form.specs.declared.decl.Role.{Role}
use Rattle.pg_grammar_form.specs.declared.decl.Role.TheVariants.{InfixLeft, InfixRight, InfixNone, Prefix, Postfix}
use Rattle.pg_grammar_value.specs.declared.trail.AppliedOperator.{AppliedOperator}
use Rattle.pg_grammar_value.specs.declared.trail.Fixity.{Fixity}
use Rattle.pg_grammar_value.specs.declared.trail.Fixity.TheVariants as fixity
use Rattle.pg_table.specs.Fitting.{Expression, term, prefixed, postfixed, joined, row, IsInfix, IsAmong, IsFittingSide, IsFitting}
use Rattle.pg_table.specs.Trails.{applied, operators_read}
use Rattle.pg_expand.specs.Lookups.{Groups, IsLookupOf}
use Rattle.pg_expand.proofs.Levels.{to_member, held, row_held, prefix_role, postfix_role, digit}
use Rattle.pg_expand_fitting.specs.Steps.{Step, a_symbol, an_application, steps_of, HasTree, IsJudged}
use Rattle.pg_expand_fitting.specs.Judge.{Known, Judge, Closed, is_infix, stands_on, goes_under, top_takes, closed_until, closed_by, closed_for, waits, before as before_of, placed, placed_if, between_closed, after_closed, first_known, known_in, known_by, judged, all_applied, finished, beginning, judgement}
use Rattle.pg_expand_fitting.proofs.Waiting.{Waiting, before, between, closed, read_before, done_before, closed-read, closed-done, known, known_waiting, root, root-closed, applied-waiting, FitsUnder, IsWaiting, FitsTop, AreWaiting, closed_fits}
use Rattle.pg_expand_fitting.proofs.Places.{top_fits, left_fits, postfix_fits}
use Rattle.pg_expand_fitting.proofs.Found.{of_table}
use Rattle.pg_expand_fitting.proofs.Complete.{judge_at, closed_at, operand_at, applied_at, one_applied, tree_judged}

-- the choice of a test comes to something only where the test holds
taken_if : {X : Type 0} (b : Bool) (x y : X) → (if b then Some x else None) ≡ Some y → (b ≡ true) × (x ≡ y)
taken_if true x y e = let same : x ≡ y = cc in (refl, same)
taken_if false x y e = absurd cc

-- and of two tests, only where the first doesn't hold and the second does
taken_unless : {X : Type 0} (b c : Bool) (x y : X) → (if b then None else if c then Some x else None) ≡ Some y → (b ≡ false) × (c ≡ true) × (x ≡ y)
taken_unless true c x y e = absurd cc
taken_unless false c x y e = let there = taken_if c x y e in (refl, there.0, there.1)

infix_role : (r : Role) → is_infix r ≡ true → IsInfix r
infix_role InfixLeft e = tt
infix_role InfixRight e = tt
infix_role InfixNone e = tt
infix_role Prefix e = absurd cc
infix_role Postfix e = absurd cc

module _ (operators : List Operator) (digits : AllByRecursion IsOperator operators) where
  -- the rows of operators are numbered from 1
  row_above : (o : Operator) → IsAmong operators o → 0 < row operators o
  row_above o m =
      let member = to_member operators o m in
      let low = digit operators o digits member in
      let up = row_held operators o.precedence (omega arith) (held operators o member) in
      omega arith

  term_under : (ws : List Waiting) → ((w : Waiting) (more : List Waiting) → ws ≡ w ∷ more → IsWaiting operators w) → FitsTop operators ws term
  term_under [] h = tt
  term_under (before o ∷ ws) h = row_above o (h (before o) ws refl).0
  term_under (between o l ∷ ws) h = inl_lower o (row_above o (h (between o l) ws refl).0)
    where
      inl_lower : (o : Operator) → 0 < row operators o → IsFittingSide operators InfixRight o term
      inl_lower o l = inl (inl l)

  -- ---- what waits

  -- where these wait for the tree as their last operand, they fit
  all_wait : (ws : List Waiting) (x : Expression) → AreWaiting operators ws x → (w : Waiting) (more : List Waiting) → ws ≡ w ∷ more → IsWaiting operators w
  all_wait [] x h w more e = absurd cc
  all_wait (v ∷ ws) x h w more e = subst (IsWaiting operators) (let same : v ≡ w = cc in same) h.1

  -- what waits with the newest may take another tree that goes there
  rest_waits : (ws : List Waiting) (x y : Expression) → AreWaiting operators ws x → FitsTop operators ws y → AreWaiting operators ws y
  rest_waits [] x y h f = tt
  rest_waits (before o ∷ ws) x y h f = (f, h.1, rest_waits ws (prefixed o x) (prefixed o y) h.2 (same_top ws h.2))
    where
      same_top : (ws : List Waiting) → AreWaiting operators ws (prefixed o x) → FitsTop operators ws (prefixed o y)
      same_top [] h = tt
      same_top (before p ∷ ws) h = h.0
      same_top (between p l ∷ ws) h = h.0
  rest_waits (between o l ∷ ws) x y h f = (f, h.1, rest_waits ws (joined o l x) (joined o l y) h.2 (same_top ws h.2))
    where
      same_top : (ws : List Waiting) → AreWaiting operators ws (joined o l x) → FitsTop operators ws (joined o l y)
      same_top [] h = tt
      same_top (before p ∷ ws) h = h.0
      same_top (between p l ∷ ws) h = h.0

  -- these wait for a tree, which fits, and of all that this was read
  pub record IsRead (ws : List Waiting) (x : Expression) (read : List AppliedOperator) : Type 0 where
    pub waiting : AreWaiting operators ws x
    pub fits : IsFitting operators x
    pub all : read_before ws ++ operators_read x ≡ read

  one_closed : (w : Waiting) (ws : List Waiting) (x : Expression) (read : List AppliedOperator) → IsRead (w ∷ ws) x read → IsRead ws (closed w x) read
  one_closed w ws x read h = record {
    waiting = h.waiting.2;
    fits = closed_fits operators w x h.waiting.1 h.fits h.waiting.0;
    all = sym (closed-read w ws x) ∙ h.all;
  }

  -- what waits after some of it was applied
  pub record IsClosed (k : Known) (read : List AppliedOperator) (c : Closed) : Type 0 where
    pub waiting : List Waiting
    pub tree : Expression
    pub same : c ≡ closed_at operators waiting tree
    pub is_read : IsRead waiting tree read
    pub takes : top_takes c.waiting k ≡ true

  closed_sound : (k : Known) (ws : List Waiting) (x : Expression) (read : List AppliedOperator) → IsRead ws x read → IsClosed k read (closed_by k (closed_at operators ws x))
  closed_sound k [] x read h = record { waiting = []; tree = x; same = refl; is_read = h; takes = refl }
  closed_sound k (w ∷ ws) x read h = by_test (goes_under (known_waiting operators w) k) refl (closed_sound k ws (closed w x) read (one_closed w ws x read h))
    where
      went : closed_by k (closed_at operators ws (closed w x)) ≡ closed_until k (map (known_waiting operators) ws) (Some (known_waiting operators w)) ((done_before (w ∷ ws) ++ steps_of x) ++ an_application (known_waiting operators w).applied ∷ [])
      went =
          ap (λ r. closed_until k (map (known_waiting operators) ws) r (done_before ws ++ steps_of (closed w x))) (root-closed operators w x)
          ∙ ap (closed_until k (map (known_waiting operators) ws) (Some (known_waiting operators w))) (sym (closed-done w ws x))
          ∙ ap (λ a. closed_until k (map (known_waiting operators) ws) (Some (known_waiting operators w)) ((done_before (w ∷ ws) ++ steps_of x) ++ an_application a ∷ [])) (sym (applied-waiting operators w))

      by_test : (b : Bool) → goes_under (known_waiting operators w) k ≡ b → IsClosed k read (closed_by k (closed_at operators ws (closed w x))) →
          IsClosed k read (if b then record { waiting = known_waiting operators w ∷ map (known_waiting operators) ws; root = root operators x; steps = done_before (w ∷ ws) ++ steps_of x }
          else closed_until k (map (known_waiting operators) ws) (Some (known_waiting operators w)) ((done_before (w ∷ ws) ++ steps_of x) ++ an_application (known_waiting operators w).applied ∷ []))
      by_test true e rest = record { waiting = w ∷ ws; tree = x; same = refl; is_read = h; takes = e }
      by_test false e rest = subst (IsClosed k read) went rest

  -- ---- what was taken

  -- the judge is where these wait, and this operand was read last, or a term is to come
  pub record IsAt (read : List AppliedOperator) (s : Judge) : Type 0 where
    pub waiting : List Waiting
    pub tree : Expression
    pub same : s ≡ judge_at operators waiting tree
    pub is_read : IsRead waiting tree read

  closed_for_sound : (k : Known) (read : List AppliedOperator) (s : Judge) → IsAt read s → IsClosed k read (closed_for k s)
  closed_for_sound k read s h =
      let there : closed_for k (judge_at operators h.waiting h.tree) ≡ closed_by k (closed_at operators h.waiting h.tree) = ap (closed_by k) (operand_at operators h.waiting h.tree) in
      subst (IsClosed k read) (sym (ap (closed_for k) h.same ∙ there)) (closed_sound k h.waiting h.tree read h.is_read)

  -- a tree without an operator that was read last is a term
  no_root : (x : Expression) → root operators x ≡ None → x ≡ term
  no_root term e = refl
  no_root (prefixed o x) e = absurd cc
  no_root (postfixed o x) e = absurd cc
  no_root (joined o x y) e = absurd cc

  no_last : (o : Option Known) → is_some o ≡ false → o ≡ None
  no_last None e = refl
  no_last (Some k) e = absurd cc

  -- a term is to come after the operator
  waits_at : (w : Waiting) (ws : List Waiting) (read : List AppliedOperator) (a : AppliedOperator) (s : Judge) (steps : List Step) → IsWaiting operators w → AreWaiting operators ws (closed w term) →
      read_before (w ∷ ws) ≡ read ++ a ∷ [] → done_before (w ∷ ws) ≡ steps → record { waiting = known_waiting operators w ∷ map (known_waiting operators) ws; last = None; steps = steps } ≡ s → IsAt (read ++ a ∷ []) s
  waits_at w ws read a s steps h rest all done same = record {
    waiting = w ∷ ws;
    tree = term;
    same = sym same ∙ ap (λ z. let s : Judge = record { waiting = known_waiting operators w ∷ map (known_waiting operators) ws; last = None; steps = z } in s) (sym done);
    is_read = record {
      waiting = (top w h, h, rest);
      fits = tt;
      all = append-nil (read_before (w ∷ ws)) ∙ all;
    };
  }
    where
      top : (w : Waiting) → IsWaiting operators w → FitsUnder operators w term
      top (before o) h = row_above o h.0
      top (between o l) h = inl (inl (row_above o h.0))

  before_at : (o : Operator) (read : List AppliedOperator) (ws : List Waiting) (x : Expression) (s : Judge) → IsAmong operators o → o.role ≡ Prefix → IsRead ws x read →
      before_of (known operators fixity.Prefix o) (judge_at operators ws x) ≡ Some s → IsAt (read ++ applied fixity.Prefix o ∷ []) s
  before_at o read ws x s m e h t =
      let went = taken_unless _ _ _ _ t in
      let is : x ≡ term = no_root x (no_last (root operators x) went.0) in
      let all : read_before ws ≡ read = sym (append-nil (read_before ws)) ∙ ap (λ y. read_before ws ++ operators_read y) (sym is) ∙ h.all in
      let fits : IsFitting operators (prefixed o term) = (m, e, tt, row_above o m) in
      let goes = top_fits operators ws (prefixed o term) (known operators fixity.Prefix o) fits refl went.1 (all_wait ws x h.waiting) in
      waits_at (before o) ws read (applied fixity.Prefix o) s (done_before ws ++ a_symbol (applied fixity.Prefix o) ∷ []) (m, e) (rest_waits ws x (prefixed o term) h.waiting goes)
      (ap (λ z. z ++ applied fixity.Prefix o ∷ []) all) refl
      (ap (λ y. waits (known operators fixity.Prefix o) (judge_at operators ws y).waiting (judge_at operators ws y).steps) (sym is) ∙ went.2)

  between_at : (o : Operator) (read : List AppliedOperator) (c : Closed) (s : Judge) → IsAmong operators o → IsInfix o.role → IsClosed (known operators fixity.Infix o) read c →
      between_closed (known operators fixity.Infix o) c ≡ Some s → IsAt (read ++ applied fixity.Infix o ∷ []) s
  between_at o read c s m i h t =
      let k : Known = known operators fixity.Infix o in
      let ws = h.waiting in let x = h.tree in
      let went = taken_if _ _ _ (sym (ap (between_closed k) h.same) ∙ t) in
      let left = left_fits operators o x h.is_read.fits went.0 in
      let takes : top_takes (map (known_waiting operators) ws) k ≡ true = sym (ap (λ (c : Closed). top_takes c.waiting k) h.same) ∙ h.takes in
      let fits : IsFitting operators (joined o x term) = (m, i, h.is_read.fits, tt, left, inl (inl (row_above o m))) in
      let goes = top_fits operators ws (joined o x term) k fits refl takes (all_wait ws x h.is_read.waiting) in
      waits_at (between o x) ws read (applied fixity.Infix o) s ((done_before ws ++ steps_of x) ++ a_symbol (applied fixity.Infix o) ∷ []) (m, i, h.is_read.fits, left) (rest_waits ws x (joined o x term) h.is_read.waiting goes)
      (sym (append_assoc (read_before ws) (operators_read x) (applied fixity.Infix o ∷ [])) ∙ ap (λ z. z ++ applied fixity.Infix o ∷ []) h.is_read.all)
      (sym (append_assoc (done_before ws) (steps_of x) (a_symbol (applied fixity.Infix o) ∷ []))) went.1

  after_at : (o : Operator) (read : List AppliedOperator) (c : Closed) (s : Judge) → IsAmong operators o → o.role ≡ Postfix → IsClosed (known operators fixity.Postfix o) read c →
      after_closed (known operators fixity.Postfix o) c ≡ Some s → IsAt (read ++ applied fixity.Postfix o ∷ []) s
  after_at o read c s m e h t =
      let k : Known = known operators fixity.Postfix o in
      let ws = h.waiting in let x = h.tree in
      let went = taken_if _ _ _ (sym (ap (after_closed k) h.same) ∙ t) in
      let operand = postfix_fits operators o x h.is_read.fits went.0 in
      let takes : top_takes (map (known_waiting operators) ws) k ≡ true = sym (ap (λ (c : Closed). top_takes c.waiting k) h.same) ∙ h.takes in
      let fits : IsFitting operators (postfixed o x) = (m, e, h.is_read.fits, operand) in
      let goes = top_fits operators ws (postfixed o x) k fits refl takes (all_wait ws x h.is_read.waiting) in
      record {
        waiting = ws;
        tree = postfixed o x;
        same = sym went.1 ∙ ap (λ z. let s : Judge = record { waiting = map (known_waiting operators) ws; last = Some k; steps = z } in s)
            (append_assoc (done_before ws) (steps_of x) (a_symbol (applied fixity.Postfix o) ∷ (an_application (applied fixity.Postfix o) ∷ [])));
        is_read = record {
          waiting = rest_waits ws x (postfixed o x) h.is_read.waiting goes;
          fits = fits;
          all = sym (append_assoc (read_before ws) (operators_read x) (applied fixity.Postfix o ∷ [])) ∙ ap (λ z. z ++ applied fixity.Postfix o ∷ []) h.is_read.all;
        };
      }

  placed_at : (side : Fixity) (o : Operator) (read : List AppliedOperator) (s t : Judge) → IsAmong operators o → stands_on side o.role ≡ true → IsAt read s →
      placed side (known operators side o) s ≡ Some t → IsAt (read ++ applied side o ∷ []) t
  placed_at fixity.Prefix o read s t m on h e =
      before_at o read h.waiting h.tree t m (prefix_role o.role on) h.is_read (sym (ap (before_of (known operators fixity.Prefix o)) h.same) ∙ e)
  placed_at fixity.Infix o read s t m on h e =
      between_at o read (closed_for (known operators fixity.Infix o) s) t m (infix_role o.role on) (closed_for_sound (known operators fixity.Infix o) read s h) e
  placed_at fixity.Postfix o read s t m on h e =
      after_at o read (closed_for (known operators fixity.Postfix o) s) t m (postfix_role o.role on) (closed_for_sound (known operators fixity.Postfix o) read s h) e

  taken_at : (a : AppliedOperator) (k : Option Known) (read : List AppliedOperator) (s t : Judge) → known_in operators a ≡ k → IsAt read s → placed_if a.fixity k s ≡ Some t → IsAt (read ++ a ∷ []) t
  taken_at a None read s t e h p = absurd cc
  taken_at a (Some k) read s t e h p =
      let there = of_table operators a k e in
      let o : Operator = there.operator in
      subst (λ b. IsAt (read ++ b ∷ []) t) (sym there.is_read)
      (placed_at a.fixity o read s t there.among there.side h (sym (ap (λ k. placed a.fixity k s) there.is_known) ∙ p))

  judged_at : (read more : List AppliedOperator) (s t : Judge) → IsAt read s → judged (known_in operators) more s ≡ Some t → IsAt (read ++ more) t
  judged_at read [] s t h e = subst (λ (r : List AppliedOperator). IsAt r t) (sym (append-nil read)) (subst (IsAt read) (let same : s ≡ t = cc in same) h)
  judged_at read (a ∷ more) s t h e = by_next (placed_if a.fixity (known_in operators a) s) refl e (λ next. judged_at (read ++ a ∷ []) more next t)
    where
      by_next : (n : Option Judge) → placed_if a.fixity (known_in operators a) s ≡ n → option_and_then (judged (known_in operators) more) n ≡ Some t →
          ((next : Judge) → IsAt (read ++ a ∷ []) next → judged (known_in operators) more next ≡ Some t → IsAt ((read ++ a ∷ []) ++ more) t) → IsAt (read ++ a ∷ more) t
      by_next None p e rest = absurd cc
      by_next (Some next) p e rest =
          subst (λ (r : List AppliedOperator). IsAt r t) (append_assoc read (a ∷ []) more) (rest next (taken_at a (known_in operators a) read s next refl h p) e)

  -- ---- the end

  applied_sound : (ws : List Waiting) (x : Expression) (read : List AppliedOperator) → IsRead ws x read → HasTree operators read (applied_at operators ws x)
  applied_sound [] x read h = record { tree = x; fits = h.fits; is_read = h.all; is_done = refl }
  applied_sound (w ∷ ws) x read h =
      subst (HasTree operators read) (sym (one_applied operators w ws x)) (applied_sound ws (closed w x) read (one_closed w ws x read h))

  finished_sound : (read : List AppliedOperator) (s : Judge) → IsAt read s → HasTree operators read (finished s)
  finished_sound read s h =
      subst (HasTree operators read)
      (sym (ap finished h.same ∙ ap (λ c. all_applied (map (known_waiting operators) h.waiting) c.steps) (operand_at operators h.waiting h.tree)))
      (applied_sound h.waiting h.tree read h.is_read)

  begins : IsAt [] beginning
  begins = record { waiting = []; tree = term; same = refl; is_read = record { waiting = tt; fits = tt; all = refl } }

  -- what is judged of the operators is so
  pub judgement_true : (read : List AppliedOperator) → IsJudged operators read (judgement (known_in operators) read)
  judgement_true read = by_judge (judged (known_in operators) read beginning) refl
    where
      by_judge : (j : Option Judge) → judged (known_in operators) read beginning ≡ j → IsJudged operators read (option_map finished j)
      by_judge None e = λ told x f same. none_of x (tree_judged operators told x f) same
        where
          none_of : (x : Expression) → judgement (known_in operators) (operators_read x) ≡ Some (steps_of x) → operators_read x ≡ read → ⊥
          none_of x there same = let none : judgement (known_in operators) (operators_read x) ≡ None = ap (judgement (known_in operators)) same ∙ ap (option_map finished) e in cc
      by_judge (Some s) e = finished_sound read s (judged_at [] read beginning s begins e)

-- where operators are found by their symbols as the table has them, the judgement is the table's
pub same_judgement : (operators : List Operator) (groups : Groups) → IsLookupOf operators groups → (read : List AppliedOperator) → judgement (known_by groups) read ≡ judgement (known_in operators) read
same_judgement operators groups looks read = ap (option_map finished) (go read beginning)
  where
    next : (a : AppliedOperator) (more : List AppliedOperator) (s : Judge) → ((t : Judge) → judged (known_by groups) more t ≡ judged (known_in operators) more t) → (o : Option Judge) →
        option_and_then (judged (known_by groups) more) o ≡ option_and_then (judged (known_in operators) more) o
    next a more s h None = refl
    next a more s h (Some t) = h t

    go : (read : List AppliedOperator) (s : Judge) → judged (known_by groups) read s ≡ judged (known_in operators) read s
    go [] s = refl
    go (a ∷ more) s =
        ap (λ fs. option_and_then (judged (known_by groups) more) (placed_if a.fixity (first_known a fs) s)) (looks.finds a.symbol)
        ∙ next a more s (go more) (placed_if a.fixity (known_in operators a) s)
