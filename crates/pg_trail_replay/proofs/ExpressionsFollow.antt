-- Expressions: the steps of the tree that fits lead to what the expression does.
use Rattle.std.proofs.Common.{◌≡◌, ◌+◌, ℕ, Bool, true, false, List, [], ◌∷◌, ◌++◌, refl, sym, ap, ◌∙◌, subst, length, drop, append-nil, append_assoc, if◌then◌else◌}
use Rattle.std.specs.Prelude.{Option, None, Some, slice_get}
use Rattle.std.specs.Str.{bytes_eq, encode_utf8_all}
use Rattle.std.proofs.lemmas.Slice.Eq.{bytes_eq-Decides}
use Rattle.std.proofs.Math.Seq.{take-append_seam, drop-append_seam}
use Rattle.pg_tree.specs.Trees.{Tree}
use Rattle.pg_tree.specs.Built.{built}
use Rattle.pg_tree.specs.declared.shape.Shape.{Shape}
use Rattle.pg_grammar_form.specs.Operators.{Operator}
use Rattle.pg_grammar_form.specs.declared.form.Form.TheVariants as form
use Rattle.pg_grammar_form.specs.declared.operators_item.OperatorsItem.{OperatorsItem}
use Rattle.pg_grammar_form.specs.declared.used.OperatorBuilders.{OperatorBuilders}
use Rattle.pg_grammar_value.specs.Grammar.{Grammar}
use Rattle.pg_grammar_value.specs.declared.trail.AppliedOperator.{AppliedOperator}
use Rattle.pg_grammar_value.specs.declared.trail.Fixity.TheVariants as fixity
use Rattle.pg_grammar_value.specs.declared.trail.TrailItem.{TrailItem}
use Rattle.pg_grammar_value.specs.declared.trail.TrailItem.TheVariants.{Alt, Rounds, Ops}
use Rattle.pg_table.specs.Fitting.{Expression, term, prefixed, postfixed, joined, IsFitting}
use Rattle.pg_table.specs.Trails.{applied, operators_read}
use Rattle.pg_expand_fitting.specs.Steps.{Step, a_symbol, an_application, steps_of, IsJudged}
use Rattle.pg_expand_fitting.specs.Judge.{known_in, judgement}
use Rattle.pg_expand_fitting.proofs.Sound.{judgement_true}
use Rattle.pg_language.specs.Runs.{run_at, past_run, IsOperatorAt}
use Rattle.pg_language.specs.Derives as derives
use Rattle.pg_language.specs.Derives.{Spot, at, DerivesExpression, a_term as derives_term, a_prefix, a_postfix, an_infix}
use Rattle.pg_trail_replay.specs.Refusals as refusal
use Rattle.pg_trail_replay.specs.Refusals.{Stop, still_entered, RefusesExpression}
use Rattle.pg_trail_replay.specs.Tasks.{OnTask, node, operator_symbol, application, unmark, settle, marked, Setting, Looseness, State, inside, newest_waiting, others_waiting, waiting_before, waiting, step_tasks, operators_turn, steps_turn, expression_turn, ended_turn, symbol_turn, built_after}
use Rattle.pg_trail_replay.proofs.Alike.{Alike, alike_both, alike_shaped}
use Rattle.pg_trail_replay.proofs.ProperTables.{IsProper}
use Rattle.pg_trail_replay.proofs.Leads.{End, halted, Leads, does, refuses, does_node, does_term, does_symbol, does_application, does_unmark, does_settle, refuses_node, refuses_term, refuses_symbol, spot_of, TaskLeads, Follows, still_none, still_after_item}

-- ---- trees

built_seam : (shape : Shape) (characters : List ℕ) (v w : List Tree) → built_after shape characters (length v) (v ++ w) ≡ v ++ built shape (encode_utf8_all characters) w ∷ []
built_seam shape characters v w =
    ap (λ x. x ++ built shape (encode_utf8_all characters) (drop (length v) (v ++ w)) ∷ []) (take-append_seam v w)
    ∙ ap (λ x. v ++ built shape (encode_utf8_all characters) x ∷ []) (drop-append_seam v w)

built_joined : (shape : Shape) (characters : List ℕ) (v w x : List Tree) → built_after shape characters (length v) (v ++ w ++ x) ≡ v ++ built shape (encode_utf8_all characters) (w ++ x) ∷ []
built_joined shape characters v w x = ap (built_after shape characters (length v)) (append_assoc v w x) ∙ built_seam shape characters v (w ++ x)

module _ (g : Grammar) (text : List ℕ) (item : OperatorsItem) (there : g.operators ≡ Some item) (builders : OperatorBuilders) (p : ℕ) where
  -- the tasks of a tree at this looseness, before others
  abbrev tasks : Expression → Looseness → List OnTask → List OnTask
  tasks term l ts = marked p l ∷ ts
  tasks (prefixed o x) l ts = operator_symbol (applied fixity.Prefix o) ∷ tasks x (inside builders.prefix.shape l) (application builders (applied fixity.Prefix o) ∷ ts)
  tasks (postfixed o x) l ts = tasks x (inside builders.postfix.shape l) (operator_symbol (applied fixity.Postfix o) ∷ application builders (applied fixity.Postfix o) ∷ ts)
  tasks (joined o x y) l ts =
      tasks x (inside builders.infix.shape l) (operator_symbol (applied fixity.Infix o) ∷ tasks y (inside builders.infix.shape l) (application builders (applied fixity.Infix o) ∷ ts))

  -- the steps of one operand, and then others
  after_prefix : (o : Operator) (x : Expression) (more : List Step) → steps_of (prefixed o x) ++ more ≡ a_symbol (applied fixity.Prefix o) ∷ (steps_of x ++ an_application (applied fixity.Prefix o) ∷ more)
  after_prefix o x more = ap (λ z. a_symbol (applied fixity.Prefix o) ∷ z) (append_assoc (steps_of x) (an_application (applied fixity.Prefix o) ∷ []) more)

  after_postfix : (o : Operator) (x : Expression) (more : List Step) →
      steps_of (postfixed o x) ++ more ≡ steps_of x ++ a_symbol (applied fixity.Postfix o) ∷ an_application (applied fixity.Postfix o) ∷ more
  after_postfix o x more = append_assoc (steps_of x) (a_symbol (applied fixity.Postfix o) ∷ an_application (applied fixity.Postfix o) ∷ []) more

  after_infix : (o : Operator) (x y : Expression) (more : List Step) →
      steps_of (joined o x y) ++ more ≡ steps_of x ++ a_symbol (applied fixity.Infix o) ∷ (steps_of y ++ an_application (applied fixity.Infix o) ∷ more)
  after_infix o x y more =
      append_assoc (steps_of x) (a_symbol (applied fixity.Infix o) ∷ (steps_of y ++ an_application (applied fixity.Infix o) ∷ [])) more
      ∙ ap (λ z. steps_of x ++ a_symbol (applied fixity.Infix o) ∷ z) (append_assoc (steps_of y) (an_application (applied fixity.Infix o) ∷ []) more)

  -- the tree is the newest operand that waits behind its steps, and none of those that wait before them
  waits : (x : Expression) (l : Looseness) (ls ends : List Looseness) (more : List Step) → waiting builders more ends ≡ l ∷ ls → waiting builders (steps_of x ++ more) ends ≡ ls
  waits term l ls ends more e = ap others_waiting e
  waits (prefixed o x) l ls ends more e =
      ap (λ z. waiting builders z ends) (after_prefix o x more)
      ∙ waits x (inside builders.prefix.shape l) ls ends (an_application (applied fixity.Prefix o) ∷ more) (ap (waiting_before builders (an_application (applied fixity.Prefix o))) e)
  waits (postfixed o x) l ls ends more e =
      ap (λ z. waiting builders z ends) (after_postfix o x more)
      ∙ waits x (inside builders.postfix.shape l) ls ends (a_symbol (applied fixity.Postfix o) ∷ an_application (applied fixity.Postfix o) ∷ more)
      (ap (waiting_before builders (an_application (applied fixity.Postfix o))) e)
  waits (joined o x y) l ls ends more e =
      ap (λ z. waiting builders z ends) (after_infix o x y more)
      ∙ waits x (inside builders.infix.shape l) ls ends (a_symbol (applied fixity.Infix o) ∷ (steps_of y ++ an_application (applied fixity.Infix o) ∷ more))
      (waits y (inside builders.infix.shape l) (inside builders.infix.shape l ∷ ls) ends (an_application (applied fixity.Infix o) ∷ more) (ap (waiting_before builders (an_application (applied fixity.Infix o))) e))

  tasks_are : (x : Expression) (l : Looseness) (ls ends : List Looseness) (more : List Step) (ts : List OnTask) → waiting builders more ends ≡ l ∷ ls →
      step_tasks builders p (steps_of x ++ more) ends ++ ts ≡ tasks x l (step_tasks builders p more ends ++ ts)
  tasks_are term l ls ends more ts e = ap (λ ms. marked p (newest_waiting ms) ∷ (step_tasks builders p more ends ++ ts)) e
  tasks_are (prefixed o x) l ls ends more ts e =
      ap (λ z. step_tasks builders p z ends ++ ts) (after_prefix o x more)
      ∙ ap (λ z. operator_symbol (applied fixity.Prefix o) ∷ z)
      (tasks_are x (inside builders.prefix.shape l) ls ends (an_application (applied fixity.Prefix o) ∷ more) ts (ap (waiting_before builders (an_application (applied fixity.Prefix o))) e))
  tasks_are (postfixed o x) l ls ends more ts e =
      ap (λ z. step_tasks builders p z ends ++ ts) (after_postfix o x more)
      ∙ tasks_are x (inside builders.postfix.shape l) ls ends (a_symbol (applied fixity.Postfix o) ∷ an_application (applied fixity.Postfix o) ∷ more) ts
      (ap (waiting_before builders (an_application (applied fixity.Postfix o))) e)
  tasks_are (joined o x y) l ls ends more ts e =
      let behind : waiting builders (an_application (applied fixity.Infix o) ∷ more) ends ≡ inside builders.infix.shape l ∷ (inside builders.infix.shape l ∷ ls) =
      ap (waiting_before builders (an_application (applied fixity.Infix o))) e in
      ap (λ z. step_tasks builders p z ends ++ ts) (after_infix o x y more)
      ∙ tasks_are x (inside builders.infix.shape l) ls ends (a_symbol (applied fixity.Infix o) ∷ (steps_of y ++ an_application (applied fixity.Infix o) ∷ more)) ts
      (waits y (inside builders.infix.shape l) (inside builders.infix.shape l ∷ ls) ends (an_application (applied fixity.Infix o) ∷ more) behind)
      ∙ ap (λ z. tasks x (inside builders.infix.shape l) (operator_symbol (applied fixity.Infix o) ∷ z))
      (tasks_are y (inside builders.infix.shape l) (inside builders.infix.shape l ∷ ls) ends (an_application (applied fixity.Infix o) ∷ more) ts behind)

  all_tasks : (x : Expression) (l : Looseness) (ts : List OnTask) → step_tasks builders p (steps_of x) (l ∷ []) ++ ts ≡ tasks x l ts
  all_tasks x l ts = ap (λ z. step_tasks builders p z (l ∷ []) ++ ts) (sym (append-nil (steps_of x))) ∙ tasks_are x l [] (l ∷ []) [] ts refl

  abbrev around : List ℕ → Looseness → Setting
  around marks l = record { marks = marks; loose = l }

  -- the tree at this looseness is replayed to its end, from which the other tasks lead on, or it stops
  data Gone (x : Expression) (loose : Looseness) (ts : List OnTask) (marks : List ℕ) (a : Spot) (v : List Tree) : List TrailItem → End → Type 0 where
    gone : {after : Looseness} {b : Spot} {w l : List Tree} {u rest : List TrailItem} {e : End} → DerivesExpression g text item builders p x a b w u → Alike loose l w →
        Leads g text (around (length v ∷ marks) after) ts [] b (v ++ l) rest e → Gone x loose ts marks a v (u ++ rest) e
    stopped : {items : List TrailItem} {s : Stop} → RefusesExpression g text item builders p x a items s → Gone x loose ts marks a v items (halted s)

  -- the operators item is one
  same_item : (other : OperatorsItem) (o : Operator) (i j : ℕ) → g.operators ≡ Some other → IsOperatorAt g text other o.symbol i j → IsOperatorAt g text item o.symbol i j
  same_item other o i j is h = subst (λ (it : OperatorsItem). IsOperatorAt g text it o.symbol i j) (let same : other ≡ item = cc in same) h

  -- nothing is open behind an operator
  past_symbol : (ms : Setting) (ts : List OnTask) (b : Spot) (j : ℕ) (v : List Tree) (items : List TrailItem) (e : End) →
      Leads g text ms ts (still_entered b (at b j) [] []) (at b j) v items e → Leads g text ms ts [] (at b j) v items e
  past_symbol ms ts b j v items e k = subst (λ o. Leads g text ms ts o (at b j) v items e) (still_none b (at b j) []) k

  -- ---- prefix operators

  prefixed_gone : (o : Operator) (x : Expression) (loose : Looseness) (ts : List OnTask) (marks : List ℕ) (a : Spot) (v : List Tree) (j : ℕ) (items : List TrailItem) (e : End) → IsOperatorAt g text item o.symbol a.place j →
      Gone x (inside builders.prefix.shape loose) (application builders (applied fixity.Prefix o) ∷ ts) marks (at a j) v items e → Gone (prefixed o x) loose ts marks a v items e
  prefixed_gone o x loose ts marks a v j items e is (stopped h) = stopped (refusal.in_prefixed is h)
  prefixed_gone o x loose ts marks a v j items e is (gone d i (refuses h)) = elim h [ ]
  prefixed_gone o x loose ts marks a v j items e is (gone {after = after} {b = b} {w = w} {l = l} d h (does {items = rest} does_application k)) =
      gone {after = after} (a_prefix is d) (alike_shaped loose builders.prefix.shape (encode_utf8_all o.symbol) l w h)
      (subst (λ f. Leads g text (around (length v ∷ marks) after) ts [] b f rest e) (built_seam builders.prefix.shape o.symbol v l) k)

  prefix_step : (o : Operator) (x : Expression) (loose : Looseness) (ts more : List OnTask) (ms : Setting) (a : Spot) (v : List Tree) (items : List TrailItem) (e : End) →
      ((b : Spot) → Leads g text ms more [] b v items e → Gone x (inside builders.prefix.shape loose) (application builders (applied fixity.Prefix o) ∷ ts) ms.marks b v items e) →
      Leads g text ms (operator_symbol (applied fixity.Prefix o) ∷ more) [] a v items e → Gone (prefixed o x) loose ts ms.marks a v items e
  prefix_step o x loose ts more ms a v items e on (refuses (refuses_symbol h)) = stopped (refusal.prefix_differs (λ j is. h item j there is))
  prefix_step o x loose ts more ms a v items e on (does (does_symbol {item = other} {j = j} is h) k) =
      prefixed_gone o x loose ts ms.marks a v j items e (same_item other o a.place j is h) (on (at a j) (past_symbol ms more a j v items e k))

  -- ---- postfix operators

  postfixed_gone : (o : Operator) (x : Expression) (loose : Looseness) (ts : List OnTask) (marks : List ℕ) (a : Spot) (v : List Tree) (items : List TrailItem) (e : End) →
      Gone x (inside builders.postfix.shape loose) (operator_symbol (applied fixity.Postfix o) ∷ application builders (applied fixity.Postfix o) ∷ ts) marks a v items e → Gone (postfixed o x) loose ts marks a v items e
  postfixed_gone o x loose ts marks a v items e (stopped h) = stopped (refusal.in_postfixed h)
  postfixed_gone o x loose ts marks a v items e (gone d i (refuses (refuses_symbol h))) = stopped (refusal.postfix_differs d (λ j is. h item j there is))
  postfixed_gone o x loose ts marks a v items e (gone d i (does (does_symbol is h) (refuses r))) = elim r [ ]
  postfixed_gone o x loose ts marks a v items e (gone {after = after} {b = b} {w = w} {l = l} d i (does (does_symbol {item = other} {j = j} is h) (does {items = rest} does_application k))) =
      gone {after = after} (a_postfix d (same_item other o b.place j is h)) (alike_shaped loose builders.postfix.shape (encode_utf8_all o.symbol) l w i)
      (past_symbol (around (length v ∷ marks) after) ts b j (v ++ built builders.postfix.shape (encode_utf8_all o.symbol) l ∷ []) rest e
      (subst (λ f. Leads g text (around (length v ∷ marks) after) ts (still_entered b (at b j) [] []) (at b j) f rest e) (built_seam builders.postfix.shape o.symbol v l) k))

  -- ---- infix operators

  joined_gone : (o : Operator) (x y : Expression) (loose : Looseness) (ts : List OnTask) (marks : List ℕ) (a b : Spot) (v w l : List Tree) (j : ℕ) (u items : List TrailItem) (e : End) →
      DerivesExpression g text item builders p x a b w u → Alike (inside builders.infix.shape loose) l w → IsOperatorAt g text item o.symbol b.place j →
      Gone y (inside builders.infix.shape loose) (application builders (applied fixity.Infix o) ∷ ts) (length v ∷ marks) (at b j) (v ++ l) items e → Gone (joined o x y) loose ts marks a v (u ++ items) e
  joined_gone o x y loose ts marks a b v w l j u items e d i is (stopped h) = stopped (refusal.in_right d is h)
  joined_gone o x y loose ts marks a b v w l j u items e d i is (gone f m (refuses h)) = elim h [ ]
  joined_gone o x y loose ts marks a b v w l j u items e d i is (gone {after = after} {b = c} {w = z} {l = n} {u = t} f m (does {items = rest} does_application k)) =
      subst (λ q. Gone (joined o x y) loose ts marks a v q e) (append_assoc u t rest)
      (gone {after = after} (an_infix d is f)
      (alike_shaped loose builders.infix.shape (encode_utf8_all o.symbol) (l ++ n) (w ++ z) (alike_both (inside builders.infix.shape loose) l w n z i m))
      (subst (λ q. Leads g text (around (length v ∷ marks) after) ts [] c q rest e) (built_joined builders.infix.shape o.symbol v l n) k))

  infix_step : (o : Operator) (x y : Expression) (loose : Looseness) (ts more : List OnTask) (marks : List ℕ) (a : Spot) (v : List Tree) (items : List TrailItem) (e : End) →
      ((ns : Setting) (b : Spot) (z : List Tree) (rest : List TrailItem) → Leads g text ns more [] b z rest e → Gone y (inside builders.infix.shape loose) (application builders (applied fixity.Infix o) ∷ ts) ns.marks b z rest e) →
      Gone x (inside builders.infix.shape loose) (operator_symbol (applied fixity.Infix o) ∷ more) marks a v items e → Gone (joined o x y) loose ts marks a v items e
  infix_step o x y loose ts more marks a v items e on (stopped h) = stopped (refusal.in_left h)
  infix_step o x y loose ts more marks a v items e on (gone d i (refuses (refuses_symbol h))) = stopped (refusal.infix_differs d (λ j is. h item j there is))
  infix_step o x y loose ts more marks a v items e on (gone {after = after} {b = b} {w = w} {l = l} {u = u} d i (does {items = rest} (does_symbol {item = other} {j = j} is h) k)) =
      joined_gone o x y loose ts marks a b v w l j u rest e d i (same_item other o b.place j is h)
      (on (around (length v ∷ marks) after) (at b j) (v ++ l) rest (past_symbol (around (length v ∷ marks) after) more b j (v ++ l) rest e k))

  -- ---- trees

  term_gone : (loose : Looseness) (ts : List OnTask) (ms : Setting) (a : Spot) (v : List Tree) (items : List TrailItem) (e : End) → Leads g text ms (marked p loose ∷ ts) [] a v items e → Gone term loose ts ms.marks a v items e
  term_gone loose ts ms a v items e (refuses (refuses_term h)) = stopped (refusal.in_term h)
  term_gone loose ts ms a v items e (does {b = b} {u = u} {items = rest} (does_term {x = l} d h) k) =
      gone {after = loose} (derives_term d) h (subst (λ o. Leads g text (around (length v ∷ ms.marks) loose) ts o b (v ++ l) rest e) (still_none a b u) k)

  tree_gone : (x : Expression) (loose : Looseness) (ts : List OnTask) (ms : Setting) (a : Spot) (v : List Tree) (items : List TrailItem) (e : End) → Leads g text ms (tasks x loose ts) [] a v items e → Gone x loose ts ms.marks a v items e
  tree_gone term loose ts ms a v items e k = term_gone loose ts ms a v items e k
  tree_gone (prefixed o x) loose ts ms a v items e k =
      prefix_step o x loose ts (tasks x (inside builders.prefix.shape loose) (application builders (applied fixity.Prefix o) ∷ ts)) ms a v items e
      (λ b m. tree_gone x (inside builders.prefix.shape loose) (application builders (applied fixity.Prefix o) ∷ ts) ms b v items e m) k
  tree_gone (postfixed o x) loose ts ms a v items e k =
      postfixed_gone o x loose ts ms.marks a v items e
      (tree_gone x (inside builders.postfix.shape loose) (operator_symbol (applied fixity.Postfix o) ∷ application builders (applied fixity.Postfix o) ∷ ts) ms a v items e k)
  tree_gone (joined o x y) loose ts ms a v items e k =
      infix_step o x y loose ts (tasks y (inside builders.infix.shape loose) (application builders (applied fixity.Infix o) ∷ ts)) ms.marks a v items e
      (λ ns b z rest m. tree_gone y (inside builders.infix.shape loose) (application builders (applied fixity.Infix o) ∷ ts) ns b z rest e m)
      (tree_gone x (inside builders.infix.shape loose) (operator_symbol (applied fixity.Infix o) ∷ tasks y (inside builders.infix.shape loose) (application builders (applied fixity.Infix o) ∷ ts)) ms a v items e k)

  -- ---- expressions

  whole_gone : (q : ℕ) (x : Expression) (ts : List OnTask) (ms : Setting) (entered : List ℕ) (a : Spot) (v : List Tree) (items : List TrailItem) (e : End) → slice_get g.nodes q ≡ Some (form.Expression builders p) →
      IsFitting a.table.operators x → Gone x ms.loose (unmark ∷ settle ms.loose ∷ ts) ms.marks a v items e → Leads g text ms (node q ∷ ts) entered a v (Ops (operators_read x) ∷ items) e
  whole_gone q x ts ms entered a v items e is fit (stopped h) = refuses (refuses_node (refusal.at_node is (refusal.expression there fit h)))
  whole_gone q x ts ms entered a v items e is fit (gone d i (refuses h)) = elim h [ ]
  whole_gone q x ts ms entered a v items e is fit (gone d i (does does_unmark (refuses h))) = elim h [ ]
  whole_gone q x ts ms entered a v items e is fit (gone {b = b} {w = w} {l = l} {u = u} d h (does does_unmark (does {items = rest} does_settle k))) =
      does (does_node (derives.at_node is (derives.expression there fit d)) h)
      (subst (λ o. Leads g text ms ts o b (v ++ l) rest e) (sym (still_after_item a b (Ops (operators_read x)) u entered)) k)

  pub expression_leads : (q : ℕ) (x : Expression) (ts : List OnTask) (ms : Setting) (entered : List ℕ) (a : Spot) (v : List Tree) (items : List TrailItem) (e : End) →
      slice_get g.nodes q ≡ Some (form.Expression builders p) → IsFitting a.table.operators x →
      Leads g text ms (step_tasks builders p (steps_of x) (ms.loose ∷ []) ++ (unmark ∷ settle ms.loose ∷ ts)) [] a v items e → Leads g text ms (node q ∷ ts) entered a v (Ops (operators_read x) ∷ items) e
  expression_leads q x ts ms entered a v items e is fit k = whole_gone q x ts ms entered a v items e is fit
      (tree_gone x ms.loose (unmark ∷ settle ms.loose ∷ ts) ms a v items e
      (subst (λ l. Leads g text ms l [] a v items e) (all_tasks x ms.loose (unmark ∷ settle ms.loose ∷ ts)) k))

-- ---- what the next item isn't

fits_none_at_end : (os : List Operator) (t : List TrailItem) → t ≡ [] → (x : Expression) (rest : List TrailItem) → IsFitting os x → t ≡ Ops (operators_read x) ∷ rest → ⊥
fits_none_at_end os t e x rest f h = cc

fits_none_for_choice : (os : List Operator) (k : ℕ) (t more : List TrailItem) → t ≡ Alt k ∷ more → (x : Expression) (rest : List TrailItem) → IsFitting os x → t ≡ Ops (operators_read x) ∷ rest → ⊥
fits_none_for_choice os k t more e x rest f h = cc

fits_none_for_rounds : (os : List Operator) (n : ℕ) (t more : List TrailItem) → t ≡ Rounds n ∷ more → (x : Expression) (rest : List TrailItem) → IsFitting os x → t ≡ Ops (operators_read x) ∷ rest → ⊥
fits_none_for_rounds os n t more e x rest f h = cc

module _ (g : Grammar) (text : List ℕ) (builders : OperatorBuilders) (q p : ℕ) where
  judged_follows : (s : State) (item : OperatorsItem) (read : List AppliedOperator) (rest : List TrailItem) (steps : Option (List Step)) → slice_get g.nodes q ≡ Some (form.Expression builders p) →
      g.operators ≡ Some item → s.rest ≡ Ops read ∷ rest → IsProper s.table → IsJudged s.table.operators read steps → Follows g text (node q) s (steps_turn builders p steps rest s)
  judged_follows s item read rest None is there e proper h =
      refuses (refuses_node (refusal.at_node is (refusal.no_tree (λ x more f m. h proper.told x f (let same : operators_read x ≡ read = cc in same)))))
  judged_follows s item read rest (Some steps) is there e proper h = λ end k.
      let same : Ops (operators_read h.tree) ∷ rest ≡ s.rest = ap (λ r. Ops r ∷ rest) h.is_read ∙ sym e in
      subst (λ items. TaskLeads g text (node q) (let t : State = record s { rest = items } in t) end) same
      (expression_leads g text item there builders p q h.tree s.tasks s.setting s.entered (spot_of s) s.forest rest end is h.fits
      (subst (λ l. Leads g text s.setting (step_tasks builders p l (s.setting.loose ∷ []) ++ (unmark ∷ settle s.setting.loose ∷ s.tasks)) [] (spot_of s) s.forest rest end)
      (sym h.is_done) k))

  operators_follow : (s : State) (item : Option OperatorsItem) (read : List AppliedOperator) (rest : List TrailItem) → slice_get g.nodes q ≡ Some (form.Expression builders p) →
      g.operators ≡ item → s.rest ≡ Ops read ∷ rest → IsProper s.table → Follows g text (node q) s (operators_turn item builders p read rest s)
  operators_follow s None read rest is there e proper = refuses (refuses_node (refusal.at_node is (refusal.no_operators there)))
  operators_follow s (Some item) read rest is there e proper =
      judged_follows s item read rest (judgement (known_in s.table.operators) read) is there e proper (judgement_true s.table.operators proper.digits read)

  pub expression_follows : (items : List TrailItem) (s : State) → slice_get g.nodes q ≡ Some (form.Expression builders p) → s.rest ≡ items → IsProper s.table →
      Follows g text (node q) s (expression_turn g builders p items s)
  expression_follows [] s is e proper = refuses (refuses_node (refusal.at_node is (refusal.no_tree (fits_none_at_end s.table.operators s.rest e))))
  expression_follows (Alt k ∷ rest) s is e proper = refuses (refuses_node (refusal.at_node is (refusal.no_tree (fits_none_for_choice s.table.operators k s.rest rest e))))
  expression_follows (Rounds n ∷ rest) s is e proper = refuses (refuses_node (refusal.at_node is (refusal.no_tree (fits_none_for_rounds s.table.operators n s.rest rest e))))
  expression_follows (Ops read ∷ rest) s is e proper = operators_follow s g.operators read rest is refl e proper

-- ---- symbols

module _ (g : Grammar) (text : List ℕ) (o : AppliedOperator) (s : State) where
  symbol_by : (item : OperatorsItem) → g.operators ≡ Some item → (b : Bool) → bytes_eq (run_at g text item.class s.place) o.symbol ≡ b →
      Follows g text (operator_symbol o) s (ended_turn (if b then Some (past_run g text item.gap (s.place + length o.symbol)) else None) s)
  symbol_by item there true h = λ e k.
      does (does_symbol there (record { run = (bytes_eq-Decides (run_at g text item.class s.place) o.symbol).0 h; past = refl })) k
  symbol_by item there false h = refuses (refuses_symbol (λ other j is at.
      let same : item ≡ other = cc in
      let run : run_at g text item.class s.place ≡ o.symbol = ap (λ (it : OperatorsItem). run_at g text it.class s.place) same ∙ at.run in
      let test = (bytes_eq-Decides (run_at g text item.class s.place) o.symbol).1 run in
      cc))

  symbol_by_item : (item : Option OperatorsItem) → g.operators ≡ item → Follows g text (operator_symbol o) s (symbol_turn g text item o s)
  symbol_by_item None there = refuses (refuses_symbol (λ other j is at. cc))
  symbol_by_item (Some item) there = symbol_by item there (bytes_eq (run_at g text item.class s.place) o.symbol) refl

  pub symbol_follows : Follows g text (operator_symbol o) s (symbol_turn g text g.operators o s)
  symbol_follows = symbol_by_item g.operators refl
