-- The operators of a tree that fits are taken one after another, and its steps come of it.
use Rattle.std.proofs.Common.{◌≡◌, ◌<◌, ◌≤◌, ◌⊎◌, ◌==◌, ℕ, Bool, true, false, not, List, [], ◌∷◌, ◌++◌, inl, inr, refl, sym, ap, subst, ◌∙◌, append_assoc, append-nil, arith}
use Rattle.std.specs.Prelude.{Option, None, Some, map, option_map, option_and_then, if◌then◌else◌}
use Rattle.pg_grammar_form.specs.Operators.{Operator}
use Rattle.pg_grammar_form.specs.declared.decl.Role.{Role}
use Rattle.pg_grammar_form.specs.declared.decl.Role.TheVariants.{InfixLeft, InfixRight, InfixNone, Prefix, Postfix}
use Rattle.pg_grammar_value.specs.declared.trail.AppliedOperator.{AppliedOperator}
use Rattle.pg_grammar_value.specs.declared.trail.Fixity.TheVariants as fixity
use Rattle.pg_table.specs.Tables.{is_prefix}
use Rattle.pg_table.specs.Fitting.{Expression, term, prefixed, postfixed, joined, row, rank, IsInfix, IsPrefixed, IsUnary, IsJoined, IsFittingSide, IsFitting}
use Rattle.pg_table.specs.Trails.{applied, operators_read}
use Rattle.pg_expand.specs.Rows.{is_right}
use Rattle.pg_expand.proofs.Ranks.{unary_rank, joined_rank, prefixed_rank, side_rank}
use Rattle.pg_expand_fitting.specs.Steps.{Step, a_symbol, an_application, steps_of, AreTold}
use Rattle.pg_expand_fitting.specs.Judge.{Known, Judge, Closed, is_infix, stands_on, is_unary, goes_under, top_takes, operand_of, closed_until, closed_by, closed_for, waits, follows, placed_if, between_closed, after_closed, known_in, judged, all_applied, finished, beginning, judgement}
use Rattle.pg_expand_fitting.proofs.Waiting.{Waiting, before, between, closed, done_before, closed-done, known, known_waiting, root, root-closed, applied-waiting, FitsUnder, IsWaiting, FitsTop}
use Rattle.pg_expand_fitting.proofs.Places.{if_true, if_false, GoesUnder, under_decides, fits_top, fits_left, fits_postfix}
use Rattle.pg_expand_fitting.proofs.Found.{table_known}

-- the operators of a tree whose last operand is the one that was read last, the newest first
abbrev pub spine : Expression → List Waiting
spine term = []
spine (prefixed o x) = spine x ++ before o ∷ []
spine (postfixed o x) = []
spine (joined o l x) = spine x ++ between o l ∷ []

-- that operand: a term, or one with a postfix operator
abbrev pub tip : Expression → Expression
tip term = term
tip (prefixed o x) = tip x
tip (postfixed o x) = postfixed o x
tip (joined o l x) = tip x

infix_side : (r : Role) → IsInfix r → is_infix r ≡ true
infix_side InfixLeft h = refl
infix_side InfixRight h = refl
infix_side InfixNone h = refl
infix_side Prefix h = absurd h
infix_side Postfix h = absurd h

module _ (operators : List Operator) where
  -- the judge where these wait and this was read last
  abbrev pub last_of : Expression → Option Known
  last_of x = root operators x

  abbrev pub steps_at : List Waiting → Expression → List Step
  steps_at ws term = done_before ws
  steps_at ws (prefixed o x) = done_before ws ++ steps_of (prefixed o x)
  steps_at ws (postfixed o x) = done_before ws ++ steps_of (postfixed o x)
  steps_at ws (joined o x y) = done_before ws ++ steps_of (joined o x y)

  abbrev pub judge_at : List Waiting → Expression → Judge
  judge_at ws x = record { waiting = map (known_waiting operators) ws; last = root operators x; steps = steps_at ws x }

  -- what waits, where the tree was read as an operand
  abbrev pub closed_at : List Waiting → Expression → Closed
  closed_at ws x = record { waiting = map (known_waiting operators) ws; root = root operators x; steps = done_before ws ++ steps_of x }

  pub operand_at : (ws : List Waiting) (x : Expression) → operand_of (map (known_waiting operators) ws) (root operators x) (steps_at ws x) ≡ closed_at ws x
  operand_at ws term = refl
  operand_at ws (prefixed o x) = refl
  operand_at ws (postfixed o x) = refl
  operand_at ws (joined o x y) = refl

  -- ---- operators that no operator of a tree takes into its last operand

  abbrev Untaken : Known → List Waiting → Type 0
  Untaken k [] = Unit {0}
  Untaken k (w ∷ ws) = (goes_under (known_waiting operators w) k ≡ false) × Untaken k ws

  untaken_both : (k : Known) (vs ws : List Waiting) → Untaken k vs → Untaken k ws → Untaken k (vs ++ ws)
  untaken_both k [] ws a b = b
  untaken_both k (v ∷ vs) ws a b = (a.0, untaken_both k vs ws a.1 b)

  untaken_first : (k : Known) (vs ws : List Waiting) → Untaken k (vs ++ ws) → Untaken k vs
  untaken_first k [] ws a = tt
  untaken_first k (v ∷ vs) ws a = (a.0, untaken_first k vs ws a.1)

  untaken_second : (k : Known) (vs ws : List Waiting) → Untaken k (vs ++ ws) → Untaken k ws
  untaken_second k [] ws a = a
  untaken_second k (v ∷ vs) ws a = untaken_second k vs ws a.1

  not_so : (b : Bool) → (b ≡ true → ⊥) → b ≡ false
  not_so true h = absurd (h refl)
  not_so false h = refl

  refused : (w : Waiting) (k : Known) → (GoesUnder (known_waiting operators w) k → ⊥) → goes_under (known_waiting operators w) k ≡ false
  refused w k h = not_so _ (λ e. h ((under_decides (known_waiting operators w) k).0 e))

  lower_refused : (w : Waiting) (k : Known) → (known_waiting operators w).row < k.row → goes_under (known_waiting operators w) k ≡ false
  lower_refused w k h = refused w k (λ g. elim g [ inl l ↦ omega arith | inr s ↦ (let same = s.1.0 in omega arith) ])

  untaken_lower : (x : Expression) (k : Known) → IsFitting operators x → rank operators x < k.row → Untaken k (spine x)
  untaken_lower term k f h = tt
  untaken_lower (prefixed o x) k f h =
      let below = f.3 in untaken_both k (spine x) (before o ∷ []) (untaken_lower x k f.2 (omega arith)) (lower_refused (before o) k h, tt)
  untaken_lower (postfixed o x) k f h = tt
  untaken_lower (joined o l x) k f h =
      let below = side_rank operators InfixRight o x f.5 in untaken_both k (spine x) (between o l ∷ []) (untaken_lower x k f.3 (omega arith)) (lower_refused (between o l) k h, tt)

  untaken_unary : (x : Expression) (k : Known) → IsFitting operators x → IsUnary operators k.row x → Untaken k (spine x)
  untaken_unary term k f u = absurd u
  untaken_unary (prefixed o x) k f u =
      let below = f.3 in let same : row operators o ≡ k.row = u in
      untaken_both k (spine x) (before o ∷ []) (untaken_lower x k f.2 (omega arith))
      (refused (before o) k (λ g. elim g [ inl l ↦ omega arith | inr s ↦ (let role = ap (λ r. not (is_prefix r)) f.1 in let no = s.0 in cc) ]), tt)
  untaken_unary (postfixed o x) k f u = tt
  untaken_unary (joined o l x) k f u = absurd u

  not_beside : (r s : Role) → r ≡ InfixLeft → s ≡ InfixLeft → (is_unary s ≡ true) ⊎ ((is_right r ≡ true) × (is_right s ≡ true)) → ⊥
  not_beside r s e h (inl u) = let same = ap is_unary h in cc
  not_beside r s e h (inr p) = let same = ap is_right h in let on = p.1 in cc

  untaken_left : (x : Expression) (o : Operator) → IsFitting operators x → o.role ≡ InfixLeft → IsJoined operators InfixLeft (row operators o) x → Untaken (known operators fixity.Infix o) (spine x)
  untaken_left term o f e j = absurd j
  untaken_left (prefixed p x) o f e j = absurd j
  untaken_left (postfixed p x) o f e j = absurd j
  untaken_left (joined p l x) o f e j =
      untaken_both k (spine x) (between p l ∷ []) (by_side f.5)
      (refused (between p l) k (λ g. elim g [ inl lower ↦ (let same = j.0 in omega arith) | inr s ↦ not_beside p.role o.role j.1 e s.1.1 ]), tt)
    where
      k : Known
      k = known operators fixity.Infix o

      by_side : IsFittingSide operators InfixRight p x → Untaken (known operators fixity.Infix o) (spine x)
      by_side (inl (inl lower)) = let same = j.0 in untaken_lower x (known operators fixity.Infix o) f.3 (omega arith)
      by_side (inl (inr u)) = untaken_unary x (known operators fixity.Infix o) f.3 (subst (λ n. IsUnary operators n x) j.0 u)
      by_side (inr r) = let right = r.0 in let left = j.1 in absurd (sides p.role left right)
        where
          sides : (r : Role) → r ≡ InfixLeft → r ≡ InfixRight → ⊥
          sides r a b = cc

  left_untaken : (x : Expression) (o : Operator) → IsFitting operators x → IsFittingSide operators InfixLeft o x → Untaken (known operators fixity.Infix o) (spine x)
  left_untaken x o f (inl (inl lower)) = untaken_lower x (known operators fixity.Infix o) f lower
  left_untaken x o f (inl (inr u)) = untaken_unary x (known operators fixity.Infix o) f u
  left_untaken x o f (inr j) = untaken_left x o f j.0 j.1

  prefixed_unary : (x : Expression) (n : ℕ) → IsPrefixed operators n x → IsUnary operators n x
  prefixed_unary term n h = h
  prefixed_unary (prefixed o x) n h = h
  prefixed_unary (postfixed o x) n h = absurd h
  prefixed_unary (joined o x y) n h = h

  postfix_untaken : (x : Expression) (o : Operator) → IsFitting operators x → (rank operators x < row operators o) ⊎ IsPrefixed operators (row operators o) x → Untaken (known operators fixity.Postfix o) (spine x)
  postfix_untaken x o f (inl lower) = untaken_lower x (known operators fixity.Postfix o) f lower
  postfix_untaken x o f (inr p) = untaken_unary x (known operators fixity.Postfix o) f (prefixed_unary x (row operators o) p)

  -- ---- what waits of a tree is applied

  one_past : (k : Known) (w : Waiting) (ws : List Waiting) (x : Expression) → goes_under (known_waiting operators w) k ≡ false →
      closed_by k (closed_at (w ∷ ws) x) ≡ closed_by k (closed_at ws (closed w x))
  one_past k w ws x e =
      if_false (goes_under (known_waiting operators w) k) _ _ e
      ∙ ap (λ a. closed_until k (map (known_waiting operators) ws) (Some (known_waiting operators w)) ((done_before (w ∷ ws) ++ steps_of x) ++ an_application a ∷ [])) (applied-waiting operators w)
      ∙ ap (closed_until k (map (known_waiting operators) ws) (Some (known_waiting operators w))) (closed-done w ws x)
      ∙ ap (λ r. closed_until k (map (known_waiting operators) ws) r (done_before ws ++ steps_of (closed w x))) (sym (root-closed operators w x))

  closed_past : (k : Known) (x : Expression) (ws : List Waiting) → Untaken k (spine x) → closed_by k (closed_at (spine x ++ ws) (tip x)) ≡ closed_by k (closed_at ws x)
  closed_past k term ws u = refl
  closed_past k (prefixed o x) ws u =
      ap (λ vs. closed_by k (closed_at vs (tip x))) (append_assoc (spine x) (before o ∷ []) ws)
      ∙ closed_past k x (before o ∷ ws) (untaken_first k (spine x) (before o ∷ []) u)
      ∙ one_past k (before o) ws x (untaken_second k (spine x) (before o ∷ []) u).0
  closed_past k (postfixed o x) ws u = refl
  closed_past k (joined o l x) ws u =
      ap (λ vs. closed_by k (closed_at vs (tip x))) (append_assoc (spine x) (between o l ∷ []) ws)
      ∙ closed_past k x (between o l ∷ ws) (untaken_first k (spine x) (between o l ∷ []) u)
      ∙ one_past k (between o l) ws x (untaken_second k (spine x) (between o l ∷ []) u).0

  abbrev pub applied_at : List Waiting → Expression → List Step
  applied_at ws x = all_applied (map (known_waiting operators) ws) (done_before ws ++ steps_of x)

  pub one_applied : (w : Waiting) (ws : List Waiting) (x : Expression) → applied_at (w ∷ ws) x ≡ applied_at ws (closed w x)
  one_applied w ws x =
      ap (λ a. all_applied (map (known_waiting operators) ws) ((done_before (w ∷ ws) ++ steps_of x) ++ an_application a ∷ [])) (applied-waiting operators w)
      ∙ ap (all_applied (map (known_waiting operators) ws)) (closed-done w ws x)

  all_past : (x : Expression) (ws : List Waiting) → applied_at (spine x ++ ws) (tip x) ≡ applied_at ws x
  all_past term ws = refl
  all_past (prefixed o x) ws = ap (λ vs. applied_at vs (tip x)) (append_assoc (spine x) (before o ∷ []) ws) ∙ all_past x (before o ∷ ws) ∙ one_applied (before o) ws x
  all_past (postfixed o x) ws = refl
  all_past (joined o l x) ws = ap (λ vs. applied_at vs (tip x)) (append_assoc (spine x) (between o l ∷ []) ws) ∙ all_past x (between o l ∷ ws) ∙ one_applied (between o l) ws x

  -- where the newest that waits takes the operator, no more is applied
  stops : (k : Known) (ws : List Waiting) (x : Expression) → top_takes (map (known_waiting operators) ws) k ≡ true → closed_by k (closed_at ws x) ≡ closed_at ws x
  stops k [] x t = refl
  stops k (w ∷ ws) x t = if_true (goes_under (known_waiting operators w) k) _ _ t

  -- ---- which trees go where a part of a tree does

  lower_under : (w : Waiting) (x y : Expression) → IsWaiting operators w → rank operators y < rank operators x → FitsUnder operators w x → FitsUnder operators w y
  lower_under (before o) x y h l u = omega arith
  lower_under (between o m) x y h l (inl (inl u)) = inl (inl (omega arith))
  lower_under (between o m) x y h l (inl (inr u)) = inl (inl (let same = unary_rank operators (row operators o) x u in omega arith))
  lower_under (between o m) x y h l (inr j) = inl (inl (let same = joined_rank operators InfixRight (row operators o) x j.1 in omega arith))

  -- a unary tree of the same row goes where a tree does, but not into a prefix's operand
  unary_under : (w : Waiting) (x y : Expression) → rank operators x ≡ rank operators y → IsUnary operators (rank operators x) y → FitsUnder operators w x → FitsUnder operators w y
  unary_under (before o) x y e u h = omega arith
  unary_under (between o m) x y e u (inl (inl h)) = inl (inl (omega arith))
  unary_under (between o m) x y e u (inl (inr h)) = inl (inr (subst (λ n. IsUnary operators n y) (unary_rank operators (row operators o) x h) u))
  unary_under (between o m) x y e u (inr j) = inl (inr (subst (λ n. IsUnary operators n y) (joined_rank operators InfixRight (row operators o) x j.1) u))

  -- the operand of a postfix operator
  operand_under : (ws : List Waiting) (o : Operator) (x : Expression) → ((w : Waiting) (more : List Waiting) → ws ≡ w ∷ more → IsWaiting operators w) → IsFitting operators (postfixed o x) →
      FitsTop operators ws (postfixed o x) → FitsTop operators ws x
  operand_under [] o x h f u = tt
  operand_under (w ∷ ws) o x h f u = elim f.3 [
    | inl lower ↦ lower_under w (postfixed o x) x (h w ws refl) lower u
    | inr p ↦ (let same = prefixed_rank operators (row operators o) x p in unary_under w (postfixed o x) x (sym same) (prefixed_unary x (row operators o) p) u)
  ]

  -- the left operand of an infix operator
  left_under : (ws : List Waiting) (o : Operator) (l x : Expression) → ((w : Waiting) (more : List Waiting) → ws ≡ w ∷ more → IsWaiting operators w) → IsFitting operators (joined o l x) →
      FitsTop operators ws (joined o l x) → FitsTop operators ws l
  left_under [] o l x h f u = tt
  left_under (w ∷ ws) o l x h f u = by_side f.4
    where
      -- where both associate to the left, the tree isn't one that associates to the right
      nested : (v : Waiting) → (o.role ≡ InfixLeft) × IsJoined operators InfixLeft (row operators o) l → FitsUnder operators v (joined o l x) → FitsUnder operators v l
      nested (before p) j u = let same = joined_rank operators InfixLeft (row operators o) l j.1 in omega arith
      nested (between p m) j (inl (inl u)) = let same = joined_rank operators InfixLeft (row operators o) l j.1 in inl (inl (omega arith))
      nested (between p m) j (inl (inr u)) = absurd u
      nested (between p m) j (inr r) = let right = r.1.1 in let left = j.0 in absurd cc

      by_side : IsFittingSide operators InfixLeft o l → FitsUnder operators w l
      by_side (inl (inl lower)) = lower_under w (joined o l x) l (h w ws refl) lower u
      by_side (inl (inr v)) = let same = unary_rank operators (row operators o) l v in unary_under w (joined o l x) l (sym same) v u
      by_side (inr j) = nested w j u

  -- ---- reading

  abbrev AllWait : List Waiting → Type 0
  AllWait ws = (w : Waiting) (more : List Waiting) → ws ≡ w ∷ more → IsWaiting operators w

  one_waits : (w : Waiting) (ws : List Waiting) → IsWaiting operators w → AllWait (w ∷ ws)
  one_waits w ws h v more e = subst (IsWaiting operators) (let same : w ≡ v = cc in same) h

  module _ (told : AreTold operators) where
    -- a prefix operator
    prefix_read : (ws : List Waiting) (o : Operator) (x : Expression) (rest : List AppliedOperator) → AllWait ws → IsFitting operators (prefixed o x) → FitsTop operators ws (prefixed o x) →
        judged (known_in operators) (applied fixity.Prefix o ∷ rest) (judge_at ws term) ≡ judged (known_in operators) rest (judge_at (before o ∷ ws) term)
    prefix_read ws o x rest h f u =
        let looked = table_known operators told fixity.Prefix o f.0 (ap is_prefix f.1) in
        let takes = fits_top operators ws (prefixed o x) (known operators fixity.Prefix o) f refl u h in
        ap (λ k. option_and_then (judged (known_in operators) rest) (placed_if fixity.Prefix k (judge_at ws term))) looked
        ∙ ap (option_and_then (judged (known_in operators) rest)) (if_true (top_takes (map (known_waiting operators) ws) (known operators fixity.Prefix o)) _ _ takes)

    -- an operator after an operand: what waits of the operand is applied
    operand_closed : (k : Known) (ws : List Waiting) (x : Expression) → Untaken k (spine x) → top_takes (map (known_waiting operators) ws) k ≡ true →
        closed_for k (judge_at (spine x ++ ws) (tip x)) ≡ closed_at ws x
    operand_closed k ws x u t =
        ap (closed_by k) (operand_at (spine x ++ ws) (tip x)) ∙ closed_past k x ws u ∙ stops k ws x t

    postfix_side : (r : Role) → r ≡ Postfix → stands_on fixity.Postfix r ≡ true
    postfix_side r e = ap (stands_on fixity.Postfix) e

    postfix_read : (ws : List Waiting) (o : Operator) (x : Expression) (rest : List AppliedOperator) → AllWait ws → IsFitting operators (postfixed o x) → FitsTop operators ws (postfixed o x) →
        judged (known_in operators) (applied fixity.Postfix o ∷ rest) (judge_at (spine x ++ ws) (tip x)) ≡ judged (known_in operators) rest (judge_at ws (postfixed o x))
    postfix_read ws o x rest h f u =
        let k : Known = known operators fixity.Postfix o in
        let looked = table_known operators told fixity.Postfix o f.0 (postfix_side o.role f.1) in
        let takes = fits_top operators ws (postfixed o x) k f refl u h in
        let went = operand_closed k ws x (postfix_untaken x o f.2 f.3) takes in
        let may = fits_postfix operators o x f.2 f.3 in
        ap (λ k. option_and_then (judged (known_in operators) rest) (placed_if fixity.Postfix k (judge_at (spine x ++ ws) (tip x)))) looked
        ∙ ap (λ c. option_and_then (judged (known_in operators) rest) (after_closed k c)) went
        ∙ ap (option_and_then (judged (known_in operators) rest)) (if_true _ (Some (follows k (map (known_waiting operators) ws) (done_before ws ++ steps_of x))) None may)
        ∙ ap (λ z. judged (known_in operators) rest (let s : Judge = record { waiting = map (known_waiting operators) ws; last = Some k; steps = z } in s))
        (append_assoc (done_before ws) (steps_of x) (a_symbol (applied fixity.Postfix o) ∷ (an_application (applied fixity.Postfix o) ∷ [])))

    infix_read : (ws : List Waiting) (o : Operator) (l x : Expression) (rest : List AppliedOperator) → AllWait ws → IsFitting operators (joined o l x) → FitsTop operators ws (joined o l x) →
        judged (known_in operators) (applied fixity.Infix o ∷ rest) (judge_at (spine l ++ ws) (tip l)) ≡ judged (known_in operators) rest (judge_at (between o l ∷ ws) term)
    infix_read ws o l x rest h f u =
        let k : Known = known operators fixity.Infix o in
        let looked = table_known operators told fixity.Infix o f.0 (infix_side o.role f.1) in
        let takes = fits_top operators ws (joined o l x) k f refl u h in
        let went = operand_closed k ws l (left_untaken l o f.2 f.4) takes in
        let may = fits_left operators o l f.2 f.4 in
        ap (λ k. option_and_then (judged (known_in operators) rest) (placed_if fixity.Infix k (judge_at (spine l ++ ws) (tip l)))) looked
        ∙ ap (λ c. option_and_then (judged (known_in operators) rest) (between_closed k c)) went
        ∙ ap (option_and_then (judged (known_in operators) rest)) (if_true _ (Some (waits k (map (known_waiting operators) ws) (done_before ws ++ steps_of l))) None may)
        ∙ ap (λ z. judged (known_in operators) rest (let s : Judge = record { waiting = k ∷ map (known_waiting operators) ws; last = None; steps = z } in s))
        (append_assoc (done_before ws) (steps_of l) (a_symbol (applied fixity.Infix o) ∷ []))

    -- a tree, where it may be the last operand of what waits
    read_tree : (x : Expression) (ws : List Waiting) (rest : List AppliedOperator) → AllWait ws → IsFitting operators x → FitsTop operators ws x →
        judged (known_in operators) (operators_read x ++ rest) (judge_at ws term) ≡ judged (known_in operators) rest (judge_at (spine x ++ ws) (tip x))
    read_tree term ws rest h f u = refl
    read_tree (prefixed o x) ws rest h f u =
        prefix_read ws o x (operators_read x ++ rest) h f u
        ∙ read_tree x (before o ∷ ws) rest (one_waits (before o) ws (f.0, f.1)) f.2 f.3
        ∙ ap (λ vs. judged (known_in operators) rest (judge_at vs (tip x))) (sym (append_assoc (spine x) (before o ∷ []) ws))
    read_tree (postfixed o x) ws rest h f u =
        ap (λ l. judged (known_in operators) l (judge_at ws term)) (append_assoc (operators_read x) (applied fixity.Postfix o ∷ []) rest)
        ∙ read_tree x ws (applied fixity.Postfix o ∷ rest) h f.2 (operand_under ws o x h f u)
        ∙ postfix_read ws o x rest h f u
    read_tree (joined o l x) ws rest h f u =
        ap (λ z. judged (known_in operators) z (judge_at ws term)) (append_assoc (operators_read l) (applied fixity.Infix o ∷ operators_read x) rest)
        ∙ read_tree l ws (applied fixity.Infix o ∷ (operators_read x ++ rest)) h f.2 (left_under ws o l x h f u)
        ∙ infix_read ws o l x (operators_read x ++ rest) h f u
        ∙ read_tree x (between o l ∷ ws) rest (one_waits (between o l) ws (f.0, f.1, f.2, f.4)) f.3 f.5
        ∙ ap (λ vs. judged (known_in operators) rest (judge_at vs (tip x))) (sym (append_assoc (spine x) (between o l ∷ []) ws))

    none_waits : AllWait []
    none_waits w more e = absurd cc

    -- the steps of a tree that fits come of its operators
    pub tree_judged : (x : Expression) → IsFitting operators x → judgement (known_in operators) (operators_read x) ≡ Some (steps_of x)
    tree_judged x f =
        let whole = read_tree x [] [] none_waits f tt in
        ap (λ l. option_map finished (judged (known_in operators) l beginning)) (sym (append-nil (operators_read x)))
        ∙ ap (option_map finished) whole
        ∙ ap (λ c. Some (all_applied (map (known_waiting operators) (spine x ++ [])) c.steps)) (operand_at (spine x ++ []) (tip x))
        ∙ ap (λ (l : List Step). Some l) (all_past x [])
