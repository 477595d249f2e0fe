-- The operands of a row find each fitting tree that is spread over the text, where nothing after it goes on.
use Rattle.std.proofs.Common.{◌≡◌, ◌⊎◌, ◌<◌, ◌≤◌, ◌+◌, ◌||◌, ℕ, suc, Bool, true, false, cond, List, [], ◌∷◌, ◌++◌, inl, inr, length, refl, sym, ap, subst, ◌∙◌, append-nil, arith}
use Rattle.std.specs.Prelude.{Option, Some, None, find}
use Rattle.std.specs.Str.{bytes_eq}
use Rattle.std.proofs.lemmas.Slice.Eq.{bytes_eq-Decides}
use Rattle.pg_tree.specs.Trees.{Tree}
use Rattle.pg_grammar_form.specs.Operators.{Operator}
use Rattle.pg_grammar_form.specs.declared.decl.Role.{Role}
use Rattle.pg_grammar_form.specs.declared.decl.Role.TheVariants.{InfixLeft, InfixRight, InfixNone, Prefix, Postfix}
use Rattle.pg_grammar_value.specs.declared.trail.AppliedOperator.{AppliedOperator}
use Rattle.pg_grammar_value.specs.declared.trail.Fixity.TheVariants as fixity
use Rattle.pg_grammar_value.specs.declared.trail.TrailItem.{TrailItem}
use Rattle.pg_table.specs.Fitting.{Expression, term, prefixed, postfixed, joined, row, rank, IsPrefixed, IsUnary, IsJoined, IsFittingSide, IsInfix, IsAmong, IsFitting}
use Rattle.pg_table.specs.Trails as trails
use Rattle.pg_table.specs.Trails.{operators_read}
use Rattle.pg_table.specs.Tables.{is_prefix}
use Rattle.pg_expand.specs.declared.rows.Row.{Row}
use Rattle.pg_expand.proofs.Levels.{to_member, from_member}
use Rattle.pg_expand.proofs.Members.{Among}
use Rattle.pg_expand.proofs.Ranks.{side_rank, postfixed_operand}
use Rattle.pg_expand.proofs.RowTrees.{AreThose, IsRow}
use Rattle.pg_expand.proofs.Symbols.{infix_is_no_prefix}
use Rattle.pg_language.specs.Answers.{Given, Answers, AnswersRows, AnswersRowOperand, row_operand, AnswersTail, AnswersRight, AnswersLeft, AnswersNon}
use Rattle.pg_language.specs.Derives.{Spot, at, applied}
use Rattle.pg_language.specs.Errors.{Error, merge, no_messages_at}
use Rattle.pg_language.specs.OperatorReads.{Read, read_from, read_run, read_at}
use Rattle.pg_language.specs.Outcomes.{Outcome, ok, failed}
use Rattle.pg_language.specs.RowReactions.{Setting, no_affix, operators_of, items_of, joined_trail, noted_operator, then_stretch, past_prefix, with_prefix, postfix_outcome, with_postfix}
use Rattle.pg_language.specs.Reactions.{error_after}
use Rattle.pg_language.specs.Runs.{run_at, past_run, IsOperatorAt}
use Rattle.pg_language.proofs.ReadOn.{is_read}

-- a prefix and another operator are told by their symbols, which aren't empty
pub record IsClear (operators : List Operator) : Type 0 where
  pub above : (o : Operator) → IsAmong operators o → 0 < row operators o
  pub spelled : (o : Operator) → IsAmong operators o → 0 < length o.symbol
  pub told : (o p : Operator) → IsAmong operators o → IsAmong operators p → is_prefix o.role ≡ is_prefix p.role → o.symbol ≡ p.symbol → o ≡ p

-- the run has an ok outcome up to a spot, with a forest, and a trail that begins with these operators and goes on with these items
pub record Gives (Run : Outcome → ℕ → Type 0) (b : Spot) (v : List Tree) (os : List AppliedOperator) (u : List TrailItem) : Type 0 where
  pub consumed : Bool
  pub trail : List TrailItem
  pub error : Error
  pub count : ℕ
  pub run : Run (ok consumed b v trail error) count
  pub operators : operators_of trail ≡ os
  pub items : items_of trail ≡ u

-- it refuses without consuming
pub record Refuses (Run : Outcome → ℕ → Type 0) : Type 0 where
  pub error : Error
  pub count : ℕ
  pub run : Run (failed false error) count

-- ---- kinds of trees

abbrev pub IsOperandOf : List Operator → ℕ → Expression → Type 0
IsOperandOf operators k x = (rank operators x < k) ⊎ IsUnary operators k x

abbrev pub IsSideOf : List Operator → Role → ℕ → Expression → Type 0
IsSideOf operators side k x = IsOperandOf operators k x ⊎ IsJoined operators side k x

abbrev pub IsTop : List Operator → ℕ → Expression → Type 0
IsTop operators k term = ⊥
IsTop operators k (prefixed o x) = ⊥
IsTop operators k (postfixed o x) = ⊥
IsTop operators k (joined o x y) = row operators o ≡ k

pub split : (a b : ℕ) → a ≤ b → (a < b) ⊎ (a ≡ b)
split a b l = grind arith

pub as_top : (operators : List Operator) (k : ℕ) (x : Expression) → (rank operators x < suc k) ⊎ (rank operators x ≡ suc k) → IsOperandOf operators (suc k) x ⊎ IsTop operators (suc k) x
as_top operators k x (inl l) = inl (inl l)
as_top operators k term (inr e) = absurd (cc)
as_top operators k (prefixed o x) (inr e) = inl (inr e)
as_top operators k (postfixed o x) (inr e) = inl (inr e)
as_top operators k (joined o x y) (inr e) = inr e

-- the operand on the side to which an operator of the row associates
pub on_side : (operators : List Operator) (k : ℕ) (side : Role) (o : Operator) (x : Expression) → row operators o ≡ k → IsFittingSide operators side o x → IsSideOf operators side k x
on_side operators k side o x h (inl f) = inl (subst (λ r. IsOperandOf operators r x) h f)
on_side operators k side o x h (inr f) = inr (subst (λ r. IsJoined operators side r x) h f.1)

-- and on the other
pub only_operand : (operators : List Operator) (k : ℕ) (side : Role) (o : Operator) (x : Expression) → row operators o ≡ k → (o.role ≡ side → ⊥) → IsFittingSide operators side o x → IsOperandOf operators k x
only_operand operators k side o x h n (inl f) = subst (λ r. IsOperandOf operators r x) h f
only_operand operators k side o x h n (inr f) = absurd (n f.0)

-- ---- what an operator's role is not

infix_no_postfix : (role : Role) → IsInfix role → role ≡ Postfix → ⊥
infix_no_postfix InfixLeft i e = absurd cc
infix_no_postfix InfixRight i e = absurd cc
infix_no_postfix InfixNone i e = absurd cc
infix_no_postfix Prefix i e = absurd i
infix_no_postfix Postfix i e = absurd i

-- an infix operator associates to the right, to the left, or to neither side
pub data ThreeWays (role : Role) : Type 0 where
  to_right : role ≡ InfixRight → ThreeWays role
  to_left : role ≡ InfixLeft → ThreeWays role
  to_neither : role ≡ InfixNone → ThreeWays role

pub three_ways : (role : Role) → IsInfix role → ThreeWays role
three_ways InfixLeft i = to_left refl
three_ways InfixRight i = to_right refl
three_ways InfixNone i = to_neither refl
three_ways Prefix i = absurd i
three_ways Postfix i = absurd i

module _ (G : Given) (s : Setting) (operators : List Operator) (clear : IsClear operators) where
  abbrev pub Stands : Operator → ℕ → ℕ → Type 0
  Stands o i j = IsOperatorAt G.grammar G.text s.item o.symbol i j

  -- no operator of the table stands at the place
  abbrev pub NoOperator : ℕ → Type 0
  NoOperator i = (o : Operator) → IsAmong operators o → (j : ℕ) → Stands o i j → ⊥

  -- the operators and terms of a tree are spread over the text, each term as the term's node answers it
  pub data Spans : Expression → Spot → Spot → List Tree → List TrailItem → Type 0 where
    of_term : {a b : Spot} {c : Bool} {v : List Tree} {t : List TrailItem} {e : Error} {m : ℕ} → Answers G s.term a (ok c b v t e) m → NoOperator a.place → Spans term a b v t
    of_prefix : {o : Operator} {x : Expression} {j : ℕ} {a b : Spot} {v : List Tree} {t : List TrailItem} → Stands o a.place j → Spans x (at a j) b v t →
        Spans (prefixed o x) a b (applied s.builders.prefix o v) t
    of_postfix : {o : Operator} {x : Expression} {j : ℕ} {a b : Spot} {v : List Tree} {t : List TrailItem} → Spans x a b v t → Stands o b.place j →
        Spans (postfixed o x) a (at b j) (applied s.builders.postfix o v) t
    of_infix : {o : Operator} {x y : Expression} {j : ℕ} {a b c : Spot} {v w : List Tree} {t u : List TrailItem} → Spans x a b v t → Stands o b.place j → Spans y (at b j) c w u →
        Spans (joined o x y) a c (applied s.builders.infix o (v ++ w)) (t ++ u)

  -- ---- what is read of a row's operators

  -- at a place at most one prefix stands, and at most one other operator
  one_there : (o p : Operator) (i j k : ℕ) → IsAmong operators o → IsAmong operators p → is_prefix o.role ≡ is_prefix p.role → Stands o i j → Stands p i k → o ≡ p
  one_there o p i j k m n side h g = clear.told o p m n side (sym h.run ∙ g.run)

  abbrev pub NoneOf : Role → ℕ → ℕ → Type 0
  NoneOf role k i = (o : Operator) (j : ℕ) → IsAmong operators o → o.role ≡ role → row operators o ≡ k → Stands o i j → ⊥

  -- the operator is read, up to this place
  abbrev pub read_to : Operator → ℕ → Read
  read_to o j = record { operator = o; end = j }

  pub missed : (role : Role) (k i : ℕ) (those : List Operator) → AreThose operators role k those → NoneOf role k i → read_at G.grammar G.text s.item those i ≡ None
  missed role k i those are none = go (read_at G.grammar G.text s.item those i) refl
    where
      go : (w : Option Read) → read_at G.grammar G.text s.item those i ≡ w → read_at G.grammar G.text s.item those i ≡ None
      go None e = e
      go (Some q) e =
          let h = is_read G.grammar G.text s.item those i q e in
          let a = (are q.operator).0 (from_member those q.operator h.among) in
          absurd (none q.operator q.end a.0 a.1 a.2 h.there)

  -- of operators among which this one is, one is found whose symbol is this one's
  found_head : (test : Operator → Bool) (p o : Operator) (os : List Operator) (b : Bool) → test p ≡ b → test o ≡ true → (Among o os → (q : Operator) × (find test os ≡ Some q)) → Among o (p ∷ os) →
      (q : Operator) × (cond b (Some p) (find test os) ≡ Some q)
  found_head test p o os true e t rest m = (p, refl)
  found_head test p o os false e t rest (inl same) = absurd (true_false (sym t ∙ ap test same ∙ e))
    where
      true_false : true ≡ false → ⊥
      true_false h = cc
  found_head test p o os false e t rest (inr n) = rest n

  found_some : (test : Operator → Bool) (os : List Operator) (o : Operator) → Among o os → test o ≡ true → (p : Operator) × (find test os ≡ Some p)
  found_some test [] o m t = absurd m
  found_some test (p ∷ os) o m t = found_head test p o os (test p) refl t (λ n. found_some test os o n t) m

  pub taken : (role : Role) (k i j : ℕ) (those : List Operator) (o : Operator) → AreThose operators role k those → IsAmong operators o → o.role ≡ role → row operators o ≡ k → Stands o i j →
      read_at G.grammar G.text s.item those i ≡ Some (read_to o j)
  taken role k i j those o are m r here h = go (read_at G.grammar G.text s.item those i) refl
    where
      by_run : (run : List ℕ) → run_at G.grammar G.text s.item.class i ≡ run → run ≡ o.symbol → read_run G.grammar G.text s.item those i run ≡ None → ⊥
      by_run [] e same none = let long = clear.spelled o m in let short : length o.symbol ≡ 0 = ap length (sym same) in absurd (omega arith)
      by_run (c ∷ cs) e same none =
          let test : Operator → Bool = λ (p : Operator). bytes_eq p.symbol (c ∷ cs) in
          let p = found_some test those o (to_member those o ((are o).1 (m, r, here))) ((bytes_eq-Decides o.symbol (c ∷ cs)).1 (sym same)) in
          absurd (some_none (sym (ap (read_from G.grammar G.text s.item i) p.1) ∙ none))
        where
          some_none : {q : Read} → Some q ≡ None → ⊥
          some_none e = cc

      same_end : (q : Read) → q.operator ≡ o → q.end ≡ past_run G.grammar G.text s.item.gap (i + length q.operator.symbol) → q ≡ read_to o j
      same_end q e f = ends (f ∙ ap (λ (p : Operator). past_run G.grammar G.text s.item.gap (i + length p.symbol)) e ∙ sym h.past) e
        where
          ends : q.end ≡ j → q.operator ≡ o → q ≡ read_to o j
          ends f e = ap (λ n. read_to q.operator n) f ∙ ap (λ (p : Operator). read_to p j) e

      go : (w : Option Read) → read_at G.grammar G.text s.item those i ≡ w → read_at G.grammar G.text s.item those i ≡ Some (read_to o j)
      go None e = absurd (by_run (run_at G.grammar G.text s.item.class i) refl h.run e)
      go (Some q) e =
          let found = is_read G.grammar G.text s.item those i q e in
          let a = (are q.operator).0 (from_member those q.operator found.among) in
          let same = one_there q.operator o i q.end j a.0 m (ap is_prefix (a.1 ∙ sym r)) found.there h in
          e ∙ ap (λ (q : Read). Some q) (same_end q same found.there.past)

  -- ---- where rows end

  -- no infix or postfix operator of the rows up to k stands at the place
  abbrev pub Stops : ℕ → ℕ → Type 0
  Stops k i = (o : Operator) (j : ℕ) → IsAmong operators o → is_prefix o.role ≡ false → row operators o ≤ k → Stands o i j → ⊥

  -- where an operator of a looser row stands that is no prefix, the tighter rows stop
  stops_below : (k : ℕ) (o : Operator) (i j : ℕ) → IsAmong operators o → is_prefix o.role ≡ false → k < row operators o → Stands o i j → Stops k i
  stops_below k o i j m side l h p n there other low g =
      let same = one_there o p i j n m there (side ∙ sym other) h g in
      let rows : row operators o ≡ row operators p = ap (row operators) same in
      absurd (omega arith)

  -- no prefix of a looser row stands where a tree begins
  leftmost : (k : ℕ) (x : Expression) {a b : Spot} {v : List Tree} {t : List TrailItem} → IsFitting operators x → rank operators x < k → Spans x a b v t → NoneOf Prefix k a.place
  leftmost k term f l (of_term run bare) o j m e here h = bare o m j h
  leftmost k (prefixed p x) {a = a} f l (of_prefix {j = n} is d) o j m e here h =
      let same = one_there p o a.place n j f.0 m (ap is_prefix (f.1 ∙ sym e)) is h in
      let rows : row operators p ≡ row operators o = ap (row operators) same in
      absurd (omega arith)
  leftmost k (postfixed p x) f l (of_postfix d is) o j m e here h = leftmost k x f.2 (let low = postfixed_operand operators p x f.3 in omega arith) d o j m e here h
  leftmost k (joined p x y) f l (of_infix d is g) o j m e here h = leftmost k x f.2 (let low = side_rank operators InfixLeft p x f.4 in omega arith) d o j m e here h

  -- nothing of the row goes on after an operand
  abbrev pub OperandEnds : ℕ → ℕ → Type 0
  OperandEnds k i = Stops k i × NoneOf Postfix (suc k) i

  postfix_no_prefix : (role : Role) → role ≡ Postfix → is_prefix role ≡ false
  postfix_no_prefix role e = ap is_prefix e

  pub ends_where : (k i : ℕ) → Stops (suc k) i → OperandEnds k i
  ends_where k i stop = (λ o j m side low h. stop o j m side (omega arith) h, λ o j m e here h. stop o j m (postfix_no_prefix o.role e) (omega arith) h)

  -- at an infix operator of the row an operand ends
  pub ends_at : (k : ℕ) (o : Operator) (i j : ℕ) → IsAmong operators o → IsInfix o.role → row operators o ≡ suc k → Stands o i j → OperandEnds k i
  ends_at k o i j m between here h = (
    stops_below k o i j m (infix_is_no_prefix o.role between) (omega arith) h,
    λ p n there e row_is g. (let same = one_there o p i j n m there (infix_is_no_prefix o.role between ∙ sym (postfix_no_prefix p.role e)) h g in
        infix_no_postfix o.role between (ap (λ (q : Operator). q.role) same ∙ e)),
  )

  -- where one stands, none of another role does
  pub other_role : (k : ℕ) (o : Operator) (i j : ℕ) (role : Role) → IsAmong operators o → IsInfix o.role → is_prefix role ≡ false → (o.role ≡ role → ⊥) → Stands o i j → NoneOf role (suc k) i
  other_role k o i j role m between side differ h p n there e here g =
      let same = one_there o p i j n m there (infix_is_no_prefix o.role between ∙ sym (ap is_prefix e ∙ side)) h g in
      differ (ap (λ (q : Operator). q.role) same ∙ e)

  pub none_where : (k i : ℕ) (role : Role) → is_prefix role ≡ false → Stops (suc k) i → NoneOf role (suc k) i
  none_where k i role side stop o j m e here h = stop o j m (ap is_prefix e ∙ side) (omega arith) h

  -- ---- one row over the tighter ones

  module _ (k : ℕ) (r : Row) (tighter : List Row) (is : IsRow operators (suc k) r) where
    abbrev pub Operand : Spot → Outcome → ℕ → Type 0
    Operand a = AnswersRowOperand G s r tighter a

    abbrev pub Right : List Tree → Spot → Outcome → ℕ → Type 0
    Right v a = AnswersRight G s r tighter v a

    abbrev pub Left : List Tree → Spot → Outcome → ℕ → Type 0
    Left v a = AnswersLeft G s r tighter v a

    abbrev pub Non : List Tree → Spot → Outcome → ℕ → Type 0
    Non v a = AnswersNon G s r tighter v a

    abbrev pub Tail : List Tree → Spot → Outcome → ℕ → Type 0
    Tail v a = AnswersTail G s r tighter v a

    -- what the tighter rows find
    abbrev pub Finds : Type 0
    Finds = (x : Expression) (a b : Spot) (v : List Tree) (t : List TrailItem) → IsFitting operators x → rank operators x ≤ k → Spans x a b v t → Stops k b.place →
        Gives (AnswersRows G s tighter a) b v (operators_read x) t

    -- ---- an operand

    pub operand_run : (a : Spot) (o : Outcome) (m : ℕ) (w : Option Read) → read_at G.grammar G.text s.item r.prefix a.place ≡ w → AnswersRows G s tighter (past_prefix a w) o m →
        Operand a (with_postfix G.grammar G.text s r.postfix (with_prefix G.text s.builders r.prefix a w o)) m
    operand_run a o m w e run =
        subst (λ w. Operand a (with_postfix G.grammar G.text s r.postfix (with_prefix G.text s.builders r.prefix a w o)) m) e
        (row_operand (subst (λ w. AnswersRows G s tighter (past_prefix a w) o m) (sym e) run))

    -- an operand up to its postfix
    record Begun (a b : Spot) (v : List Tree) (os : List AppliedOperator) (u : List TrailItem) : Type 0 where
      consumed : Bool
      trail : List TrailItem
      error : Error
      count : ℕ
      run : Operand a (with_postfix G.grammar G.text s r.postfix (ok consumed b v trail error)) count
      read : operators_of trail ≡ os
      items : items_of trail ≡ u

    begun_plain : {a b : Spot} {v : List Tree} {os : List AppliedOperator} {u : List TrailItem} → NoneOf Prefix (suc k) a.place → Gives (AnswersRows G s tighter a) b v os u → Begun a b v os u
    begun_plain {a = a} none h = record {
      consumed = h.consumed;
      trail = joined_trail [] h.trail;
      error = error_after h.consumed (no_affix G.text r.prefix a.place) h.error;
      count = h.count;
      run = operand_run a _ h.count None (missed Prefix (suc k) a.place r.prefix is.prefix none) h.run;
      read = h.operators;
      items = h.items;
    }

    begun_prefixed : {a b : Spot} {v : List Tree} {os : List AppliedOperator} {u : List TrailItem} (o : Operator) (j : ℕ) → IsAmong operators o → o.role ≡ Prefix → row operators o ≡ suc k → Stands o a.place j →
        Gives (AnswersRows G s tighter (at a j)) b v os u → Begun a b (applied s.builders.prefix o v) (trails.applied fixity.Prefix o ∷ os) u
    begun_prefixed {a = a} o j m e here there h = record {
      consumed = true;
      trail = joined_trail (noted_operator fixity.Prefix o) h.trail;
      error = error_after h.consumed (no_messages_at j) h.error;
      count = h.count;
      run = operand_run a _ h.count (Some (read_to o j)) (taken Prefix (suc k) a.place j r.prefix o is.prefix m e here there) h.run;
      read = ap (λ (l : List AppliedOperator). trails.applied fixity.Prefix o ∷ l) h.operators;
      items = h.items;
    }

    postfix_run : (a b : Spot) (v : List Tree) (c : Bool) (t : List TrailItem) (e : Error) (m : ℕ) (w : Option Read) → read_at G.grammar G.text s.item r.postfix b.place ≡ w →
        Operand a (with_postfix G.grammar G.text s r.postfix (ok c b v t e)) m → Operand a (then_stretch c t e (postfix_outcome G.text s.builders r.postfix v b w)) m
    postfix_run a b v c t e m w h run = subst (λ w. Operand a (then_stretch c t e (postfix_outcome G.text s.builders r.postfix v b w)) m) h run

    operand_ended : {a b : Spot} {v : List Tree} {os : List AppliedOperator} {u : List TrailItem} → NoneOf Postfix (suc k) b.place → Begun a b v os u → Gives (Operand a) b v os u
    operand_ended {a = a} {b = b} {v = v} none h = record {
      consumed = h.consumed || false;
      trail = joined_trail h.trail [];
      error = merge h.error (no_affix G.text r.postfix b.place);
      count = h.count;
      run = postfix_run a b v h.consumed h.trail h.error h.count None (missed Postfix (suc k) b.place r.postfix is.postfix none) h.run;
      operators = append-nil (operators_of h.trail) ∙ h.read;
      items = append-nil (items_of h.trail) ∙ h.items;
    }

    operand_postfixed : {a b : Spot} {v : List Tree} {os : List AppliedOperator} {u : List TrailItem} (o : Operator) (j : ℕ) → IsAmong operators o → o.role ≡ Postfix → row operators o ≡ suc k → Stands o b.place j →
        Begun a b v os u → Gives (Operand a) (at b j) (applied s.builders.postfix o v) (os ++ trails.applied fixity.Postfix o ∷ []) u
    operand_postfixed {a = a} {b = b} {v = v} o j m e here there h = record {
      consumed = h.consumed || true;
      trail = joined_trail h.trail (noted_operator fixity.Postfix o);
      error = no_messages_at j;
      count = h.count;
      run = postfix_run a b v h.consumed h.trail h.error h.count (Some (read_to o j)) (taken Postfix (suc k) b.place j r.postfix o is.postfix m e here there) h.run;
      operators = ap (λ (l : List AppliedOperator). l ++ trails.applied fixity.Postfix o ∷ []) h.read;
      items = append-nil (items_of h.trail) ∙ h.items;
    }

    find_begun : Finds → (x : Expression) {a b : Spot} {v : List Tree} {t : List TrailItem} → IsFitting operators x → rank operators x < suc k → Spans x a b v t → Stops k b.place → Begun a b v (operators_read x) t
    find_begun find x f l d stop = begun_plain (leftmost (suc k) x f l d) (find x _ _ _ _ f (omega arith) d stop)

    find_postfixed : Finds → (o : Operator) (x : Expression) (j : ℕ) {a b : Spot} {v : List Tree} {t : List TrailItem} → IsFitting operators (postfixed o x) → row operators o ≡ suc k → Spans x a b v t → Stands o b.place j →
        (rank operators x < row operators o) ⊎ IsPrefixed operators (row operators o) x → Gives (Operand a) (at b j) (applied s.builders.postfix o v) (operators_read (postfixed o x)) t
    find_postfixed find o x j {b = b} f here d there (inl l) =
        operand_postfixed o j f.0 f.1 here there (find_begun find x f.2 (omega arith) d (stops_below k o b.place j f.0 (postfix_no_prefix o.role f.1) (omega arith) there))
    find_postfixed find o term j f here d there (inr u) = absurd u
    find_postfixed find o (prefixed p y) j {b = b} f here (of_prefix {j = i} is d) there (inr u) =
        operand_postfixed o j f.0 f.1 here there
        (begun_prefixed p i f.2.0 f.2.1 (u ∙ here) is (find y _ _ _ _ f.2.2 (let l = f.2.3 in omega arith) d (stops_below k o b.place j f.0 (postfix_no_prefix o.role f.1) (omega arith) there)))
    find_postfixed find o (postfixed p y) j f here d there (inr u) = absurd u
    find_postfixed find o (joined p y z) j f here d there (inr u) = absurd u

    pub find_operand : Finds → (x : Expression) {a b : Spot} {v : List Tree} {t : List TrailItem} → IsFitting operators x → IsOperandOf operators (suc k) x → Spans x a b v t → OperandEnds k b.place →
        Gives (Operand a) b v (operators_read x) t
    find_operand find x f (inl l) d ends = operand_ended ends.1 (find_begun find x f l d ends.0)
    find_operand find term f (inr u) d ends = absurd u
    find_operand find (prefixed o x) f (inr u) (of_prefix {j = j} is d) ends =
        operand_ended ends.1 (begun_prefixed o j f.0 f.1 u is (find x _ _ _ _ f.2 (let l = f.3 in omega arith) d ends.0))
    find_operand find (postfixed o x) f (inr u) (of_postfix {j = j} d is) ends = find_postfixed find o x j f u d is f.3
    find_operand find (joined o x y) f (inr u) d ends = absurd u
