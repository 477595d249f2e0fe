-- What the parsers inside an expression answer is a fitting tree, spread over the text.
use Rattle.std.proofs.Common.{◌≡◌, ◌⊎◌, ◌<◌, ◌≤◌, ℕ, zero, suc, Bool, true, false, List, [], ◌∷◌, ◌++◌, inl, inr, refl, sym, ap, subst, ◌∙◌, append-nil, append_assoc, arith}
use Rattle.std.specs.Prelude.{Option, Some, None}
use Rattle.pg_tree.specs.Trees.{Tree}
use Rattle.pg_grammar_form.specs.Operators.{Operator}
use Rattle.pg_grammar_form.specs.declared.decl.Role.{Role}
use Rattle.pg_grammar_form.specs.declared.used.BuilderUse.{BuilderUse}
use Rattle.pg_grammar_form.specs.declared.decl.Role.TheVariants.{InfixLeft, InfixRight, InfixNone, Prefix, Postfix}
use Rattle.pg_grammar_value.specs.declared.trail.Fixity.{Fixity}
use Rattle.pg_grammar_value.specs.declared.trail.Fixity.TheVariants as fixity
use Rattle.pg_grammar_value.specs.declared.trail.AppliedOperator.{AppliedOperator}
use Rattle.pg_grammar_value.specs.declared.trail.TrailItem.{TrailItem}
use Rattle.pg_grammar_value.specs.declared.trail.TrailItem.TheVariants.{Ops}
use Rattle.pg_language.specs.Derives.{Spot, at, applied, Derives, DerivesExpression, a_term, a_prefix, a_postfix, an_infix}
use Rattle.pg_table.specs.Fitting.{Expression, term, prefixed, postfixed, joined, row, rank, IsPrefixed, IsUnary, IsJoined, IsFittingSide, IsInfix, IsAmong, IsFitting}
use Rattle.pg_language.specs.Runs.{IsOperatorAt}
use Rattle.pg_table.specs.Trails as trails
use Rattle.pg_table.specs.Trails.{operators_read}
use Rattle.pg_expand.specs.declared.rows.Row.{Row}
use Rattle.pg_expand.proofs.Ranks.{unary_rank, joined_rank}
use Rattle.pg_language.specs.Answers.{Given}
use Rattle.pg_language.specs.Errors.{Error}
use Rattle.pg_language.specs.OperatorReads.{Read, read_at}
use Rattle.pg_language.specs.Outcomes.{Outcome, ok, failed, empty_round}
use Rattle.pg_language.specs.RowReactions.{Setting, operators_of, items_of, joined_trail, noted_operator, then_stretch, then_operand, as_applied, or_return, past_prefix, with_prefix, postfix_outcome, with_postfix, as_operand, or_ambiguous, with_last, labelled_operator}
use Rattle.pg_language.proofs.Derived.{Fact, WhereOk}
use Rattle.pg_language.proofs.ReadOn.{is_read}
use Rattle.pg_language.proofs.RowLevels.{AreOf, IsRowOf}

-- an operator of a role and a row of the table that stands at a place
pub record StandsInRow (G : Given) (s : Setting) (operators : List Operator) (role : Role) (k : ℕ) (i : ℕ) (q : Read) : Type 0 where
  pub among : IsAmong operators q.operator
  pub role_is : q.operator.role ≡ role
  pub row_is : row operators q.operator ≡ k
  pub there : IsOperatorAt G.grammar G.text s.item q.operator.symbol i q.end

pub stands_in_row : (G : Given) (s : Setting) (operators : List Operator) (role : Role) (k i : ℕ) (those : List Operator) (q : Read) → AreOf operators role k those →
    read_at G.grammar G.text s.item those i ≡ Some q → StandsInRow G s operators role k i q
stands_in_row G s operators role k i those q are e =
    let h = is_read G.grammar G.text s.item those i q e in
    let a = are q.operator h.among in
    record { among = a.0; role_is = a.1; row_is = a.2; there = h.there }

-- ---- kinds of trees, by the row that reads them

-- a tree that the row reads, or a tighter one
abbrev pub IsUpTo : List Operator → ℕ → Expression → Type 0
IsUpTo operators k x = rank operators x ≤ k

-- what an operand of the row is before its postfix
abbrev pub IsBegun : List Operator → ℕ → Expression → Type 0
IsBegun operators k x = (rank operators x < k) ⊎ IsPrefixed operators k x

-- an operand of the row
abbrev pub IsOperandOf : List Operator → ℕ → Expression → Type 0
IsOperandOf operators k x = (rank operators x < k) ⊎ IsUnary operators k x

-- what stands on the side of an operator of the row to which it associates
abbrev pub IsSideOf : List Operator → Role → ℕ → Expression → Type 0
IsSideOf operators side k x = IsOperandOf operators k x ⊎ IsJoined operators side k x

begun_operand : (operators : List Operator) (k : ℕ) (x : Expression) → IsBegun operators k x → IsOperandOf operators k x
begun_operand operators k x (inl l) = inl l
begun_operand operators k term (inr u) = absurd u
begun_operand operators k (prefixed o x) (inr u) = inr u
begun_operand operators k (postfixed o x) (inr u) = absurd u
begun_operand operators k (joined o x y) (inr u) = absurd u

pub operand_up_to : (operators : List Operator) (k : ℕ) (x : Expression) → IsOperandOf operators k x → IsUpTo operators k x
operand_up_to operators k x (inl l) = omega arith
operand_up_to operators k x (inr u) = let e = unary_rank operators k x u in omega arith

pub joined_up_to : (operators : List Operator) (role : Role) (k : ℕ) (x : Expression) → IsJoined operators role k x → IsUpTo operators k x
joined_up_to operators role k x h = let e = joined_rank operators role k x h in omega arith

infix_role : (r role : Role) → r ≡ role → IsInfix role → IsInfix r
infix_role r role e i = subst IsInfix (sym e) i

side_of_operand : (operators : List Operator) (k : ℕ) (side : Role) (o : Operator) (x : Expression) → row operators o ≡ k → IsOperandOf operators k x → IsFittingSide operators side o x
side_of_operand operators k side o x e h = inl (subst (λ r. IsOperandOf operators r x) (sym e) h)

side_of : (operators : List Operator) (k : ℕ) (side : Role) (o : Operator) (x : Expression) → row operators o ≡ k → o.role ≡ side → IsSideOf operators side k x → IsFittingSide operators side o x
side_of operators k side o x e r (inl h) = side_of_operand operators k side o x e h
side_of operators k side o x e r (inr h) = inr (r, subst (λ r. IsJoined operators side r x) (sym e) h)

-- ---- trees that are spread over the text

-- a fitting tree of a kind that is derived from one spot to another, with its operators and items as the trail of a stretch
pub record Spread (G : Given) (s : Setting) (operators : List Operator) (Kind : Expression → Type 0) (a b : Spot) (v : List Tree) (t : List TrailItem) : Type 0 where
  pub tree : Expression
  pub fits : IsFitting operators tree
  pub kind : Kind tree
  pub derived : DerivesExpression G.grammar G.text s.item s.builders s.term tree a b v (items_of t)
  pub read : operators_of t ≡ operators_read tree
  pub whole : Ops (operators_of t) ∷ items_of t ≡ t

-- ---- outcomes

pub ok_stretch : (D : Fact) (c : Bool) (t : List TrailItem) (e : Error) (o : Outcome) → WhereOk (λ b w u. D b w (joined_trail t u)) o → WhereOk D (then_stretch c t e o)
ok_stretch D c t e (ok d b w u f) h = h
ok_stretch D c t e (failed d f) h = tt
ok_stretch D c t e empty_round h = tt

pub ok_operand : (D : Fact) (side : Fixity) (q : Read) (o : Outcome) → WhereOk (λ b w u. D b w (joined_trail (noted_operator side q.operator) u)) o → WhereOk D (then_operand side q o)
ok_operand D side q (ok c b v t e) h = h
ok_operand D side q (failed c e) h = tt
ok_operand D side q empty_round h = tt

pub ok_return : (D : Fact) (a : Spot) (v : List Tree) (o : Outcome) → D a v [] → WhereOk D o → WhereOk D (or_return a v o)
ok_return D a v (ok c b w t e) g h = h
ok_return D a v (failed true e) g h = tt
ok_return D a v (failed false e) g h = g
ok_return D a v empty_round g h = tt

pub ok_applied : (D E : Fact) (used : BuilderUse) (o : Operator) (v : List Tree) (x : Outcome) →
    ((b : Spot) (w : List Tree) (t : List TrailItem) → D b w t → E b (applied used o (v ++ w)) t) → WhereOk D x → WhereOk E (as_applied used o v x)
ok_applied D E used o v (ok c b w t e) f h = f b w t h
ok_applied D E used o v (failed c e) f h = tt
ok_applied D E used o v empty_round f h = tt

pub ok_ambiguous : (D : Fact) (e : Error) (o : Outcome) → WhereOk D o → WhereOk D (or_ambiguous e o)
ok_ambiguous D e (ok c b v t f) h = h
ok_ambiguous D e (failed true f) h = tt
ok_ambiguous D e (failed false f) h = tt
ok_ambiguous D e empty_round h = tt

pub ok_labelled : (D : Fact) (o : Outcome) → WhereOk D o → WhereOk D (labelled_operator o)
ok_labelled D (ok c b v t e) h = h
ok_labelled D (failed c e) h = tt
ok_labelled D empty_round h = tt

module _ (G : Given) (s : Setting) (operators : List Operator) where
  -- a tree of one kind is one of another
  pub of_kind : (One Other : Expression → Type 0) (a b : Spot) (v : List Tree) (t : List TrailItem) → ((x : Expression) → One x → Other x) →
      Spread G s operators One a b v t → Spread G s operators Other a b v t
  of_kind One Other a b v t f h = record { tree = h.tree; fits = h.fits; kind = f h.tree h.kind; derived = h.derived; read = h.read; whole = h.whole }

  -- with nothing after it
  pub with_nothing : (Kind : Expression → Type 0) (a b : Spot) (v : List Tree) (t : List TrailItem) → Spread G s operators Kind a b v t →
      Spread G s operators Kind a b v (joined_trail t [])
  with_nothing Kind a b v t h = record {
    tree = h.tree;
    fits = h.fits;
    kind = h.kind;
    derived = subst (λ items. DerivesExpression G.grammar G.text s.item s.builders s.term h.tree a b v items) (sym (append-nil (items_of t))) h.derived;
    read = append-nil (operators_of t) ∙ h.read;
    whole = refl;
  }

  -- three stretches, joined in either order
  pub regrouped : (Kind : Expression → Type 0) (a b : Spot) (v : List Tree) (t u w : List TrailItem) → Spread G s operators Kind a b v (joined_trail (joined_trail t u) w) →
      Spread G s operators Kind a b v (joined_trail t (joined_trail u w))
  regrouped Kind a b v t u w h = record {
    tree = h.tree;
    fits = h.fits;
    kind = h.kind;
    derived = subst (λ items. DerivesExpression G.grammar G.text s.item s.builders s.term h.tree a b v items) (append_assoc (items_of t) (items_of u) (items_of w)) h.derived;
    read = sym (append_assoc (operators_of t) (operators_of u) (operators_of w)) ∙ h.read;
    whole = refl;
  }

  pub of_term : (a b : Spot) (v : List Tree) (t : List TrailItem) → Derives G.grammar G.text s.term a b v t → Spread G s operators (IsUpTo operators zero) a b v (Ops [] ∷ t)
  of_term a b v t d = record { tree = term; fits = tt; kind = omega arith; derived = a_term d; read = refl; whole = refl }

  -- ---- prefixes and postfixes

  prefix_spread : (k : ℕ) (a b : Spot) (v : List Tree) (t : List TrailItem) (q : Read) → StandsInRow G s operators Prefix (suc k) a.place q →
      Spread G s operators (IsUpTo operators k) (at a q.end) b v t →
      Spread G s operators (IsBegun operators (suc k)) a b (applied s.builders.prefix q.operator v) (joined_trail (noted_operator fixity.Prefix q.operator) t)
  prefix_spread k a b v t q r h = record {
    tree = prefixed q.operator h.tree;
    fits = (r.among, r.role_is, h.fits, (let l = h.kind in let e = r.row_is in omega arith));
    kind = inr r.row_is;
    derived = a_prefix r.there h.derived;
    read = ap (λ (l : List AppliedOperator). trails.applied fixity.Prefix q.operator ∷ l) h.read;
    whole = refl;
  }

  bare_spread : (k : ℕ) (a b : Spot) (v : List Tree) (t : List TrailItem) → Spread G s operators (IsUpTo operators k) a b v t →
      Spread G s operators (IsBegun operators (suc k)) a b v (joined_trail [] t)
  bare_spread k a b v t h = record { tree = h.tree; fits = h.fits; kind = inl (let l = h.kind in omega arith); derived = h.derived; read = h.read; whole = refl }

  postfix_spread : (k : ℕ) (a b : Spot) (v : List Tree) (t : List TrailItem) (q : Read) → StandsInRow G s operators Postfix (suc k) b.place q →
      Spread G s operators (IsBegun operators (suc k)) a b v t →
      Spread G s operators (IsOperandOf operators (suc k)) a (at b q.end) (applied s.builders.postfix q.operator v) (joined_trail t (noted_operator fixity.Postfix q.operator))
  postfix_spread k a b v t q r h = record {
    tree = postfixed q.operator h.tree;
    fits = (r.among, r.role_is, h.fits, subst (λ k. IsBegun operators k h.tree) (sym r.row_is) h.kind);
    kind = inr r.row_is;
    derived = subst (λ items. DerivesExpression G.grammar G.text s.item s.builders s.term (postfixed q.operator h.tree) a (at b q.end) (applied s.builders.postfix q.operator v) items)
        (sym (append-nil (items_of t))) (a_postfix h.derived r.there);
    read = ap (λ (l : List AppliedOperator). l ++ trails.applied fixity.Postfix q.operator ∷ []) h.read;
    whole = refl;
  }

  -- ---- infix operators

  infix_spread : (role : Role) (k : ℕ) (Left Right Kind : Expression → Type 0) (a b c : Spot) (v w : List Tree) (t u : List TrailItem) (q : Read) → IsInfix role →
      StandsInRow G s operators role k b.place q → (h : Spread G s operators Left a b v t) (g : Spread G s operators Right (at b q.end) c w u) →
      IsFittingSide operators InfixLeft q.operator h.tree → IsFittingSide operators InfixRight q.operator g.tree → Kind (joined q.operator h.tree g.tree) →
      Spread G s operators Kind a c (applied s.builders.infix q.operator (v ++ w)) (joined_trail t (joined_trail (noted_operator fixity.Infix q.operator) u))
  infix_spread role k Left Right Kind a b c v w t u q i r h g left right kind = record {
    tree = joined q.operator h.tree g.tree;
    fits = (r.among, infix_role q.operator.role role r.role_is i, h.fits, g.fits, left, right);
    kind = kind;
    derived = an_infix h.derived r.there g.derived;
    read = ap (λ (l : List AppliedOperator). l ++ trails.applied fixity.Infix q.operator ∷ operators_of u) h.read
        ∙ ap (λ (l : List AppliedOperator). operators_read h.tree ++ trails.applied fixity.Infix q.operator ∷ l) g.read;
    whole = refl;
  }

  pub right_spread : (k : ℕ) (a b c : Spot) (v w : List Tree) (t u : List TrailItem) (q : Read) → StandsInRow G s operators InfixRight (suc k) b.place q →
      Spread G s operators (IsOperandOf operators (suc k)) a b v t → Spread G s operators (IsSideOf operators InfixRight (suc k)) (at b q.end) c w u →
      Spread G s operators (IsJoined operators InfixRight (suc k)) a c (applied s.builders.infix q.operator (v ++ w)) (joined_trail t (joined_trail (noted_operator fixity.Infix q.operator) u))
  right_spread k a b c v w t u q r h g = infix_spread InfixRight (suc k) _ _ (IsJoined operators InfixRight (suc k)) a b c v w t u q tt r h g
      (side_of_operand operators (suc k) InfixLeft q.operator h.tree r.row_is h.kind) (side_of operators (suc k) InfixRight q.operator g.tree r.row_is r.role_is g.kind) (r.row_is, r.role_is)

  pub left_spread : (k : ℕ) (a b c : Spot) (v w : List Tree) (t u : List TrailItem) (q : Read) → StandsInRow G s operators InfixLeft (suc k) b.place q →
      Spread G s operators (IsSideOf operators InfixLeft (suc k)) a b v t → Spread G s operators (IsOperandOf operators (suc k)) (at b q.end) c w u →
      Spread G s operators (IsJoined operators InfixLeft (suc k)) a c (applied s.builders.infix q.operator (v ++ w)) (joined_trail t (joined_trail (noted_operator fixity.Infix q.operator) u))
  left_spread k a b c v w t u q r h g = infix_spread InfixLeft (suc k) _ _ (IsJoined operators InfixLeft (suc k)) a b c v w t u q tt r h g
      (side_of operators (suc k) InfixLeft q.operator h.tree r.row_is r.role_is h.kind) (side_of_operand operators (suc k) InfixRight q.operator g.tree r.row_is g.kind) (r.row_is, r.role_is)

  non_spread : (k : ℕ) (a b c : Spot) (v w : List Tree) (t u : List TrailItem) (q : Read) → StandsInRow G s operators InfixNone (suc k) b.place q →
      Spread G s operators (IsOperandOf operators (suc k)) a b v t → Spread G s operators (IsOperandOf operators (suc k)) (at b q.end) c w u →
      Spread G s operators (IsUpTo operators (suc k)) a c (applied s.builders.infix q.operator (v ++ w)) (joined_trail t (joined_trail (noted_operator fixity.Infix q.operator) u))
  non_spread k a b c v w t u q r h g = infix_spread InfixNone (suc k) _ _ (IsUpTo operators (suc k)) a b c v w t u q tt r h g
      (side_of_operand operators (suc k) InfixLeft q.operator h.tree r.row_is h.kind) (side_of_operand operators (suc k) InfixRight q.operator g.tree r.row_is g.kind) (let e = r.row_is in omega arith)

  -- ---- outcomes

  -- a prefix, or none
  prefixed_ok : (k : ℕ) (r : Row) (a : Spot) (w : Option Read) (o : Outcome) → AreOf operators Prefix (suc k) r.prefix → read_at G.grammar G.text s.item r.prefix a.place ≡ w →
      WhereOk (Spread G s operators (IsUpTo operators k) (past_prefix a w)) o → WhereOk (Spread G s operators (IsBegun operators (suc k)) a) (with_prefix G.text s.builders r.prefix a w o)
  prefixed_ok k r a None (ok c b v t e) are read h = bare_spread k a b v t h
  prefixed_ok k r a None (failed c e) are read h = tt
  prefixed_ok k r a None empty_round are read h = tt
  prefixed_ok k r a (Some q) (ok c b v t e) are read h = prefix_spread k a b v t q (stands_in_row G s operators Prefix (suc k) a.place r.prefix q are read) h
  prefixed_ok k r a (Some q) (failed c e) are read h = tt
  prefixed_ok k r a (Some q) empty_round are read h = tt

  postfixed_by : (k : ℕ) (r : Row) (a b : Spot) (v : List Tree) (t : List TrailItem) (c : Bool) (e : Error) (w : Option Read) → AreOf operators Postfix (suc k) r.postfix →
      read_at G.grammar G.text s.item r.postfix b.place ≡ w → Spread G s operators (IsBegun operators (suc k)) a b v t →
      WhereOk (Spread G s operators (IsOperandOf operators (suc k)) a) (then_stretch c t e (postfix_outcome G.text s.builders r.postfix v b w))
  postfixed_by k r a b v t c e None are read h = of_kind _ _ a b v (joined_trail t []) (begun_operand operators (suc k)) (with_nothing _ a b v t h)
  postfixed_by k r a b v t c e (Some q) are read h = postfix_spread k a b v t q (stands_in_row G s operators Postfix (suc k) b.place r.postfix q are read) h

  -- a postfix, or none
  postfixed_ok : (k : ℕ) (r : Row) (a : Spot) (o : Outcome) → AreOf operators Postfix (suc k) r.postfix → WhereOk (Spread G s operators (IsBegun operators (suc k)) a) o →
      WhereOk (Spread G s operators (IsOperandOf operators (suc k)) a) (with_postfix G.grammar G.text s r.postfix o)
  postfixed_ok k r a (ok c b v t e) are h = postfixed_by k r a b v t c e (read_at G.grammar G.text s.item r.postfix b.place) are refl h
  postfixed_ok k r a (failed c e) are h = tt
  postfixed_ok k r a empty_round are h = tt

  pub operand_ok_spread : (k : ℕ) (r : Row) (a : Spot) (o : Outcome) → IsRowOf operators (suc k) r →
      WhereOk (Spread G s operators (IsUpTo operators k) (past_prefix a (read_at G.grammar G.text s.item r.prefix a.place))) o →
      WhereOk (Spread G s operators (IsOperandOf operators (suc k)) a) (as_operand G.grammar G.text s r a o)
  operand_ok_spread k r a o is h =
      postfixed_ok k r a (with_prefix G.text s.builders r.prefix a (read_at G.grammar G.text s.item r.prefix a.place) o) is.postfix
      (prefixed_ok k r a (read_at G.grammar G.text s.item r.prefix a.place) o is.prefix refl h)

  -- after an operator that isn't associative
  pub last_ok : (k : ℕ) (r : Row) (a b : Spot) (v : List Tree) (t : List TrailItem) (q : Read) (o : Outcome) → StandsInRow G s operators InfixNone (suc k) b.place q →
      Spread G s operators (IsOperandOf operators (suc k)) a b v t → WhereOk (Spread G s operators (IsOperandOf operators (suc k)) (at b q.end)) o →
      WhereOk (λ z w u. Spread G s operators (IsUpTo operators (suc k)) a z w (joined_trail t u)) (then_operand fixity.Infix q (with_last G.grammar G.text s r q v o))
  last_ok k r a b v t q (ok c z w u e) is h g = non_spread k a b z v w t (joined_trail u []) q is h (with_nothing _ (at b q.end) z w u g)
  last_ok k r a b v t q (failed c e) is h g = tt
  last_ok k r a b v t q empty_round is h g = tt
