-- The rows of a table, one over the other.
use Rattle.std.proofs.Common.{◌≡◌, ◌⊎◌, ◌<◌, ◌≤◌, ◌↔◌, ◌+◌, ◌-◌, ◌==◌, ℕ, zero, suc, Bool, true, false, cond, ◌||◌, List, [], ◌∷◌, filter, map, Some, inl, inr, refl, sym, ap, subst, ◌∙◌, eq-eqb, eqb-true, arith}
use Rattle.std.specs.List.{AllByRecursion}
use Rattle.std.proofs.lemmas.Bool.{or_right, cases_order}
use Rattle.pg_grammar_form.specs.Operators.{Operator, IsOperator}
use Rattle.pg_grammar_form.specs.declared.decl.Role.{Role}
use Rattle.pg_grammar_form.specs.declared.decl.Role.TheVariants.{InfixLeft, InfixRight, InfixNone, Prefix, Postfix}
use Rattle.pg_table.specs.Rows.{holds, rows_from, row_of}
use Rattle.pg_table.specs.Fitting.{Expression, term, prefixed, postfixed, joined, row, rank, IsAmong, IsFitting}
use Rattle.pg_expand.specs.Readings.{Token, reading}
use Rattle.pg_table.specs.Tables.{is_prefix}
use Rattle.pg_expand.specs.Rows.{is_right, is_left, is_non, is_postfix, row_at, rows_of}
use Rattle.pg_expand.specs.RowGrammar.{Language, IsTerm, a_lone_term, RowDerives, fold_derives, RowsDerive}
use Rattle.pg_expand.proofs.Members.{Among}
use Rattle.pg_expand.proofs.RowTrees.{IsExact, AreThose, IsRow, row_exact}

-- ---- members of filtered lists

same_some : (o p : Operator) → Some o ≡ Some p → o ≡ p
same_some o p e = cc

pub to_member : (os : List Operator) (o : Operator) → IsAmong os o → Among o os
to_member [] o (k, e) = absurd cc
to_member (p ∷ os) o (zero, e) = inl (sym (same_some p o e))
to_member (p ∷ os) o (suc k, e) = inr (to_member os o (k, e))

pub from_member : (os : List Operator) (o : Operator) → Among o os → IsAmong os o
from_member [] o h = absurd h
from_member (p ∷ os) o (inl e) = (0, ap (λ (q : Operator). Some q) (sym e))
from_member (p ∷ os) o (inr h) = let there = from_member os o h in (suc there.0, there.1)

filtered_either : (test : Operator → Bool) (p o : Operator) (os : List Operator) (b : Bool) → test p ≡ b → (Among o (filter test os) → Among o os × (test o ≡ true)) →
    Among o (cond b (p ∷ filter test os) (filter test os)) → Among o (p ∷ os) × (test o ≡ true)
filtered_either test p o os true e rest (inl m) = (inl m, ap test m ∙ e)
filtered_either test p o os true e rest (inr m) = let there = rest m in (inr there.0, there.1)
filtered_either test p o os false e rest m = let there = rest m in (inr there.0, there.1)

pub filtered : (test : Operator → Bool) (os : List Operator) (o : Operator) → Among o (filter test os) → Among o os × (test o ≡ true)
filtered test [] o h = absurd h
filtered test (p ∷ os) o h = filtered_either test p o os (test p) refl (λ m. filtered test os o m) h

kept_either : (o p : Operator) (os : List Operator) (b : Bool) → Among o os → Among o (cond b (p ∷ os) os)
kept_either o p os true m = inr m
kept_either o p os false m = m

pub kept : (test : Operator → Bool) (os : List Operator) (o : Operator) → Among o os → test o ≡ true → Among o (filter test os)
kept test [] o h t = absurd h
kept test (p ∷ os) o (inl m) t = subst (λ b. Among o (cond b (p ∷ filter test os) (filter test os))) (sym t ∙ ap test m) (inl m)
kept test (p ∷ os) o (inr m) t = kept_either o p (filter test os) (test p) (kept test os o m t)

pub held : (os : List Operator) (o : Operator) → Among o os → holds os o.precedence ≡ true
held [] o h = absurd h
held (p ∷ os) o (inl e) = ap (λ b. b || holds os o.precedence) (eq-eqb p.precedence o.precedence (ap (λ (q : Operator). q.precedence) (sym e)))
held (p ∷ os) o (inr h) = or_right (p.precedence == o.precedence) (holds os o.precedence) (held os o h)

-- a precedence is a digit
pub digit : (os : List Operator) (o : Operator) → AllByRecursion IsOperator os → Among o os → o.precedence ≤ 9
digit [] o all h = absurd h
digit (p ∷ os) o all (inl e) = subst (λ (q : Operator). q.precedence ≤ 9) (sym e) all.0.digit
digit (p ∷ os) o all (inr h) = digit os o all.1 h

-- ---- the numbers of rows

pub row_step : (os : List Operator) (p : ℕ) → p < 10 → row_of os p ≡ cond (holds os p) 1 0 + row_of os (suc p)
row_step os p h = let e : 10 - p ≡ suc (10 - suc p) = omega arith in ap (rows_from os p) e

pub row_held : (os : List Operator) (p : ℕ) → p < 10 → holds os p ≡ true → row_of os p ≡ suc (row_of os (suc p))
row_held os p h t = row_step os p h ∙ (ap (λ b. cond b 1 0 + row_of os (suc p)) t ∙ omega arith)

pub row_free : (os : List Operator) (p : ℕ) → p < 10 → holds os p ≡ false → row_of os p ≡ row_of os (suc p)
row_free os p h t = row_step os p h ∙ (ap (λ b. cond b 1 0 + row_of os (suc p)) t ∙ omega arith)

row_more : (os : List Operator) (p : ℕ) → p < 10 → row_of os (suc p) ≤ row_of os p
row_more os p h = let e = row_step os p h in omega arith

-- tighter precedences have lower rows
descends : (os : List Operator) (p n : ℕ) → p + n ≤ 10 → row_of os (p + n) ≤ row_of os p
descends os p zero h = let e : p + 0 ≡ p = omega arith in subst (λ q. row_of os q ≤ row_of os p) (sym e) (omega arith)
descends os p (suc n) h =
    let e : p + suc n ≡ suc (p + n) = omega arith in
    let below = row_more os (p + n) (omega arith) in
    let rest = descends os p n (omega arith) in
    subst (λ q. row_of os q ≤ row_of os p) (sym e) (omega arith)

pub tighter : (os : List Operator) (p q : ℕ) → p ≤ q → q ≤ 10 → row_of os q ≤ row_of os p
tighter os p q l h = let e : p + (q - p) ≡ q = omega arith in subst (λ r. row_of os r ≤ row_of os p) e (descends os p (q - p) (omega arith))

-- two precedences that hold an operator are one where their rows are
pub one_row : (os : List Operator) (p q : ℕ) → p ≤ 9 → q ≤ 9 → holds os p ≡ true → holds os q ≡ true → row_of os p ≡ row_of os q → p ≡ q
one_row os p q h k s t e = elim (cases_order p q) [
  | inl same ↦ same
  | inr (inl l) ↦ (let up = row_held os p (omega arith) s in let rest = tighter os (suc p) q (omega arith) (omega arith) in absurd (omega arith))
  | inr (inr l) ↦ (let up = row_held os q (omega arith) t in let rest = tighter os (suc q) p (omega arith) (omega arith) in absurd (omega arith))
]

-- ---- the operators of a row

pub right_role : (r : Role) → is_right r ≡ true → r ≡ InfixRight
right_role InfixLeft e = absurd cc
right_role InfixRight e = refl
right_role InfixNone e = absurd cc
right_role Prefix e = absurd cc
right_role Postfix e = absurd cc

pub left_role : (r : Role) → is_left r ≡ true → r ≡ InfixLeft
left_role InfixLeft e = refl
left_role InfixRight e = absurd cc
left_role InfixNone e = absurd cc
left_role Prefix e = absurd cc
left_role Postfix e = absurd cc

pub non_role : (r : Role) → is_non r ≡ true → r ≡ InfixNone
non_role InfixLeft e = absurd cc
non_role InfixRight e = absurd cc
non_role InfixNone e = refl
non_role Prefix e = absurd cc
non_role Postfix e = absurd cc

pub prefix_role : (r : Role) → is_prefix r ≡ true → r ≡ Prefix
prefix_role InfixLeft e = absurd cc
prefix_role InfixRight e = absurd cc
prefix_role InfixNone e = absurd cc
prefix_role Prefix e = refl
prefix_role Postfix e = absurd cc

pub postfix_role : (r : Role) → is_postfix r ≡ true → r ≡ Postfix
postfix_role InfixLeft e = absurd cc
postfix_role InfixRight e = absurd cc
postfix_role InfixNone e = absurd cc
postfix_role Prefix e = absurd cc
postfix_role Postfix e = refl

module _ (os : List Operator) (digits : AllByRecursion IsOperator os) where
  at_precedence : ℕ → List Operator
  at_precedence p = filter (λ o. o.precedence == p) os

  -- those of a role at a precedence that holds an operator are those of its row
  those : (p : ℕ) (role : Role) (test : Role → Bool) → p ≤ 9 → holds os p ≡ true → test role ≡ true → ((r : Role) → test r ≡ true → r ≡ role) →
      AreThose os role (row_of os p) (filter (λ o. test o.role) (filter (λ o. o.precedence == p) os))
  those p role test l t here only o = (there, back)
    where
      there : IsAmong (filter (λ o. test o.role) (filter (λ o. o.precedence == p) os)) o → IsAmong os o × (o.role ≡ role) × (row os o ≡ row_of os p)
      there m =
          let outer = filtered (λ o. test o.role) (filter (λ o. o.precedence == p) os) o (to_member (filter (λ o. test o.role) (filter (λ o. o.precedence == p) os)) o m) in
          let inner = filtered (λ o. o.precedence == p) os o outer.0 in
          (from_member os o inner.0, only o.role outer.1, ap (row_of os) (eqb-true o.precedence p inner.1))

      back : IsAmong os o × (o.role ≡ role) × (row os o ≡ row_of os p) → IsAmong (filter (λ o. test o.role) (filter (λ o. o.precedence == p) os)) o
      back h =
          let member = to_member os o h.0 in
          let same = one_row os o.precedence p (digit os o digits member) l (held os o member) t h.2 in
          from_member (filter (λ o. test o.role) (filter (λ o. o.precedence == p) os)) o
          (kept (λ o. test o.role) (filter (λ o. o.precedence == p) os) o (kept (λ o. o.precedence == p) os o member (eq-eqb o.precedence p same)) (ap test h.1 ∙ here))

  is_row : (p k : ℕ) → p ≤ 9 → holds os p ≡ true → row_of os p ≡ k → IsRow os k (row_at os p)
  is_row p k l t e = subst (λ k. IsRow os k (row_at os p)) e (record {
    right = those p InfixRight is_right l t refl right_role;
    left = those p InfixLeft is_left l t refl left_role;
    non = those p InfixNone is_non l t refl non_role;
    prefix = those p Prefix is_prefix l t refl prefix_role;
    postfix = those p Postfix is_postfix l t refl postfix_role;
  })

  -- ---- row over row

  above : (o : Operator) → IsAmong os o → row os o ≤ 0 → ⊥
  above o m l =
      let member = to_member os o m in
      let low = digit os o digits member in
      let up = row_held os o.precedence (omega arith) (held os o member) in
      absurd (omega arith)

  only_term : (x : Expression) → IsFitting os x → rank os x ≤ 0 → x ≡ term
  only_term term f l = refl
  only_term (prefixed o x) f l = absurd (above o f.0 l)
  only_term (postfixed o x) f l = absurd (above o f.0 l)
  only_term (joined o x y) f l = absurd (above o f.0 l)

  a_term_fits : {s : List Token} {x : Expression} → IsTerm s x → IsFitting os x × (rank os x ≤ 0) × (s ≡ reading x)
  a_term_fits a_lone_term = (tt, omega arith, refl)

  of_term : (s : List Token) (x : Expression) → x ≡ term → s ≡ reading x → IsTerm s x
  of_term s x e h = subst (λ y. IsTerm s y) (sym e) (subst (λ l. IsTerm l term) (sym (h ∙ ap reading e)) a_lone_term)

  term_exact : IsExact os (row_of os 10) IsTerm
  term_exact s x = (λ d. a_term_fits d, λ h. of_term s x (only_term x h.0 h.1) h.2)

  -- the precedences below a number, the tightest first
  abbrev below : ℕ → List ℕ
  below zero = []
  below (suc p) = p ∷ below p

  -- the rows of the precedences below one derive the fitting trees of the table over what derives those of the tighter rows
  abbrev Folds : ℕ → List ℕ → Type 1
  Folds p ps = (language : Language) → IsExact os (row_of os p) language → IsExact os (row_of os 0) (fold_derives language (map (row_at os) ps))

  folds_held : (p : ℕ) (ps : List ℕ) → p < 10 → (b : Bool) → holds os p ≡ b → Folds p ps → Folds (suc p) (cond b (p ∷ ps) ps)
  folds_held p ps l true e rest language exact =
      let up = row_held os p l e in
      rest (RowDerives (row_at os p) language)
      (subst (λ k. IsExact os k (RowDerives (row_at os p) language)) (sym up) (row_exact os (row_of os (suc p)) language exact (row_at os p) (is_row p (suc (row_of os (suc p))) (omega arith) e up)))
  folds_held p ps l false e rest language exact = rest language (subst (λ k. IsExact os k language) (sym (row_free os p l e)) exact)

  folds : (p : ℕ) → p ≤ 10 → Folds p (filter (holds os) (below p))
  folds zero l language exact = exact
  folds (suc p) l language exact = folds_held p (filter (holds os) (below p)) (omega arith) (holds os p) refl (folds p (omega arith)) language exact

  rank_low : (x : Expression) → IsFitting os x → rank os x ≤ row_of os 0
  rank_low term f = omega arith
  rank_low (prefixed o x) f = tighter os 0 o.precedence (omega arith) (let low = digit os o digits (to_member os o f.0) in omega arith)
  rank_low (postfixed o x) f = tighter os 0 o.precedence (omega arith) (let low = digit os o digits (to_member os o f.0) in omega arith)
  rank_low (joined o x y) f = tighter os 0 o.precedence (omega arith) (let low = digit os o digits (to_member os o f.0) in omega arith)

  -- the rows of a table derive its fitting trees with their readings, and nothing else
  pub rows_exact : (s : List Token) (x : Expression) → RowsDerive (rows_of os) s x ↔ (IsFitting os x × (s ≡ reading x))
  rows_exact s x =
      let all = folds 10 (omega arith) IsTerm term_exact s x in
      (λ d. (let h = all.0 d in (h.0, h.2)), λ h. all.1 (h.0, rank_low x h.0, h.1))
