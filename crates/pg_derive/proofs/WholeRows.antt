-- The rows of a table have all of its operators, each in the row and under the role that are its own.
use Rattle.std.proofs.Common.{◌≡◌, ◌<◌, ◌≤◌, ◌==◌, ℕ, zero, suc, Bool, true, false, cond, List, [], ◌∷◌, filter, map, refl, sym, ap, subst, ◌∙◌, eqb-true, eq-eqb, inl, inr, arith}
use Rattle.std.specs.Prelude.{reverse}
use Rattle.std.specs.List.{AllByRecursion}
use mathlib.Core.List.{reverse_aux}
use Rattle.pg_grammar_form.specs.Operators.{Operator, IsOperator}
use Rattle.pg_grammar_form.specs.declared.decl.Role.{Role}
use Rattle.pg_grammar_form.specs.declared.decl.Role.TheVariants.{InfixLeft, InfixRight, InfixNone, Prefix, Postfix}
use Rattle.pg_table.specs.Fitting.{Expression, term, prefixed, postfixed, joined, row, rank, IsAmong, IsFitting}
use Rattle.pg_table.specs.Rows.{holds, row_of}
use Rattle.pg_table.specs.Tables.{is_prefix}
use Rattle.pg_expand.specs.Rows.{is_right, is_left, is_non, is_postfix, row_at, rows_of}
use Rattle.pg_expand.specs.declared.rows.Row.{Row}
use Rattle.pg_expand.proofs.Levels.{to_member, from_member, filtered, kept, held, row_held, row_free, tighter, one_row, right_role, left_role, non_role, prefix_role, postfix_role}
use Rattle.pg_expand.proofs.RowTrees.{AreThose, IsRow}
use Rattle.pg_expand.proofs.Members.{Among}

-- k rows, the loosest first, each with all operators of its own
pub data AreAllLevels (operators : List Operator) : ℕ → List Row → Type 0 where
  no_level : AreAllLevels operators zero []
  level : {k : ℕ} {r : Row} {tighter : List Row} → IsRow operators (suc k) r → AreAllLevels operators k tighter → AreAllLevels operators (suc k) (r ∷ tighter)

pub digit_of : (os : List Operator) → AllByRecursion IsOperator os → (o : Operator) → Among o os → o.precedence ≤ 9
digit_of [] h o m = absurd m
digit_of (p ∷ os) h o (inl e) = let is = h.0 in let low = is.digit in subst (λ (q : Operator). q.precedence ≤ 9) (sym e) low
digit_of (p ∷ os) h o (inr m) = digit_of os h.1 o m

module _ (operators : List Operator) (digits : AllByRecursion IsOperator operators) where
  -- those of a role at a precedence that holds an operator are those of its row
  those : (p : ℕ) (role : Role) (test : Role → Bool) → p ≤ 9 → holds operators p ≡ true → test role ≡ true → ((r : Role) → test r ≡ true → r ≡ role) →
      AreThose operators role (row_of operators p) (filter (λ o. test o.role) (filter (λ o. o.precedence == p) operators))
  those p role test l t here only o = (there, back)
    where
      there : IsAmong (filter (λ o. test o.role) (filter (λ o. o.precedence == p) operators)) o → IsAmong operators o × (o.role ≡ role) × (row operators o ≡ row_of operators p)
      there m =
          let outer = filtered (λ o. test o.role) (filter (λ o. o.precedence == p) operators) o (to_member (filter (λ o. test o.role) (filter (λ o. o.precedence == p) operators)) o m) in
          let inner = filtered (λ o. o.precedence == p) operators o outer.0 in
          (from_member operators o inner.0, only o.role outer.1, ap (row_of operators) (eqb-true o.precedence p inner.1))

      back : IsAmong operators o × (o.role ≡ role) × (row operators o ≡ row_of operators p) → IsAmong (filter (λ o. test o.role) (filter (λ o. o.precedence == p) operators)) o
      back h =
          let member = to_member operators o h.0 in
          let same = one_row operators o.precedence p (digit_of operators digits o member) l (held operators o member) t h.2 in
          from_member (filter (λ o. test o.role) (filter (λ o. o.precedence == p) operators)) o
          (kept (λ o. test o.role) (filter (λ o. o.precedence == p) operators) o (kept (λ o. o.precedence == p) operators o member (eq-eqb o.precedence p same)) (ap test h.1 ∙ here))

  is_row : (p : ℕ) → p ≤ 9 → holds operators p ≡ true → IsRow operators (row_of operators p) (row_at operators p)
  is_row p l t = record {
    right = those p InfixRight is_right l t refl right_role;
    left = those p InfixLeft is_left l t refl left_role;
    non = those p InfixNone is_non l t refl non_role;
    prefix = those p Prefix is_prefix l t refl prefix_role;
    postfix = those p Postfix is_postfix l t refl postfix_role;
  }

  -- the precedences below a number, the tightest first
  abbrev below : ℕ → List ℕ
  below zero = []
  below (suc p) = p ∷ below p

  -- rows from this precedence on become all rows when those of the precedences below it are laid on them
  abbrev Stacks : ℕ → List ℕ → Type 0
  Stacks p ps = (rows : List Row) → AreAllLevels operators (row_of operators p) rows → AreAllLevels operators (row_of operators 0) (reverse_aux (map (row_at operators) ps) rows)

  stacks_held : (p : ℕ) (ps : List ℕ) → p < 10 → (b : Bool) → holds operators p ≡ b → Stacks p ps → Stacks (suc p) (cond b (p ∷ ps) ps)
  stacks_held p ps l true e rest rows are =
      let up = row_held operators p l e in
      rest (row_at operators p ∷ rows)
      (subst (λ k. AreAllLevels operators k (row_at operators p ∷ rows)) (sym up)
      (level (subst (λ k. IsRow operators k (row_at operators p)) up (is_row p (omega arith) e)) are))
  stacks_held p ps l false e rest rows are = rest rows (subst (λ k. AreAllLevels operators k rows) (sym (row_free operators p l e)) are)

  stacks : (p : ℕ) → p ≤ 10 → Stacks p (filter (holds operators) (below p))
  stacks zero l rows are = are
  stacks (suc p) l rows are = stacks_held p (filter (holds operators) (below p)) (omega arith) (holds operators p) refl (stacks p (omega arith)) rows are

  -- the rows of a table are so
  pub all_levels : AreAllLevels operators (row_of operators 0) (reverse (rows_of operators))
  all_levels = stacks 10 (omega arith) [] no_level

  -- an operator of the table stands in some row
  pub above : (o : Operator) → IsAmong operators o → 0 < row operators o
  above o m =
      let member = to_member operators o m in
      let low = digit_of operators digits o member in
      let up = row_held operators o.precedence (omega arith) (held operators o member) in
      omega arith

  rank_of : (o : Operator) → IsAmong operators o → row operators o ≤ row_of operators 0
  rank_of o m = tighter operators 0 o.precedence (omega arith) (let low = digit_of operators digits o (to_member operators o m) in omega arith)

  -- a fitting tree has one of these rows
  pub rank_low : (x : Expression) → IsFitting operators x → rank operators x ≤ row_of operators 0
  rank_low term f = omega arith
  rank_low (prefixed o x) f = rank_of o f.0
  rank_low (postfixed o x) f = rank_of o f.0
  rank_low (joined o x y) f = rank_of o f.0
