-- The rows of a table, one over the other: each has operators of the table alone, of one role in each list and of its own row.
use Rattle.std.proofs.Common.{◌≡◌, ◌<◌, ◌≤◌, ◌==◌, ℕ, zero, suc, Bool, true, false, cond, List, [], ◌∷◌, filter, map, refl, sym, ap, subst, eqb-true, arith}
use Rattle.std.specs.Prelude.{reverse}
use mathlib.Core.List.{reverse_aux}
use Rattle.pg_grammar_form.specs.Operators.{Operator}
use Rattle.pg_grammar_form.specs.declared.decl.Role.{Role}
use Rattle.pg_grammar_form.specs.declared.decl.Role.TheVariants.{InfixLeft, InfixRight, InfixNone, Prefix, Postfix}
use Rattle.pg_table.specs.Fitting.{row, IsAmong}
use Rattle.pg_table.specs.Rows.{holds, row_of}
use Rattle.pg_table.specs.Tables.{is_prefix}
use Rattle.pg_expand.specs.Rows.{is_right, is_left, is_non, is_postfix, row_at, rows_of}
use Rattle.pg_expand.specs.declared.rows.Row.{Row}
use Rattle.pg_expand.proofs.Levels.{from_member, filtered, row_held, row_free, right_role, left_role, non_role, prefix_role, postfix_role}
use Rattle.pg_expand.proofs.Members.{Among}

-- these are operators of the table, of a role and a row
abbrev pub AreOf : List Operator → Role → ℕ → List Operator → Type 0
AreOf operators role k those = (o : Operator) → Among o those → IsAmong operators o × (o.role ≡ role) × (row operators o ≡ k)

-- the operators of a row are of the table's row k
pub record IsRowOf (operators : List Operator) (k : ℕ) (r : Row) : Type 0 where
  pub right : AreOf operators InfixRight k r.right
  pub left : AreOf operators InfixLeft k r.left
  pub non : AreOf operators InfixNone k r.non
  pub prefix : AreOf operators Prefix k r.prefix
  pub postfix : AreOf operators Postfix k r.postfix

-- so many rows, the loosest first
pub data AreLevels (operators : List Operator) : ℕ → List Row → Type 0 where
  no_level : AreLevels operators zero []
  level : {k : ℕ} {r : Row} {tighter : List Row} → IsRowOf operators (suc k) r → AreLevels operators k tighter → AreLevels operators (suc k) (r ∷ tighter)

module _ (operators : List Operator) where
  -- those of a role at a precedence
  those : (p : ℕ) (role : Role) (test : Role → Bool) → ((r : Role) → test r ≡ true → r ≡ role) →
      AreOf operators role (row_of operators p) (filter (λ o. test o.role) (filter (λ o. o.precedence == p) operators))
  those p role test only o m =
      let outer = filtered (λ o. test o.role) (filter (λ o. o.precedence == p) operators) o m in
      let inner = filtered (λ o. o.precedence == p) operators o outer.0 in
      (from_member operators o inner.0, only o.role outer.1, ap (row_of operators) (eqb-true o.precedence p inner.1))

  is_row : (p : ℕ) → IsRowOf operators (row_of operators p) (row_at operators p)
  is_row p = record {
    right = those p InfixRight is_right right_role;
    left = those p InfixLeft is_left left_role;
    non = those p InfixNone is_non non_role;
    prefix = those p Prefix is_prefix prefix_role;
    postfix = those p Postfix is_postfix postfix_role;
  }

  -- the precedences below a number, the tightest first
  abbrev below : ℕ → List ℕ
  below zero = []
  below (suc p) = p ∷ below p

  -- rows from this precedence on become all rows when those of the precedences below it are laid on them
  abbrev Stacks : ℕ → List ℕ → Type 0
  Stacks p ps = (rows : List Row) → AreLevels operators (row_of operators p) rows → AreLevels operators (row_of operators 0) (reverse_aux (map (row_at operators) ps) rows)

  stacks_held : (p : ℕ) (ps : List ℕ) → p < 10 → (b : Bool) → holds operators p ≡ b → Stacks p ps → Stacks (suc p) (cond b (p ∷ ps) ps)
  stacks_held p ps l true e rest rows are =
      let up = row_held operators p l e in
      rest (row_at operators p ∷ rows)
      (subst (λ k. AreLevels operators k (row_at operators p ∷ rows)) (sym up)
      (level (subst (λ k. IsRowOf operators k (row_at operators p)) up (is_row p)) are))
  stacks_held p ps l false e rest rows are = rest rows (subst (λ k. AreLevels operators k rows) (sym (row_free operators p l e)) are)

  stacks : (p : ℕ) → p ≤ 10 → Stacks p (filter (holds operators) (below p))
  stacks zero l rows are = are
  stacks (suc p) l rows are = stacks_held p (filter (holds operators) (below p)) (omega arith) (holds operators p) refl (stacks p (omega arith)) rows are

  -- the rows of a table are so
  pub levels : AreLevels operators (row_of operators 0) (reverse (rows_of operators))
  levels = stacks 10 (omega arith) [] no_level
