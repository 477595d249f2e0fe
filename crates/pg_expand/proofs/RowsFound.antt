-- Of each row and role those are found by a symbol that have it.
use Rattle.std.proofs.Common.{◌≡◌, ◌==◌, ◌&&◌, ℕ, suc, Bool, true, false, cond, List, [], ◌∷◌, filter, map, slice_get, Option, Some, None, refl, sym, ap, ◌∙◌, inl, inr, eqb-true, arith}
use Rattle.std.specs.Prelude.{unwrap_or, find}
use Rattle.std.specs.Option.{option_map}
use Rattle.std.specs.Str.{bytes_eq}
use Rattle.std.proofs.lemmas.Option.{slice_get-map}
use Rattle.std.proofs.lemmas.Bool.{and_right, and_left, false_from_ne_true}
use Rattle.pg_grammar_form.specs.Operators.{Operator}
use Rattle.pg_grammar_form.specs.declared.decl.Role.{Role}
use Rattle.pg_grammar_form.specs.declared.decl.Role.TheVariants.{InfixLeft, InfixRight, InfixNone, Prefix, Postfix}
use Rattle.pg_table.specs.Rows.{rows}
use Rattle.pg_table.specs.Fitting.{row}
use Rattle.pg_expand.specs.declared.lookup.RowOperator.{RowOperator}
use Rattle.pg_expand.specs.declared.rows.Row.{Row}
use Rattle.pg_expand.specs.Rows.{is_role, by_role, row_at, of_role, row_numbered}
use Rattle.pg_expand.specs.Lookups.{with_row, with_symbol, is_of, in_row, RowsAndLookupsAgree}
use Rattle.pg_expand.proofs.Members.{Among}
use Rattle.pg_expand.proofs.RowNumbers.{number-precedence, row_past, row_low}

-- ---- filtered lists

filter-filter : {A : Type 0} (f g : A → Bool) (xs : List A) → filter f (filter g xs) ≡ filter (λ x. g x && f x) xs
filter-filter f g [] = refl
filter-filter f g (x ∷ xs) = by_first (g x) (filter-filter f g xs)
  where
    by_first : (b : Bool) → filter f (filter g xs) ≡ filter (λ x. g x && f x) xs →
        filter f (cond b (x ∷ filter g xs) (filter g xs)) ≡ cond (b && f x) (x ∷ filter (λ x. g x && f x) xs) (filter (λ x. g x && f x) xs)
    by_first true e = ap (λ l. cond (f x) (x ∷ l) l) e
    by_first false e = e

filter-map : {A B : Type 0} (f : B → Bool) (h : A → B) (xs : List A) → filter f (map h xs) ≡ map h (filter (λ x. f (h x)) xs)
filter-map f h [] = refl
filter-map f h (x ∷ xs) = by_first (f (h x)) (filter-map f h xs)
  where
    by_first : (b : Bool) → filter f (map h xs) ≡ map h (filter (λ x. f (h x)) xs) →
        cond b (h x ∷ filter f (map h xs)) (filter f (map h xs)) ≡ map h (cond b (x ∷ filter (λ x. f (h x)) xs) (filter (λ x. f (h x)) xs))
    by_first true e = ap (λ l. h x ∷ l) e
    by_first false e = e

filter-same : (f g : Operator → Bool) (os : List Operator) → ((o : Operator) → Among o os → f o ≡ g o) → filter f os ≡ filter g os
filter-same f g [] e = refl
filter-same f g (o ∷ os) e =
    ap (λ b. cond b (o ∷ filter f os) (filter f os)) (e o (inl refl))
    ∙ ap (λ (l : List Operator). cond (g o) (o ∷ l) l) (filter-same f g os (λ p m. e p (inr m)))

filter-none : (f : Operator → Bool) (os : List Operator) → ((o : Operator) → f o ≡ false) → filter f os ≡ []
filter-none f [] e = refl
filter-none f (o ∷ os) e = ap (λ b. cond b (o ∷ filter f os) (filter f os)) (e o) ∙ filter-none f os e

without_rows : (os all : List Operator) → map (λ (f : RowOperator). f.operator) (map (with_row all) os) ≡ os
without_rows [] all = refl
without_rows (o ∷ os) all = ap (λ l. o ∷ l) (without_rows os all)

-- ---- tests

turned : (a b : Bool) → (a && b) ≡ (b && a)
turned true true = refl
turned true false = refl
turned false true = refl
turned false false = refl

-- ---- rows

role-by_role : (role : Role) (os : List Operator) → of_role role (by_role os) ≡ filter (λ o. is_role role o.role) os
role-by_role InfixLeft os = refl
role-by_role InfixRight os = refl
role-by_role InfixNone os = refl
role-by_role Prefix os = refl
role-by_role Postfix os = refl

module _ (os : List Operator) (k : ℕ) (role : Role) (symbol : List ℕ) where
  abbrev named : Operator → Bool
  named o = bytes_eq o.symbol symbol

  abbrev wanted : Operator → Bool
  wanted o = (row os o == suc k) && is_role role o.role

  -- what is found of a row and role, by a test of the table's operators
  by_test : in_row (suc k) role (with_symbol os symbol) ≡ filter (λ o. named o && wanted o) os
  by_test =
      ap (map (λ (f : RowOperator). f.operator)) (filter-map (is_of (suc k) role) (with_row os) (filter named os))
      ∙ (without_rows (filter wanted (filter named os)) os ∙ filter-filter wanted named os)

  of_precedence : (p : ℕ) → slice_get (rows os) k ≡ Some p → filter (λ o. named o && wanted o) os ≡ filter named (of_role role (row_at os p))
  of_precedence p e =
      filter-same (λ o. named o && wanted o) (λ o. ((o.precedence == p) && is_role role o.role) && named o) os
      (λ o m. ap (λ b. named o && (b && is_role role o.role)) (number-precedence os k p o e m) ∙ turned (named o) ((o.precedence == p) && is_role role o.role))
      ∙ (sym (filter-filter named (λ o. (o.precedence == p) && is_role role o.role) os)
      ∙ (ap (filter named) (sym (filter-filter (λ o. is_role role o.role) (λ o. o.precedence == p) os))
      ∙ ap (filter named) (sym (role-by_role role (filter (λ o. o.precedence == p) os)))))

  of_none : slice_get (rows os) k ≡ None → filter (λ o. named o && wanted o) os ≡ filter named (of_role role (by_role []))
  of_none e =
      let far = row_past os k e in
      filter-none (λ o. named o && wanted o) os
      (λ o. and_right (named o) (wanted o) (and_left (row os o == suc k) (is_role role o.role) (false_from_ne_true (row os o == suc k)
      (λ h. let same : row os o ≡ suc k = eqb-true (row os o) (suc k) h in let low = row_low os o.precedence in absurd (omega arith)))))
      ∙ ap (filter named) (sym (role-by_role role []))

  numbered : row_numbered os (suc k) ≡ unwrap_or (option_map (row_at os) (slice_get (rows os) k)) (by_role [])
  numbered = ap (λ (x : Option Row). unwrap_or x (by_role [])) (slice_get-map (row_at os) (rows os) k)

  by_place : (x : Option ℕ) → slice_get (rows os) k ≡ x → filter (λ o. named o && wanted o) os ≡ filter named (of_role role (unwrap_or (option_map (row_at os) x) (by_role [])))
  by_place None e = of_none e
  by_place (Some p) e = of_precedence p e

  agree : in_row (suc k) role (with_symbol os symbol) ≡ filter named (of_role role (row_numbered os (suc k)))
  agree = by_test ∙ (by_place (slice_get (rows os) k) refl ∙ ap (λ (r : Row). filter named (of_role role r)) (sym numbered))

pub rows_and_lookups_agree : RowsAndLookupsAgree
rows_and_lookups_agree operators k role symbol = agree operators k role symbol

-- ---- the first of them

abbrev first : {A : Type 0} → List A → Option A
first [] = None
first (x ∷ xs) = Some x

find-first : {A : Type 0} (f : A → Bool) (xs : List A) → find f xs ≡ first (filter f xs)
find-first f [] = refl
find-first f (x ∷ xs) = by_first (f x) (find-first f xs)
  where
    by_first : (b : Bool) → find f xs ≡ first (filter f xs) → cond b (Some x) (find f xs) ≡ first (cond b (x ∷ filter f xs) (filter f xs))
    by_first true e = refl
    by_first false e = e

first-map : {A B : Type 0} (h : A → B) (xs : List A) → first (map h xs) ≡ option_map h (first xs)
first-map h [] = refl
first-map h (x ∷ xs) = refl

-- the first that is found of a row and role is the first of the row's that has the symbol
pub first_agrees : (operators : List Operator) (k : ℕ) (role : Role) (symbol : List ℕ) →
    option_map (λ (f : RowOperator). f.operator) (find (is_of (suc k) role) (with_symbol operators symbol)) ≡ find (λ o. bytes_eq o.symbol symbol) (of_role role (row_numbered operators (suc k)))
first_agrees operators k role symbol =
    ap (option_map (λ (f : RowOperator). f.operator)) (find-first (is_of (suc k) role) (with_symbol operators symbol))
    ∙ (sym (first-map (λ (f : RowOperator). f.operator) (filter (is_of (suc k) role) (with_symbol operators symbol)))
    ∙ (ap (λ (l : List Operator). first l) (agree operators k role symbol)
    ∙ sym (find-first (λ o. bytes_eq o.symbol symbol) (of_role role (row_numbered operators (suc k))))))
