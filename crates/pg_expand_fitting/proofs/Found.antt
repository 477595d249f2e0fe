-- Operators that are looked up by their symbol and side.
use Rattle.std.proofs.Common.{◌≡◌, ◌⊎◌, Bool, true, false, List, [], ◌∷◌, inl, inr, refl, sym, ap, ◌∙◌}
use Rattle.std.specs.Prelude.{Some, map, filter, if◌then◌else◌}
use Rattle.std.specs.Str.{bytes_eq}
use Rattle.std.proofs.lemmas.Slice.Eq.{bytes_eq-Decides}
use Rattle.pg_grammar_form.specs.Operators.{Operator}
use Rattle.pg_grammar_form.specs.declared.decl.Role.{Role}
use Rattle.pg_grammar_form.specs.declared.decl.Role.TheVariants.{InfixLeft, InfixRight, InfixNone, Prefix, Postfix}
use Rattle.pg_grammar_value.specs.declared.trail.AppliedOperator.{AppliedOperator}
use Rattle.pg_grammar_value.specs.declared.trail.Fixity.{Fixity}
use Rattle.pg_grammar_value.specs.declared.trail.Fixity.TheVariants as fixity
use Rattle.pg_table.specs.Tables.{is_prefix}
use Rattle.pg_table.specs.Fitting.{IsAmong}
use Rattle.pg_table.specs.Trails.{applied}
use Rattle.pg_expand.specs.Lookups.{with_row}
use Rattle.pg_expand.proofs.Members.{Among}
use Rattle.pg_expand.proofs.Levels.{to_member, from_member, filtered, kept}
use Rattle.pg_expand_fitting.specs.Steps.{AreTold}
use Rattle.pg_expand_fitting.specs.Judge.{Known, stands_on, first_known, known_in}
use Rattle.pg_expand_fitting.proofs.Waiting.{known}

module _ (operators : List Operator) where
  -- ---- what is found is of the table

  -- an operator of the table with this symbol, which stands on this side
  pub record IsFound (a : AppliedOperator) (k : Known) (among : List Operator) : Type 0 where
    pub operator : Operator
    pub member : Among operator among
    pub side : stands_on a.fixity operator.role ≡ true
    pub is_known : k ≡ record { row = (with_row operators operator).row; role = operator.role; applied = a }

  found_here : (a : AppliedOperator) (k : Known) (o : Operator) (os : List Operator) (b : Bool) → stands_on a.fixity o.role ≡ b →
      (first_known a (map (with_row operators) os) ≡ Some k → IsFound a k os) →
      (if b then Some (let found : Known = record { row = (with_row operators o).row; role = o.role; applied = a } in found) else first_known a (map (with_row operators) os)) ≡ Some k → IsFound a k (o ∷ os)
  found_here a k o os true t more e = record { operator = o; member = inl refl; side = t; is_known = sym (same e) }
    where
      same : {x y : Known} → Some x ≡ Some y → x ≡ y
      same e = cc
  found_here a k o os false t more e = let there = more e in record { operator = there.operator; member = inr there.member; side = there.side; is_known = there.is_known }

  found_known : (a : AppliedOperator) (k : Known) (os : List Operator) → first_known a (map (with_row operators) os) ≡ Some k → IsFound a k os
  found_known a k [] e = absurd cc
  found_known a k (o ∷ os) e = found_here a k o os (stands_on a.fixity o.role) refl (found_known a k os) e

  -- what the table has of it
  pub record IsOfTable (a : AppliedOperator) (k : Known) : Type 0 where
    pub operator : Operator
    pub among : IsAmong operators operator
    pub side : stands_on a.fixity operator.role ≡ true
    pub is_read : a ≡ applied a.fixity operator
    pub is_known : k ≡ known operators a.fixity operator

  pub of_table : (a : AppliedOperator) (k : Known) → known_in operators a ≡ Some k → IsOfTable a k
  of_table a k e =
      let there = found_known a k (filter (λ o. bytes_eq o.symbol a.symbol) operators) e in
      let member = filtered (λ o. bytes_eq o.symbol a.symbol) operators there.operator there.member in
      let same : there.operator.symbol ≡ a.symbol = (bytes_eq-Decides there.operator.symbol a.symbol).0 member.1 in
      let read : a ≡ applied a.fixity there.operator = ap (λ s. let x : AppliedOperator = record { fixity = a.fixity; symbol = s } in x) (sym same) in
      record {
        operator = there.operator;
        among = from_member operators there.operator member.0;
        side = there.side;
        is_read = read;
        is_known = there.is_known ∙ ap (λ x. let k : Known = record { row = (with_row operators there.operator).row; role = there.operator.role; applied = x } in k) read;
      }

  -- ---- what is of the table is found

  prefix_side : (side : Fixity) (r s : Role) → stands_on side r ≡ true → stands_on side s ≡ true → is_prefix r ≡ is_prefix s
  prefix_side fixity.Prefix r s p q = p ∙ sym q
  prefix_side fixity.Infix r s p q = infix_prefix r p ∙ sym (infix_prefix s q)
    where
      infix_prefix : (r : Role) → stands_on fixity.Infix r ≡ true → is_prefix r ≡ false
      infix_prefix InfixLeft e = refl
      infix_prefix InfixRight e = refl
      infix_prefix InfixNone e = refl
      infix_prefix Prefix e = absurd cc
      infix_prefix Postfix e = absurd cc
  prefix_side fixity.Postfix r s p q = postfix_prefix r p ∙ sym (postfix_prefix s q)
    where
      postfix_prefix : (r : Role) → stands_on fixity.Postfix r ≡ true → is_prefix r ≡ false
      postfix_prefix InfixLeft e = refl
      postfix_prefix InfixRight e = refl
      postfix_prefix InfixNone e = refl
      postfix_prefix Prefix e = absurd cc
      postfix_prefix Postfix e = refl

  some_known : (a : AppliedOperator) (o : Operator) (os : List Operator) → Among o os → stands_on a.fixity o.role ≡ true → (k : Known) × (first_known a (map (with_row operators) os) ≡ Some k)
  some_known a o [] m t = absurd m
  some_known a o (p ∷ os) (inl e) t =
      (record { row = (with_row operators p).row; role = p.role; applied = a }, ap (λ b. if b then Some (let k : Known = record { row = (with_row operators p).row; role = p.role; applied = a } in k) else first_known a (map (with_row operators) os)) (sym (ap (λ (q : Operator). stands_on a.fixity q.role) e) ∙ t))
  some_known a o (p ∷ os) (inr m) t = by_test (stands_on a.fixity p.role) (some_known a o os m t)
    where
      by_test : (b : Bool) → (k : Known) × (first_known a (map (with_row operators) os) ≡ Some k) →
          (k : Known) × ((if b then Some (let k : Known = record { row = (with_row operators p).row; role = p.role; applied = a } in k) else first_known a (map (with_row operators) os)) ≡ Some k)
      by_test true h = (record { row = (with_row operators p).row; role = p.role; applied = a }, refl)
      by_test false h = h

  pub table_known : (told : AreTold operators) (side : Fixity) (o : Operator) → IsAmong operators o → stands_on side o.role ≡ true → known_in operators (applied side o) ≡ Some (known operators side o)
  table_known told side o m t =
      let member = kept (λ p. bytes_eq p.symbol o.symbol) operators o (to_member operators o m) ((bytes_eq-Decides o.symbol o.symbol).1 refl) in
      let some = some_known (applied side o) o (filter (λ p. bytes_eq p.symbol o.symbol) operators) member t in
      let there = of_table (applied side o) some.0 some.1 in
      let symbols : o.symbol ≡ there.operator.symbol = ap (λ (a : AppliedOperator). a.symbol) there.is_read in
      let same : o ≡ there.operator = told o there.operator m there.among (prefix_side side o.role there.operator.role t there.side) symbols in
      some.1 ∙ ap (λ (k : Known). Some k) (there.is_known ∙ ap (known operators side) (sym same))
