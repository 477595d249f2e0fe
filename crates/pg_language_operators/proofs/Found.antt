-- What is found by the run is what is read of each row.
use Rattle.std.proofs.Common.{◌≡◌, ◌<◌, ◌≤◌, ◌+◌, ℕ, suc, List, [], ◌∷◌, Option, Some, None, length, refl, sym, ap, ◌∙◌, arith}
use Rattle.std.specs.Prelude.{◌==◌, ◌&&◌, ◌||◌, find, filter, map, Bool, true, false, cond}
use Rattle.std.proofs.lemmas.List.{drop_all}
use Rattle.std.specs.Option.{option_map}
use Rattle.std.specs.List.{take_while}
use Rattle.std.specs.Str.{bytes_eq}
use Rattle.std.proofs.lemmas.Slice.Eq.{bytes_eq-Decides}
use Rattle.pg_grammar_form.specs.Operators.{Operator}
use Rattle.pg_grammar_form.specs.declared.decl.Role.{Role}
use Rattle.pg_grammar_form.specs.declared.operators_item.OperatorsItem.{OperatorsItem}
use Rattle.pg_grammar_value.specs.Grammar.{Grammar}
use Rattle.pg_expand.specs.declared.lookup.RowOperator.{RowOperator}
use Rattle.pg_expand.specs.Rows.{is_role, of_role, row_numbered}
use Rattle.pg_grammar_form.specs.ClassItems.{has_character}
use Rattle.pg_expand.specs.Lookups.{Groups, found, is_of, with_row, IsLookupOf}
use Rattle.pg_expand.proofs.RowsFound.{first_agrees}
use Rattle.pg_language.specs.Runs.{run_at, past_run}
use Rattle.pg_language.specs.OperatorReads.{Read, read_from, read_run}
use Rattle.pg_language.proofs.DeclarationsDerived.{found as passes}
use Rattle.pg_language_operators.specs.declared.standing.Standing.{Standing}
use Rattle.pg_language_operators.specs.Standings.{has_row, read_up_to, reads, Stands}

-- ---- symbols of what is found

-- what is found by a symbol has it
symbol_found : (symbol : List ℕ) (all os : List Operator) (test : RowOperator → Bool) (f : RowOperator) →
    find test (map (with_row all) (filter (λ o. bytes_eq o.symbol symbol) os)) ≡ Some f → f.operator.symbol ≡ symbol
symbol_found symbol all [] test f e = absurd cc
symbol_found symbol all (o ∷ os) test f e = go (bytes_eq o.symbol symbol) refl (λ h. symbol_found symbol all os test f h) e
  where
    first : (b : Bool) → bytes_eq o.symbol symbol ≡ true →
        (find test (map (with_row all) (filter (λ o. bytes_eq o.symbol symbol) os)) ≡ Some f → f.operator.symbol ≡ symbol) →
        cond b (Some (with_row all o)) (find test (map (with_row all) (filter (λ o. bytes_eq o.symbol symbol) os))) ≡ Some f → f.operator.symbol ≡ symbol
    first true s rest h = let same : with_row all o ≡ f = cc in ap (λ (f : RowOperator). f.operator.symbol) (sym same) ∙ (bytes_eq-Decides o.symbol symbol).0 s
    first false s rest h = rest h

    go : (b : Bool) → bytes_eq o.symbol symbol ≡ b →
        (find test (map (with_row all) (filter (λ o. bytes_eq o.symbol symbol) os)) ≡ Some f → f.operator.symbol ≡ symbol) →
        find test (map (with_row all) (cond b (o ∷ filter (λ o. bytes_eq o.symbol symbol) os) (filter (λ o. bytes_eq o.symbol symbol) os))) ≡ Some f → f.operator.symbol ≡ symbol
    go true s rest h = first (test (with_row all o)) s rest h
    go false s rest h = rest h

-- ---- a row of which nothing is found

-- one operator more, which isn't of the row
none_more : (number : ℕ) (role : Role) (f : RowOperator) (fs : List RowOperator) (b : Bool) → (f.row == number) ≡ b → (has_row number fs ≡ false → find (is_of number role) fs ≡ None) →
    (b || has_row number fs) ≡ false → cond (b && is_role role f.operator.role) (Some f) (find (is_of number role) fs) ≡ None
none_more number role f fs true h rest e = absurd cc
none_more number role f fs false h rest e = rest e

none_found : (number : ℕ) (role : Role) (fs : List RowOperator) → has_row number fs ≡ false → find (is_of number role) fs ≡ None
none_found number role [] e = refl
none_found number role (f ∷ fs) e = none_more number role f fs (f.row == number) refl (λ h. none_found number role fs h) e

pub none_in_row : (s : Standing) (number : ℕ) → has_row number s.found.now ≡ false → (role : Role) → reads s number role ≡ None
none_in_row s number e role = ap (read_up_to s.end) (none_found number role s.found.now e)

-- ---- nothing is found

nothing_read : (s : Standing) → s.found.now ≡ [] → (number : ℕ) (role : Role) → reads s number role ≡ None
nothing_read s e number role = ap (λ (fs : List RowOperator). read_up_to s.end (find (is_of number role) fs)) e

module _ (g : Grammar) (text : List ℕ) (item : OperatorsItem) (operators : List Operator) (i : ℕ) where
  abbrev row : ℕ → Role → List Operator
  row k role = of_role role (row_numbered operators (suc k))

  none_ahead : (s : Standing) → s.found.now ≡ [] → (number : ℕ) (role : Role) (r : Read) → reads s number role ≡ Some r → (i < r.end) × (r.end ≤ length text)
  none_ahead s e number role r h = let none = nothing_read s e number role in absurd cc

  none_spelled : (s : Standing) → s.found.now ≡ [] → (number : ℕ) (role : Role) (r : Read) → reads s number role ≡ Some r → r.operator.symbol ≡ s.run.now
  none_spelled s e number role r h = let none = nothing_read s e number role in absurd cc

  -- an empty run stands there
  pub stands_empty : (s : Standing) → run_at g text item.class i ≡ [] → s.found.now ≡ [] → Stands g text item operators i s
  stands_empty s empty e = record {
    by_row = λ k role. nothing_read s e (suc k) role ∙ sym (ap (read_run g text item (row k role) i) empty);
    ahead = none_ahead s e;
    spelled = none_spelled s e;
  }

  -- after the end of the text
  pub stands_beyond : (s : Standing) → length text < i → s.found.now ≡ [] → Stands g text item operators i s
  stands_beyond s h e = stands_empty s (ap (take_while (has_character g.classes item.class)) (drop_all i text (omega arith))) e

  -- ---- something is found by a run

  -- the first of a row by a run that stands there
  first_read : (symbol : List ℕ) (operators : List Operator) (j : ℕ) → j ≡ past_run g text item.gap (i + length symbol) →
      (x : Option RowOperator) → option_map (λ (f : RowOperator). f.operator) x ≡ find (λ o. bytes_eq o.symbol symbol) operators →
      read_up_to j x ≡ read_from g text item i (find (λ o. bytes_eq o.symbol symbol) operators)
  first_read symbol operators j ends None e = ap (read_from g text item i) e
  first_read symbol operators j ends (Some f) e =
      let same : f.operator.symbol ≡ symbol = (bytes_eq-Decides f.operator.symbol symbol).0 (passes (λ o. bytes_eq o.symbol symbol) operators f.operator (sym e)) in
      ap {B = Option Read} (λ j. Some (record { operator = f.operator; end = j })) (ends ∙ ap (λ (symbol : List ℕ). past_run g text item.gap (i + length symbol)) (sym same))
      ∙ ap (read_from g text item i) e

  -- the first of each row by what was found
  first_found : (groups : Groups) (symbol : List ℕ) (fs : List RowOperator) → IsLookupOf operators groups → fs ≡ found groups symbol → (k : ℕ) (role : Role) →
      option_map (λ (f : RowOperator). f.operator) (find (is_of (suc k) role) fs) ≡ find (λ o. bytes_eq o.symbol symbol) (row k role)
  first_found groups symbol fs is e k role =
      ap (λ (fs : List RowOperator). option_map (λ (f : RowOperator). f.operator) (find (is_of (suc k) role) fs)) (e ∙ is.finds symbol) ∙ first_agrees operators k role symbol

  by_run : (c : ℕ) (cs : List ℕ) (groups : Groups) (fs : List RowOperator) (j : ℕ) → IsLookupOf operators groups → fs ≡ found groups (c ∷ cs) →
      j ≡ past_run g text item.gap (i + length (c ∷ cs)) → (k : ℕ) (role : Role) → read_up_to j (find (is_of (suc k) role) fs) ≡ read_run g text item (row k role) i (c ∷ cs)
  by_run c cs groups fs j is e ends k role = first_read (c ∷ cs) (row k role) j ends (find (is_of (suc k) role) fs) (first_found groups (c ∷ cs) fs is e k role)

  up_to_end : (j : ℕ) (x : Option RowOperator) (r : Read) → read_up_to j x ≡ Some r → r.end ≡ j
  up_to_end j None r e = absurd cc
  up_to_end j (Some f) r e = let same : record { operator = f.operator; end = j } ≡ r = cc in sym (ap (λ (r : Read). r.end) same)

  end_ahead : (j : ℕ) → i < j → j ≤ length text → (x : Option RowOperator) (r : Read) → read_up_to j x ≡ Some r → (i < r.end) × (r.end ≤ length text)
  end_ahead j low high x r e = let same = up_to_end j x r e in (omega arith, omega arith)

  by_symbol : (groups : Groups) (symbol : List ℕ) (s : Standing) → IsLookupOf operators groups → s.found.now ≡ found groups symbol → s.run.now ≡ symbol →
      (number : ℕ) (role : Role) (x : Option RowOperator) → find (is_of number role) s.found.now ≡ x → (r : Read) → read_up_to s.end x ≡ Some r → r.operator.symbol ≡ s.run.now
  by_symbol groups symbol s is e run number role None h r got = absurd cc
  by_symbol groups symbol s is e run number role (Some f) h r got =
      let spelled : f.operator.symbol ≡ symbol = symbol_found symbol operators operators (is_of number role) f
      (ap (λ (fs : List RowOperator). find (is_of number role) fs) (sym (e ∙ is.finds symbol)) ∙ h) in
      let same : record { operator = f.operator; end = s.end } ≡ r = cc in
      ap (λ (r : Read). r.operator.symbol) (sym same) ∙ spelled ∙ sym run

  pub stands_found : (groups : Groups) (symbol : List ℕ) (s : Standing) → IsLookupOf operators groups → symbol ≡ run_at g text item.class i → 0 < length symbol → s.found.now ≡ found groups symbol →
      s.run.now ≡ symbol → s.end ≡ past_run g text item.gap (i + length symbol) → s.end ≤ length text → Stands g text item operators i s
  stands_found groups [] s is run spelled e at_run ends within = absurd (omega arith)
  stands_found groups (c ∷ cs) s is run spelled e at_run ends within = record {
    by_row = λ k role. by_run c cs groups s.found.now s.end is e ends k role ∙ ap (read_run g text item (row k role) i) run;
    ahead = λ number role r h. end_ahead s.end (omega arith) within (find (is_of number role) s.found.now) r h;
    spelled = λ number role r h. by_symbol groups (c ∷ cs) s is e at_run number role (find (is_of number role) s.found.now) refl r h;
  }

  -- ---- no operator has the run as its symbol

  none_of_row : (groups : Groups) (symbol : List ℕ) (fs : List RowOperator) → IsLookupOf operators groups → fs ≡ found groups symbol → fs ≡ [] → (k : ℕ) (role : Role) →
      None ≡ find (λ o. bytes_eq o.symbol symbol) (row k role)
  none_of_row groups symbol fs is e none k role =
      sym (ap (λ (fs : List RowOperator). option_map (λ (f : RowOperator). f.operator) (find (is_of (suc k) role) fs)) none) ∙ first_found groups symbol fs is e k role

  pub stands_unknown : (groups : Groups) (symbol : List ℕ) (s : Standing) → IsLookupOf operators groups → symbol ≡ run_at g text item.class i → s.found.now ≡ found groups symbol → s.found.now ≡ [] →
      Stands g text item operators i s
  stands_unknown groups [] s is run e none = stands_empty s (sym run) none
  stands_unknown groups (c ∷ cs) s is run e none = record {
    by_row = λ k role. nothing_read s none (suc k) role ∙ (ap (read_from g text item i) (none_of_row groups (c ∷ cs) s.found.now is e none k role) ∙ ap (read_run g text item (row k role) i) run);
    ahead = none_ahead s none;
    spelled = none_spelled s none;
  }
