-- What is read of operators stands in the text, and leads on in it.
use Rattle.std.proofs.Common.{◌≡◌, ◌+◌, ◌<◌, ◌≤◌, ℕ, suc, List, [], ◌∷◌, Bool, true, false, cond, length, inl, inr, refl, sym, ap, ◌∙◌, subst, arith}
use Rattle.std.specs.Prelude.{Option, Some, None, find}
use Rattle.std.specs.Str.{bytes_eq}
use Rattle.std.proofs.lemmas.Slice.Eq.{bytes_eq-Decides}
use Rattle.pg_grammar_value.specs.Grammar.{Grammar}
use Rattle.pg_grammar_form.specs.Operators.{Operator}
use Rattle.pg_grammar_form.specs.declared.operators_item.OperatorsItem.{OperatorsItem}
use Rattle.pg_expand.proofs.Members.{Among}
use Rattle.pg_language.specs.Runs.{run_at, past_run, IsOperatorAt}
use Rattle.pg_language.specs.OperatorReads.{Read, read_from, read_run, read_at}

found_among : (test : Operator → Bool) (os : List Operator) (o : Operator) → find test os ≡ Some o → Among o os × (test o ≡ true)
found_among test [] o e = absurd cc
found_among test (p ∷ os) o e = go (test p) refl (λ h. found_among test os o h) e
  where
    go : (b : Bool) → test p ≡ b → (find test os ≡ Some o → Among o os × (test o ≡ true)) → cond b (Some p) (find test os) ≡ Some o → Among o (p ∷ os) × (test o ≡ true)
    go true t rest h = let same : o ≡ p = cc in (inl same, ap test same ∙ t)
    go false t rest h = let there = rest h in (inr there.0, there.1)

-- an operator of the list stands at the place, and leads on
pub record IsReadAt (g : Grammar) (text : List ℕ) (item : OperatorsItem) (os : List Operator) (i : ℕ) (q : Read) : Type 0 where
  pub among : Among q.operator os
  pub there : IsOperatorAt g text item q.operator.symbol i q.end
  pub ahead : i < q.end

module _ (g : Grammar) (text : List ℕ) (item : OperatorsItem) (os : List Operator) (i : ℕ) (q : Read) where
  by_found : (c : ℕ) (cs : List ℕ) (w : Option Operator) → run_at g text item.class i ≡ c ∷ cs → find (λ o. bytes_eq o.symbol (c ∷ cs)) os ≡ w → read_from g text item i w ≡ Some q →
      IsReadAt g text item os i q
  by_found c cs None r f h = absurd cc
  by_found c cs (Some o) r f h =
      let found = found_among (λ o. bytes_eq o.symbol (c ∷ cs)) os o f in
      let symbol : o.symbol ≡ c ∷ cs = (bytes_eq-Decides o.symbol (c ∷ cs)).0 found.1 in
      let long : length o.symbol ≡ suc (length cs) = ap length symbol in
      let read : Read = record { operator = o; end = past_run g text item.gap (i + length o.symbol) } in
      let far : i < past_run g text item.gap (i + length o.symbol) = omega arith in
      let same : read ≡ q = cc in
      subst (λ (q : Read). IsReadAt g text item os i q) same (record { among = found.0; there = record { run = r ∙ sym symbol; past = refl }; ahead = far })

  by_run : (run : List ℕ) → run_at g text item.class i ≡ run → read_run g text item os i run ≡ Some q → IsReadAt g text item os i q
  by_run [] r h = absurd cc
  by_run (c ∷ cs) r h = by_found c cs (find (λ o. bytes_eq o.symbol (c ∷ cs)) os) r refl h

  pub is_read : read_at g text item os i ≡ Some q → IsReadAt g text item os i q
  is_read h = by_run (run_at g text item.class i) refl h

  pub read_on : read_at g text item os i ≡ Some q → i ≤ q.end
  read_on h = let far = (is_read h).ahead in omega arith
