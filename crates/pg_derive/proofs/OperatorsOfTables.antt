-- The operators of a table of the grammar: each can be declared, and its symbol tells it from others on its side.
use Rattle.std.proofs.Common.{◌≡◌, ◌<◌, ◌⊎◌, ◌∙◌, ℕ, suc, Bool, true, false, List, [], ◌∷◌, ◌++◌, Option, Some, None, inl, inr, length, refl, sym, subst, ap}
use Rattle.std.specs.Prelude.{not, ◌&&◌, nat_lt, nat_le, if◌then◌else◌}
use Rattle.std.specs.List.{AllByRecursion, list_any}
use Rattle.std.specs.Str.{bytes_eq}
use Rattle.pg_grammar_value.specs.Grammar.{Grammar}
use Rattle.pg_grammar_form.specs.Operators.{Operator, IsOperator}
use Rattle.pg_grammar_form.specs.declared.operators_item.OperatorsItem.{OperatorsItem}
use Rattle.pg_table.specs.declared.admit_fault.AdmitFault.{AdmitFault}
use Rattle.pg_table.specs.declared.admit_fault.AdmitFault.TheVariants.{SymbolTooLong, SymbolReserved, PrefixThere, SymbolThere, TableFull}
use Rattle.pg_table.specs.Tables.{Table, is_prefix, has_prefix, has_other, with_operator, empty_table, whole, added_from, ComesFrom}
use Rattle.pg_table.specs.Fitting.{IsAmong}
use Rattle.pg_table.proofs.Added.{same_table, added_at_end, all_proper}
use Rattle.pg_expand.proofs.Levels.{to_member}
use Rattle.pg_expand.proofs.Members.{Among, among_either}
use Rattle.pg_expand.proofs.Symbols.{told_table, added_whole}
use Rattle.pg_derive.proofs.WholeRows.{above}
use Rattle.pg_derive.proofs.OperandsFound.{IsClear}

empty_proper : (item : Option OperatorsItem) → AllByRecursion IsOperator (empty_table item).operators
empty_proper None = tt
empty_proper (Some item) = tt

pub proper_table : (g : Grammar) (table : Table) → AllByRecursion IsOperator g.initials → ComesFrom g table → AllByRecursion IsOperator table.operators
proper_table g table proper comes =
    let first : AllByRecursion IsOperator comes.first.operators =
    subst (λ os. AllByRecursion IsOperator os) (sym (added_at_end 0 (empty_table g.operators) comes.first g.initials comes.initial))
    (all_proper (empty_table g.operators).operators g.initials (empty_proper g.operators) proper) in
    subst (λ os. AllByRecursion IsOperator os) (sym (added_at_end 0 comes.first table comes.further comes.added)) (all_proper comes.first.operators comes.further first comes.proper)

spelled_among : (os : List Operator) → AllByRecursion IsOperator os → (o : Operator) → Among o os → 0 < length o.symbol
spelled_among [] h o m = absurd m
spelled_among (p ∷ os) h o (inl e) = let is = h.0 in let long = is.spelled in subst (λ (q : Operator). 0 < length q.symbol) (sym e) long
spelled_among (p ∷ os) h o (inr m) = spelled_among os h.1 o m

pub spelled_in : (g : Grammar) (table : Table) → AllByRecursion IsOperator g.initials → ComesFrom g table → (o : Operator) → IsAmong table.operators o → 0 < length o.symbol
spelled_in g table proper comes o m = spelled_among table.operators (proper_table g table proper comes) o (to_member table.operators o m)

-- no operator has a symbol that is reserved
AreFree : List (List ℕ) → List Operator → Type 0
AreFree reserved os = (o : Operator) → Among o os → list_any (λ s. bytes_eq s o.symbol) reserved ≡ false

not_reserved : (a b c d e : Bool) (first second third fourth fifth : AdmitFault) →
    (if a then Some first else if b then Some second else if c then Some third else if d then Some fourth else if e then Some fifth else None) ≡ None → b ≡ false
not_reserved true b c d e first second third fourth fifth h = absurd cc
not_reserved false true c d e first second third fourth fifth h = absurd cc
not_reserved false false c d e first second third fourth fifth h = refl

free_added : (k : ℕ) (t u : Table) (ds : List Operator) → AreFree t.reserved t.operators → added_from k t ds ≡ whole u → AreFree t.reserved u.operators × (u.reserved ≡ t.reserved)
unfolding AreFree
free_added k t u [] free e = let same = same_table t u e in (subst (λ (w : Table). AreFree t.reserved w.operators) same free, ap (λ (w : Table). w.reserved) (sym same))
free_added k t u (d ∷ ds) free e =
    let step = added_whole _ k _ u e in
    let one = not_reserved (nat_lt 16 (length d.symbol)) (list_any (λ s. bytes_eq s d.symbol) t.reserved) (is_prefix d.role && has_prefix t.operators d.symbol)
    (not (is_prefix d.role) && has_other t.operators d.symbol) (nat_le t.most (length t.operators)) SymbolTooLong SymbolReserved PrefixThere SymbolThere TableFull step.0 in
    free_added (suc k) (with_operator t d) u ds (both one) step.1
  where
    both : list_any (λ s. bytes_eq s d.symbol) t.reserved ≡ false → (o : Operator) → Among o (t.operators ++ d ∷ []) → list_any (λ s. bytes_eq s o.symbol) t.reserved ≡ false
    both one o m = go (among_either o t.operators (d ∷ []) m)
      where
        go : Among o t.operators ⊎ Among o (d ∷ []) → list_any (λ s. bytes_eq s o.symbol) t.reserved ≡ false
        go (inl h) = free o h
        go (inr (inl same)) = ap (λ (q : Operator). list_any (λ s. bytes_eq s q.symbol) t.reserved) same ∙ one
        go (inr (inr h)) = absurd h

pub free_in : (g : Grammar) (table : Table) (item : OperatorsItem) → g.operators ≡ Some item → ComesFrom g table → (o : Operator) → IsAmong table.operators o → list_any (λ s. bytes_eq s o.symbol) item.reserved ≡ false
unfolding AreFree
free_in g table item named comes o m =
    let empty : Table = empty_table g.operators in
    let none : empty ≡ empty_table (Some item) = ap empty_table named in
    let first = free_added 0 empty comes.first g.initials (subst (λ (t : Table). AreFree t.reserved t.operators) (sym none) (λ o h. absurd h)) comes.initial in
    let further = free_added 0 comes.first table comes.further (subst (λ reserved. AreFree reserved comes.first.operators) (sym first.1) first.0) comes.added in
    ap (λ (t : Table). list_any (λ s. bytes_eq s o.symbol) t.reserved) (sym none) ∙ ap (λ reserved. list_any (λ s. bytes_eq s o.symbol) reserved) (sym first.1) ∙ further.0 o (to_member table.operators o m)

pub clear_table : (g : Grammar) (table : Table) → AllByRecursion IsOperator g.initials → ComesFrom g table → IsClear table.operators
clear_table g table proper comes =
    let all = proper_table g table proper comes in
    record {
      above = λ o m. above table.operators all o m;
      spelled = λ o m. spelled_among table.operators all o (to_member table.operators o m);
      told = λ o p m n side symbol. told_table g table comes o p (to_member table.operators o m) (to_member table.operators p n) side symbol;
    }
