use Rattle.std.proofs.Common.{◌≡◌, ◌<◌, ◌==◌, ℕ, true, false, List, [], ◌∷◌, length, refl, sym, ◌∙◌, eqb-true, arith}
use Rattle.pg_expand.specs.declared.lookup.RowOperator.{RowOperator}
use Rattle.pg_language_operators.proofs.Found.{stands_found, stands_unknown}
use Rattle.pg_language_operators.proofs.standing.standing_at.Goals as goal

none_there : (fs : List RowOperator) → true ≡ (length fs == 0) → fs ≡ []
none_there [] e = refl
none_there (f ∷ fs) e = let h = eqb-true (length (f ∷ fs)) 0 (sym e) in absurd (omega arith)

some_there : (s : List ℕ) → false ≡ (length s == 0) → 0 < length s
some_there [] e = absurd cc
some_there (c ∷ cs) e = omega arith

pub returns-then-is_empty-2 : goal.returns-then-is_empty-2
returns-then-is_empty-2 c = λ operators is.
    stands_unknown c.args.grammar.now c.args.text.now c.args.item.now operators c.args.place c.args.lookup.now c.run_at-run.result.now
    c.nothing-then-is_empty-2.result is c.run_at-run.ensures.value
    (c.nothing-then-is_empty-2.ensures ∙ sym (sym c.find-found.ensures ∙ none_there c.find-found.result.now c.if-is_empty-2.ensures))
    c.nothing-then-is_empty-2.ensures

pub returns : goal.returns
returns c = λ operators is.
    stands_found c.args.grammar.now c.args.text.now c.args.item.now operators c.args.place c.args.lookup.now c.run_at-run.result.now
    (record { found = c.find-found.result; run = c.run_at-run.result; end = c.past_gap-end.result }) is c.run_at-run.ensures.value (some_there c.run_at-run.result.now c.if-is_empty.ensures) c.find-found.ensures refl c.past_gap-end.ensures.value c.past_gap-end.ensures.within
