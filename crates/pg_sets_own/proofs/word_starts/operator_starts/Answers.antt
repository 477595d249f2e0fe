use Rattle.std.proofs.Common.{sym, subst}
use Rattle.std.proofs.lemmas.Result.{IfOk-weaker}
use Rattle.pg_grammar_form.specs.declared.form.Form.TheVariants as form
use Rattle.pg_sets_own.specs.Own.{AreOwn}
use Rattle.pg_sets_own.proofs.Owned.{operator_own, no_operator_own}
use Rattle.pg_sets_own.proofs.word_starts.operator_starts.Goals as goal

pub returns-in_ok-listed-in-Some : goal.returns-in_ok-listed-in-Some
returns-in_ok-listed-in-Some c =
    let g = c.args.grammar.now in
    IfOk-weaker c.one.result _ _
    (λ own items builders term. subst (AreOwn g (form.Expression builders term)) (sym items)
    (operator_own c.in-Some.item.now c.in_ok-class-in-Some.class c.in_ok-listed-in-Some.listed (sym c.in-Some.ensures.all) c.in_ok-class-in-Some.ensures c.in_ok-listed-in-Some.ensures))
    c.one.ensures

pub returns-in-None : goal.returns-in-None
returns-in-None c = λ builders term. subst (AreOwn c.args.grammar.now (form.Expression builders term)) (sym c.new.ensures.items) (no_operator_own (sym c.in-None.ensures.all))
