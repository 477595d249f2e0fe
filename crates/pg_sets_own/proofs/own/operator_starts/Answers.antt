use Rattle.std.proofs.Common.{sym, subst, ◌∙◌}
use Rattle.std.proofs.lemmas.Result.{IfOk-weaker}
use Rattle.pg_grammar_form.specs.declared.form.Form.TheVariants as form
use Rattle.pg_sets_own.specs.Own.{AreOwn}
use Rattle.pg_sets_own.proofs.own.operator_starts.Goals as goal

pub returns : goal.returns
returns c =
    let g = c.args.grammar.now in
    IfOk-weaker c.copies.result _ _ (λ own same builders term. subst (AreOwn g (form.Expression builders term)) (sym (same ∙ c.as_slice.ensures.value)) (c.requires.operators builders term)) c.copies.ensures
