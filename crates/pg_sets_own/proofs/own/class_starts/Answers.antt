use Rattle.std.proofs.Common.{◌∷◌, [], sym, ap, subst, ◌∙◌}
use Rattle.std.proofs.lemmas.Result.{IfOk-weaker}
use Rattle.pg_grammar_form.specs.declared.form.Form.TheVariants as form
use Rattle.pg_grammar_form.specs.declared.form.Leaf.TheVariants as leaf
use Rattle.pg_sets_own.specs.Own.{AreOwn}
use Rattle.pg_sets_own.proofs.Owned.{satisfy_own}
use Rattle.pg_sets_own.proofs.own.class_starts.Goals as goal

pub returns : goal.returns
returns c =
    let g = c.args.grammar.now in
    let expression = c.args.expression.now in
    IfOk-weaker c.one.result _ _
    (λ own items. subst (AreOwn g (form.Leaf (leaf.Satisfy expression))) (sym (items ∙ ap (λ x. record { start = x; word = 0 } ∷ []) c.in_ok-start.ensures)) (satisfy_own c.in_ok-class.class c.in_ok-class.ensures))
    c.one.ensures
