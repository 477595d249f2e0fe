use Rattle.std.proofs.Common.{◌≡◌, ◌<◌, ◌∷◌, [], length, sym, ap, subst, ◌∙◌}
use Rattle.std.proofs.lemmas.Result.{IfOk-weaker}
use Rattle.pg_grammar_form.specs.declared.form.Form.TheVariants as form
use Rattle.pg_grammar_form.specs.declared.form.Around.TheVariants as around
use Rattle.pg_start.specs.declared.kind.StartKind.TheVariants.{Key}
use Rattle.pg_sets_own.specs.Own.{AreOwn}
use Rattle.pg_sets_own.proofs.Owned.{key_own, keyword_own, no_key_own, spelled}
use Rattle.pg_sets_own.proofs.own.key_starts.Goals as goal

pub key_start-requires : goal.key_start-requires
key_start-requires c =
    subst (λ text. 0 < length text) (sym c.as_slice.ensures) (spelled c.args.grammar.now c.args.part c.in-Some.text.now c.nodes-nodes.ensures.grammar c.in-Some.ensures)

pub returns-in-Some : goal.returns-in-Some
returns-in-Some c =
    let g = c.args.grammar.now in
    let text = c.in-Some.text.now in
    IfOk-weaker c.key_start.result _ _
    (λ own items. subst (AreOwn g (form.Around around.Try c.args.part))
    (sym (items ∙ (ap (λ t. record { start = Key t c.in_ok-none.none; word = 0 } ∷ []) c.as_slice.ensures ∙ ap (λ x. record { start = Key text x; word = 0 } ∷ []) c.in_ok-none.ensures)))
    (key_own text c.in-Some.ensures))
    c.key_start.ensures

pub key_start-requires-in-Some-tried_keyword : goal.key_start-requires-in-Some-tried_keyword
key_start-requires-in-Some-tried_keyword c =
    let keyed = c.in-Some-tried_keyword.ensures in
    let same : c.as_slice-in-Some-tried_keyword.result.now ≡ c.in-Some-tried_keyword.text.now = c.as_slice-in-Some-tried_keyword.ensures in
    subst (λ text. 0 < length text) (sym same) (spelled c.args.grammar.now keyed.first c.in-Some-tried_keyword.text.now c.nodes-nodes.ensures.grammar keyed.string)

pub returns-in-Some-tried_keyword : goal.returns-in-Some-tried_keyword
returns-in-Some-tried_keyword c =
    let g = c.args.grammar.now in
    let text = c.in-Some-tried_keyword.text.now in
    let class = c.in_ok-excluded.excluded in
    let same : c.as_slice-in-Some-tried_keyword.result.now ≡ text = c.as_slice-in-Some-tried_keyword.ensures in
    IfOk-weaker c.key_start-in-Some-tried_keyword.result _ _
    (λ own items. subst (AreOwn g (form.Around around.Try c.args.part)) (sym (items ∙ ap (λ t. record { start = Key t class; word = 0 } ∷ []) same))
    (keyword_own text c.in-Some-tried_keyword.excluded.now class c.in-Some-tried_keyword.ensures c.in_ok-excluded.ensures))
    c.key_start-in-Some-tried_keyword.ensures

pub returns : goal.returns
returns c = subst (AreOwn c.args.grammar.now (form.Around around.Try c.args.part)) (sym c.new.ensures.items) (no_key_own c.in_default.ensures c.in_default-tried_keyword.ensures)
