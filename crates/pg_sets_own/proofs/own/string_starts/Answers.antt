use Rattle.std.proofs.Common.{◌≡◌, ◌<◌, ◌∷◌, [], ℕ, length, List, get_or, sym, ap, subst, ◌∙◌, arith}
use Rattle.std.proofs.lemmas.List.{nil_from_length}
use Rattle.std.proofs.lemmas.Result.{IfOk-weaker}
use Rattle.pg_grammar_form.specs.declared.form.Form.TheVariants as form
use Rattle.pg_grammar_form.specs.declared.form.Leaf.TheVariants as leaf
use Rattle.pg_start.specs.declared.kind.StartKind.TheVariants.{Class}
use Rattle.pg_sets_own.specs.Own.{AreOwn}
use Rattle.pg_sets_own.proofs.Owned.{string_own, empty_own}
use Rattle.pg_sets_own.proofs.own.string_starts.Goals as goal

pub returns-in-empty : goal.returns-in-empty
returns-in-empty c =
    let same = ap length c.as_slice.ensures in
    let short : length c.args.text.now ≡ 0 = omega arith in
    subst (AreOwn c.args.grammar.now (form.Leaf (leaf.String c.args.text.now))) (sym c.new.ensures.items)
    (subst (λ t. AreOwn c.args.grammar.now (form.Leaf (leaf.String t)) []) (sym (nil_from_length c.args.text.now short)) empty_own)

pub returns-in_ok-start-in-len1-up : goal.returns-in_ok-start-in-len1-up
returns-in_ok-start-in-len1-up c =
    let g = c.args.grammar.now in
    let text = c.args.text.now in
    let first = c.first-item.result in
    let class = c.in_ok-class-in-len1-up.class in
    let same = ap length c.as_slice.ensures in
    let least = c.in-len1-up.len_at_least in
    let some : 0 < length text = omega arith in
    let spelled : (cs : List ℕ) × (text ≡ first ∷ cs) = begins text first some (c.first-item.is ∙ ap (λ t. get_or t 0 first) c.as_slice.ensures) in
    IfOk-weaker c.one.result _ _
    (λ own items. subst (AreOwn g (form.Leaf (leaf.String text)))
    (sym (items ∙ (ap (λ s. record { start = s; word = 0 } ∷ []) c.in_ok-start-in-len1-up.ensures ∙ ap (λ x. record { start = Class x; word = 0 } ∷ []) c.in_ok-class-in-len1-up.ensures)))
    (subst (λ t. AreOwn g (form.Leaf (leaf.String t)) (record { start = Class ((first, first) ∷ []); word = 0 } ∷ [])) (sym spelled.1) (string_own first spelled.0)))
    c.one.ensures
  where
    begins : (text : List ℕ) (first : ℕ) → 0 < length text → first ≡ get_or text 0 first → (cs : List ℕ) × (text ≡ first ∷ cs)
    begins [] first some is = absurd (omega arith)
    begins (c ∷ cs) first some is = (cs, ap (λ x. x ∷ cs) (sym is))
