use Rattle.std.proofs.Common.{◌<◌, ◌+◌, length, refl, sym, ap, subst, ◌∙◌, arith, true, slice_get, slice_set, ℕ}
use Rattle.std.proofs.lemmas.Bool.{true≢false}
use Rattle.std.proofs.lemmas.Option.{slice_get_read}
use Rattle.pg_grammar_form.proofs.Each.{all-get}
use Rattle.pg_predict_conditions.proofs.Chains.{MarksBelow, marks_more, marks_same, marks_all}
use Rattle.pg_predict_conditions.proofs.recursion.recursive_bodies.Goals.{then-branch, else-branch}
use Rattle.pg_predict_conditions.proofs.recursion.recursive_bodies.Goals as goal

pub loop-number-preserved : goal.loop-number-preserved
loop-number-preserved c =
    let g = c.args.grammar.now in
    let k = c.loop-number.number in
    let rule = c.rule-item.result in
    let items = c.rules-rule-items.ensures.all in
    let inside : k < length c.rules-rule-items.result.now = omega arith in
    let there_in = slice_get_read c.rules-rule-items.result.now (length c.rules-rule-items.result.now) k rule refl inside c.rule-item.is in
    let there = sym (ap (λ rules. slice_get rules k) items) ∙ there_in in
    let is_node = all-get (λ one. one.body < length g.nodes) c.rules-rule-items.result.now k rule c.rules-rule-items.ensures.bodies there_in in
    let long = c.loop-number.invariant.long in
    let chain = c.in_ok-heads_itself.ensures in
    elim c.if-branch.branch [
      | then-branch w ↦
          subst (λ ms. MarksBelow g (k + 1) ms.items) (sym w.marks-is)
          (subst (λ (i : ℕ). MarksBelow g (k + 1) (slice_set c.loop-number.marks.items i true)) (sym w.index.ensures)
          (marks_more g k rule c.loop-number.marks.items c.loop-number.invariant there (omega arith) (chain.0 w.if-branch.true)))
      | else-branch w ↦
          subst (λ ms. MarksBelow g (k + 1) ms.items) (sym w.marks-is) (marks_same g k c.loop-number.marks.items c.loop-number.invariant (λ h. absurd (true≢false (sym (chain.1 h) ∙ w.if-branch.false))))
    ]

pub returns : goal.returns
returns c =
    let all = ap length c.rules-rule-items.ensures.all in
    marks_all c.args.grammar.now c.loop-number.number c.loop-number.marks.items c.loop-number.invariant (omega arith)
