use Rattle.std.proofs.Common.{◌≡◌, ◌<◌, ℕ, length, sym, ap, subst, ◌∙◌, arith}
use Rattle.pg_predict_conditions.specs.Judged.{all_below, noted_at}
use Rattle.pg_predict.specs.Broken.{first_number}
use Rattle.pg_predict.proofs.Below.{none_next}
use Rattle.pg_predict.proofs.finds.first_noted.Goals as goal

pub returns-in-Some-clause-noted : goal.returns-in-Some-clause-noted
returns-in-Some-clause-noted c =
    let g = c.args.grammar.now in
    let facts = c.args.judge.now in
    let i = c.loop-number.number in
    let inside = subst (λ (n : ℕ). i < n) (ap length c.nodes-number-end.ensures.all) c.loop-number-test.true in
    record {
      node = subst (λ (p : ℕ). p < length g.nodes) (sym c.new-node.ensures) inside;
      none_before = ap (all_below (noted_at g facts)) c.new-node.ensures ∙ c.loop-number.invariant;
      number = sym c.first_at.ensures ∙ c.in-Some.is;
    }

pub loop-number-preserved : goal.loop-number-preserved
loop-number-preserved c =
    let g = c.args.grammar.now in
    let facts = c.args.judge.now in
    none_next (noted_at g facts) c.loop-number.number c.loop-number.invariant
    (ap (λ (p : ℕ). first_number (noted_at g facts p)) (sym c.new-node.ensures) ∙ sym c.first_at.ensures ∙ c.in_default.is)

pub returns-clause-noted : goal.returns-clause-noted
returns-clause-noted c =
    let g = c.args.grammar.now in
    let facts = c.args.judge.now in
    let most = c.loop-number-test.false in
    let least = c.loop-number.auto.number-end in
    let all : c.loop-number.number ≡ length c.nodes-number-end.result.now = omega arith in
    ap (all_below (noted_at g facts)) (sym (all ∙ ap length c.nodes-number-end.ensures.all)) ∙ c.loop-number.invariant
