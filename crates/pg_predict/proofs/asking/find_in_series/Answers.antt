use Rattle.std.proofs.Common.{◌≡◌, ◌<◌, ◌≤◌, ◌∙◌, ℕ, subst, arith}
use Rattle.pg_predict.proofs.Rest.{series_end, series_none, series_some}
use Rattle.pg_predict.proofs.asking.find_in_series.Goals as goal

pub returns-in-Some : goal.returns-in-Some
returns-in-Some c =
    let k = c.loop-next.next in
    let inside = subst (λ (n : ℕ). k < n) c.node_questions-next-end.ensures c.loop-next-test.true in
    c.loop-next.invariant
    ∙ series_some c.args.judge.now c.args.node c.args.form.now c.args.series k c.ask_node.result c.in-Some.kind inside c.ask_node.ensures c.in-Some.is

pub loop-next-preserved : goal.loop-next-preserved
loop-next-preserved c =
    let k = c.loop-next.next in
    let inside = subst (λ (n : ℕ). k < n) c.node_questions-next-end.ensures c.loop-next-test.true in
    c.loop-next.invariant
    ∙ series_none c.args.judge.now c.args.node c.args.form.now c.args.series k c.ask_node.result inside c.ask_node.ensures c.in_default.is

pub returns : goal.returns
returns c =
    let k = c.loop-next.next in
    let most = c.loop-next-test.false in
    let above : c.node_questions-next-end.result ≤ k = omega arith in
    c.loop-next.invariant
    ∙ series_end c.args.judge.now c.args.node c.args.form.now c.args.series k (subst (λ (n : ℕ). n ≤ k) c.node_questions-next-end.ensures above)
