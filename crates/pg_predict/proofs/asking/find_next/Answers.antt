use Rattle.std.proofs.Common.{◌≡◌, ◌<◌, ◌≤◌, ◌+◌, ◌∙◌, ℕ, subst, arith}
use Rattle.pg_predict_conditions.specs.Questions.{form_series_count}
use Rattle.pg_predict.proofs.Rest.{at_last, at_none, at_some}
use Rattle.pg_predict.proofs.asking.find_next.Goals as goal

pub returns-in-Some : goal.returns-in-Some
returns-in-Some c =
    let j = c.loop-series.series in
    let inside = subst (λ (n : ℕ). j < n) c.series_count-count.ensures c.loop-series-test.true in
    c.loop-series.invariant
    ∙ at_some c.args.judge.now c.args.node c.args.form.now j c.loop-series.asking.question c.find_in_series.new.question _ inside c.in-Some.ensures

pub loop-series-preserved : goal.loop-series-preserved
loop-series-preserved c =
    let j = c.loop-series.series in
    let inside = subst (λ (n : ℕ). j < n) c.series_count-count.ensures c.loop-series-test.true in
    c.loop-series.invariant ∙ at_none c.args.judge.now c.args.node c.args.form.now j c.loop-series.asking.question inside c.in_default.ensures

pub returns : goal.returns
returns c =
    let j = c.loop-series.series in
    let most = c.loop-series-test.false in
    let above : c.series_count-count.result ≤ j = omega arith in
    at_last c.args.judge.now c.args.node c.args.form.now c.find_cost.result j c.loop-series.asking.question c.series_count-count.result c.find_cost.new.question _
    c.loop-series.invariant c.series_count-count.ensures above c.find_cost.ensures
