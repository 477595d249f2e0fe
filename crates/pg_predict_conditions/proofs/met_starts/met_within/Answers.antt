use Rattle.std.proofs.Common.{◌<◌, ◌+◌, length, get_or, sym, subst, ◌∙◌, arith}
use Rattle.std.proofs.lemmas.Bool.{false≢true}
use Rattle.std.proofs.lemmas.Option.{slice_get-get_or}
use Rattle.pg_predict_conditions.proofs.MetSets.{MetSoFar, met_in, met_out, met_all}
use Rattle.pg_predict_conditions.proofs.met_starts.met_within.Goals.{then-meets, else-meets}
use Rattle.pg_predict_conditions.proofs.met_starts.met_within.Goals as goal

pub loop-number-preserved : goal.loop-number-preserved
loop-number-preserved c =
    let starts = c.args.starts.now in
    let start = c.args.start.now in
    let k = c.loop-number.number in
    let one = get_or starts k c.index-starts-number.result in
    let inside : k < length starts = omega arith in
    let there = slice_get-get_or starts k c.index-starts-number.result inside in
    elim c.if-meets.branch [
      | then-meets w ↦
          subst (MetSoFar starts start (k + 1)) (sym (w.met-is ∙ w.insert.ensures))
          (met_in starts start k one c.loop-number.met c.loop-number.invariant there (c.meets.ensures.0 w.if-meets.true))
      | else-meets w ↦
          subst (MetSoFar starts start (k + 1)) (sym w.met-is)
          (met_out starts start k one c.loop-number.met c.loop-number.invariant there (λ meets. false≢true (sym w.if-meets.false ∙ c.meets.ensures.1 meets)))
    ]

pub returns : goal.returns
returns c = met_all c.args.starts.now c.args.start.now c.loop-number.number c.loop-number.met c.loop-number.invariant (omega arith)
