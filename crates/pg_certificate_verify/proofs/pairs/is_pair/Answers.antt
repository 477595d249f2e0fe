use Rattle.std.proofs.Common.{◌<◌, get_or, length, arith}
use Rattle.std.proofs.lemmas.Option.{slice_get-get_or}
use Rattle.pg_certificate_verify.proofs.FirstPairs.{pair_next, pair_here, pair_none}
use Rattle.pg_certificate_verify.proofs.pairs.is_pair.Goals as goal

pub returns-then-number-starts-clause-apart : goal.returns-then-number-starts-clause-apart
returns-then-number-starts-clause-apart c = λ e.
    pair_none c.args.starts.now c.args.one.now c.args.other.now c.loop-number.from c.loop-number.invariant
    (λ s more inside. (let past = c.if-number-starts.true in c.in-Some.ensures.before s more (omega (arith, inside, past))))

pub returns-in-Some-first_met-clause-met : goal.returns-in-Some-first_met-clause-met
returns-in-Some-first_met-clause-met c = λ e.
    let starts = c.args.starts.now in
    let k = c.in-Some.number in
    let inside : k < length starts = omega arith in
    pair_here starts c.args.one.now c.args.other.now c.loop-number.from c.loop-number.invariant k c.in-Some-first_met.field-0 (get_or starts k c.index-starts-number.result)
    c.in-Some.ensures (slice_get-get_or starts k c.index-starts-number.result inside) c.in-Some-first_met.ensures

pub loop-number-preserved : goal.loop-number-preserved
loop-number-preserved c =
    let starts = c.args.starts.now in
    let k = c.in-Some.number in
    let inside : k < length starts = omega arith in
    pair_next starts c.args.one.now c.args.other.now c.loop-number.from c.loop-number.invariant k (get_or starts k c.index-starts-number.result) c.in-Some.ensures
    (slice_get-get_or starts k c.index-starts-number.result inside) c.in-None.ensures

pub returns-clause-apart : goal.returns-clause-apart
returns-clause-apart c = λ e.
    pair_none c.args.starts.now c.args.one.now c.args.other.now c.loop-number.from c.loop-number.invariant (λ s more inside. c.in_default.ensures s more)
