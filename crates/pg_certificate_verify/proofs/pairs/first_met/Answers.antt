use Rattle.std.proofs.Common.{◌<◌, get_or, length, true≢false, sym, ◌∙◌, arith}
use Rattle.std.proofs.lemmas.Option.{slice_get-get_or}
use Rattle.pg_certificate_verify.proofs.FirstPairs.{met_next, met_here, met_none}
use Rattle.pg_certificate_verify.proofs.pairs.first_met.Goals as goal

pub returns-then-number-starts : goal.returns-then-number-starts
returns-then-number-starts c =
    met_none c.args.starts.now c.args.set.now c.args.start.now c.loop-number.from c.loop-number.invariant
    (λ j more inside. (let past = c.if-number-starts.true in c.in-Some.ensures.before j more (omega (arith, inside, past))))

pub returns-then-not-apart : goal.returns-then-not-apart
returns-then-not-apart c =
    let starts = c.args.starts.now in
    let k = c.in-Some.number in
    let inside : k < length starts = omega arith in
    met_here starts c.args.set.now c.args.start.now c.loop-number.from c.loop-number.invariant k (get_or starts k c.index-starts-number.result) c.in-Some.ensures
    (slice_get-get_or starts k c.index-starts-number.result inside) (λ apart. true≢false (sym (c.apart.ensures.1 apart) ∙ c.if-not-apart.true))

pub loop-number-preserved : goal.loop-number-preserved
loop-number-preserved c =
    let starts = c.args.starts.now in
    let k = c.in-Some.number in
    let inside : k < length starts = omega arith in
    met_next starts c.args.set.now c.args.start.now c.loop-number.from c.loop-number.invariant k (get_or starts k c.index-starts-number.result) c.in-Some.ensures
    (slice_get-get_or starts k c.index-starts-number.result inside) (c.apart.ensures.0 c.if-not-apart.false)
