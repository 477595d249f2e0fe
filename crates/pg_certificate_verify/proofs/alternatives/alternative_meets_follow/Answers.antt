use Rattle.std.proofs.Common.{sym, subst}
use Rattle.std.specs.Prelude.{◌↔◌, IsTrue}
use Rattle.pg_certificate_verify.specs.Breaking.{EndsEmpty, OneMeetsFollow, AlternativeMeetsFollow}
use Rattle.pg_certificate_verify.proofs.alternatives.alternative_meets_follow.Goals as goal

pub returns-then-ends_empty : goal.returns-then-ends_empty
returns-then-ends_empty c = λ g formed.
    let sets = c.args.sets.now in
    let r = c.one_meets_follow.result in
    let told = subst (λ ps. IsTrue r ↔ OneMeetsFollow g sets c.args.node ps) c.as_slice-then-ends_empty.ensures (c.one_meets_follow.ensures g formed) in
    let ends = subst (EndsEmpty sets) c.as_slice.ensures (c.ends_empty.ensures.0 c.if-ends_empty.true) in
    subst (λ f. IsTrue r ↔ AlternativeMeetsFollow g sets c.args.node f) (sym c.in-Choice.is) (λ is. (ends, told.0 is), λ both. told.1 both.1)
