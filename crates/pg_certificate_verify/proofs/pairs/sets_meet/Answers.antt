use Rattle.std.proofs.Common.{subst}
use Rattle.pg_certificate_verify.specs.Pairs.{HasFirstPair, HasNoPair}
use Rattle.pg_certificate_verify.proofs.Meeting.{pair_told}
use Rattle.pg_certificate_verify.proofs.pairs.sets_meet.Goals as goal

pub returns : goal.returns
returns c = λ g.
    pair_told c.is_pair.result g c.args.sets.now c.args.one.now c.args.other.now
    (λ e. subst (λ xs. HasFirstPair xs c.args.one.now c.args.other.now) c.starts.ensures (c.is_pair.ensures.met e))
    (λ e. subst (λ xs. HasNoPair xs c.args.one.now c.args.other.now) c.starts.ensures (c.is_pair.ensures.apart e))
