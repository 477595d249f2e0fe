use Rattle.std.proofs.Common.{refl, sym, subst}
use Rattle.std.specs.Prelude.{◌↔◌, IsTrue}
use Rattle.std.proofs.lemmas.Result.{IfOk-weaker}
use Rattle.pg_sets.specs.Sets.{HasStart}
use Rattle.pg_certificate_verify.specs.Breaking.{FollowsBy, SomeMeet, RoundMeetsFollow, HasParts}
use Rattle.pg_certificate_verify.proofs.rounds.round_meets_follow.Goals as goal

pub link_meets_follow-requires-clause-operand : goal.link_meets_follow-requires-clause-operand
link_meets_follow-requires-clause-operand c = subst (HasParts c.args.sets.now) c.in-Chain.is c.requires 0 c.in-Chain.operand refl

pub link_meets_follow-requires-clause-separator : goal.link_meets_follow-requires-clause-separator
link_meets_follow-requires-clause-separator c = subst (HasParts c.args.sets.now) c.in-Chain.is c.requires 1 c.in-Chain.separator refl

pub returns-in-Many : goal.returns-in-Many
returns-in-Many c = λ g formed.
    let sets = c.args.sets.now in
    let r = c.sets_meet.result in
    subst (λ f. IsTrue r ↔ RoundMeetsFollow g sets c.args.node f) (sym c.in-Many.is)
    (subst (λ xs. IsTrue r ↔ SomeMeet g (HasStart sets.starts xs) (FollowsBy sets c.args.node)) c.first.ensures
    (subst (λ xs. IsTrue r ↔ SomeMeet g (HasStart sets.starts c.first.result.now) (HasStart sets.starts xs)) c.follow.ensures (c.sets_meet.ensures g formed)))

pub returns-in-Chain : goal.returns-in-Chain
returns-in-Chain c =
    IfOk-weaker c.link_meets_follow.result _ _
    (λ meet told g formed. subst (λ f. IsTrue meet ↔ RoundMeetsFollow g c.args.sets.now c.args.node f) (sym c.in-Chain.is) (told g formed)) c.link_meets_follow.ensures
