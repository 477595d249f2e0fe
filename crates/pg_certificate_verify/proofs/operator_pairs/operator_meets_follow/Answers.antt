use Rattle.std.proofs.Common.{sym, subst}
use Rattle.std.specs.Prelude.{◌↔◌, IsTrue}
use Rattle.pg_sets.specs.Sets.{HasStart}
use Rattle.pg_sets_own.specs.OwnStarts.{IsOperatorStart}
use Rattle.pg_certificate_verify.specs.Breaking.{SomeMeet, OperatorMeetsFollow}
use Rattle.pg_certificate_verify.proofs.operator_pairs.operator_meets_follow.Goals as goal

pub returns-in-Expression : goal.returns-in-Expression
returns-in-Expression c = λ g formed are.
    let r = c.meets_operators.result in
    subst (λ f. IsTrue r ↔ OperatorMeetsFollow g c.args.sets.now c.args.node f) (sym c.in-Expression.is)
    (subst (λ one. IsTrue r ↔ SomeMeet g (HasStart c.args.sets.now.starts one) (IsOperatorStart g)) c.follow.ensures (c.meets_operators.ensures g formed are))
