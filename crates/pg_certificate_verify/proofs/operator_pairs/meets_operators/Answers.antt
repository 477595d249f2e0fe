use Rattle.std.proofs.Common.{true≢false, sym, subst}
use Rattle.std.specs.Prelude.{◌↔◌, IsTrue, MatchOption}
use Rattle.pg_sets.specs.Sets.{HasStart}
use Rattle.pg_sets_own.specs.OperatorStarts.{AreOperatorStarts}
use Rattle.pg_sets_own.specs.OwnStarts.{IsOperatorStart}
use Rattle.pg_certificate_verify.specs.Breaking.{SomeMeet}
use Rattle.pg_certificate_verify.specs.Pairs.{MeetsNone, IsFirstMet}
use Rattle.pg_certificate_verify.proofs.Operators.{operator_told, none_operators}
use Rattle.pg_certificate_verify.proofs.operator_pairs.meets_operators.Goals as goal

pub returns-in-Some : goal.returns-in-Some
returns-in-Some c = λ g formed are.
    let start = c.in-Some.both.operator.start in
    let set = c.args.set.now in
    subst (λ b. IsTrue b ↔ SomeMeet g (HasStart c.args.sets.now.starts set) (IsOperatorStart g)) (sym c.is_some.ensures)
    (operator_told g c.args.sets.now c.in-Some.both formed (subst (AreOperatorStarts g) c.in-Some.is are) set c.first_met.result
    (subst (λ xs. MatchOption c.first_met.result (MeetsNone xs set start) (λ k. IsFirstMet xs set start k)) c.starts.ensures c.first_met.ensures))

pub returns-in-None : goal.returns-in-None
returns-in-None c = λ g formed are. (
  λ is. absurd (true≢false (sym is)),
  λ some. absurd (none_operators g (HasStart c.args.sets.now.starts c.args.set.now) (subst (AreOperatorStarts g) c.in-None.is are) some),
)
