use Rattle.std.proofs.Common.{sym, subst, ◌∙◌}
use Rattle.std.specs.Prelude.{MatchOption}
use Rattle.pg_sets_own.specs.OperatorStarts.{AreOperatorStarts}
use Rattle.pg_certificate_verify.specs.Pairs.{MeetsNone, IsFirstMet}
use Rattle.pg_certificate_verify.proofs.Operators.{gap_met, gap_apart}
use Rattle.pg_certificate_verify.proofs.operator_pairs.meets_gaps.Goals as goal

pub returns-in-Some-clause-met : goal.returns-in-Some-clause-met
returns-in-Some-clause-met c = λ e g formed are.
    let gap = c.in-Some.both.gap in
    let set = c.args.set.now in
    gap_met g c.args.sets.now c.in-Some.both formed (subst (AreOperatorStarts g) c.in-Some.is are) set c.first_met.result
    (subst (λ xs. MatchOption c.first_met.result (MeetsNone xs set gap) (λ k. IsFirstMet xs set gap k)) c.starts.ensures c.first_met.ensures) (sym c.is_some.ensures ∙ e)

pub returns-in-Some-clause-apart : goal.returns-in-Some-clause-apart
returns-in-Some-clause-apart c = λ e g formed are.
    let gap = c.in-Some.both.gap in
    let set = c.args.set.now in
    gap_apart g c.args.sets.now c.in-Some.both formed (subst (AreOperatorStarts g) c.in-Some.is are) set c.first_met.result
    (subst (λ xs. MatchOption c.first_met.result (MeetsNone xs set gap) (λ k. IsFirstMet xs set gap k)) c.starts.ensures c.first_met.ensures) (sym c.is_some.ensures ∙ e)
