use Rattle.std.proofs.Common.{refl, inl, inr}
use Rattle.std.proofs.lemmas.Bool.{cases_Bool}
use Rattle.pg_predict_conditions.specs.Conditions.{BeginsNothing}
use Rattle.pg_sets.specs.Sets.{HasStart}
use Rattle.pg_sets_own.specs.OperatorStarts.{IsGapStart}
use Rattle.pg_certificate_verify.proofs.Operators.{by_operator, by_after, by_none, nothing_meets}
use Rattle.pg_certificate_verify.proofs.operator_pairs.gap_meets_follow.Goals as goal

pub returns-then-gaps_meet_operators : goal.returns-then-gaps_meet_operators
returns-then-gaps_meet_operators c = λ g formed are. (
  λ is. by_operator g BeginsNothing (HasStart c.args.sets.now.starts c.args.after.now) (c.gaps_meet_operators.ensures.met c.if-gaps_meet_operators.true g are),
  λ some. refl,
)

pub returns : goal.returns
returns c = λ g formed are.
    let after = HasStart c.args.sets.now.starts c.args.after.now in
    let none = c.gaps_meet_operators.ensures.apart c.if-gaps_meet_operators.false g are in
    let free = nothing_meets g (IsGapStart g) in (
      λ is. by_after g BeginsNothing after none free (c.meets_gaps.ensures.met is g formed are),
      λ some. elim (cases_Bool c.meets_gaps.result) [ inl e ↦ e | inr e ↦ absurd (by_none g BeginsNothing after none free (c.meets_gaps.ensures.apart e g formed are) some) ],
    )
