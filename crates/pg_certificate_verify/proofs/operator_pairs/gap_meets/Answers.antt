use Rattle.std.proofs.Common.{refl, inl, inr}
use Rattle.std.proofs.lemmas.Bool.{cases_Bool}
use Rattle.pg_sets.specs.Sets.{HasStart}
use Rattle.pg_certificate_verify.proofs.Operators.{by_operator, by_term, by_after, by_none}
use Rattle.pg_certificate_verify.proofs.operator_pairs.gap_meets.Goals as goal

pub returns-then-gaps_meet_operators : goal.returns-then-gaps_meet_operators
returns-then-gaps_meet_operators c = λ g formed are. (
  λ is. by_operator g (HasStart c.args.sets.now.starts c.args.term.now) (HasStart c.args.sets.now.starts c.args.after.now)
      (c.gaps_meet_operators.ensures.met c.if-gaps_meet_operators.true g are),
  λ some. refl,
)

pub returns-then-meets_gaps : goal.returns-then-meets_gaps
returns-then-meets_gaps c = λ g formed are. (
  λ is. by_term g (HasStart c.args.sets.now.starts c.args.term.now) (HasStart c.args.sets.now.starts c.args.after.now)
      (c.gaps_meet_operators.ensures.apart c.if-gaps_meet_operators.false g are) (c.meets_gaps.ensures.met c.if-meets_gaps.true g formed are),
  λ some. refl,
)

pub returns : goal.returns
returns c = λ g formed are.
    let term = HasStart c.args.sets.now.starts c.args.term.now in
    let after = HasStart c.args.sets.now.starts c.args.after.now in
    let none = c.gaps_meet_operators.ensures.apart c.if-gaps_meet_operators.false g are in
    let free = c.meets_gaps.ensures.apart c.if-meets_gaps.false g formed are in (
      λ is. by_after g term after none free (c.meets_gaps-2.ensures.met is g formed are),
      λ some. elim (cases_Bool c.meets_gaps-2.result) [ inl e ↦ e | inr e ↦ absurd (by_none g term after none free (c.meets_gaps-2.ensures.apart e g formed are) some) ],
    )
