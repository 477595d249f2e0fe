use Rattle.std.proofs.Common.{true≢false, sym, ap, subst, ◌∙◌}
use Rattle.std.specs.Prelude.{not}
use Rattle.pg_sets_own.specs.OperatorStarts.{AreOperatorStarts}
use Rattle.pg_certificate_verify.proofs.Operators.{both_met}
use Rattle.pg_certificate_verify.proofs.operator_pairs.gaps_meet_operators.Goals as goal

pub returns-in-Some-clause-met : goal.returns-in-Some-clause-met
returns-in-Some-clause-met c = λ e g are.
    both_met g c.in-Some.both (subst (AreOperatorStarts g) c.in-Some.is are)
    (λ apart. true≢false (sym e ∙ ap not (c.apart.ensures.1 apart)))
