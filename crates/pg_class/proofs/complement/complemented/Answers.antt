use Rattle.std.proofs.Common.{ap, subst, sym, refl, ◌∙◌}
use Rattle.pg_class.specs.Ranges.{IsClass, has}
use Rattle.pg_class.proofs.Gaps.{has-gaps-0, IsClass-gaps}
use Rattle.pg_class.proofs.complement.complemented.Goals as goal

pub returns-clause-class : goal.returns-clause-class
returns-clause-class c = subst IsClass (sym c.in_ok-ranges.ensures) (IsClass-gaps c.args.class.now 0 c.requires (λ _. refl))

pub returns-clause-members : goal.returns-clause-members
returns-clause-members c = λ d sc. ap (λ rs. has rs d) c.in_ok-ranges.ensures ∙ has-gaps-0 c.args.class.now d c.requires sc
