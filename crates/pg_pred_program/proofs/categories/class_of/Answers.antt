use Rattle.std.proofs.Common.{◌∙◌, ap}
use Rattle.pg_class.specs.Ranges.{has}
use Rattle.pg_pred_program.proofs.Sets.{has-set}
use Rattle.pg_pred_program.proofs.categories.class_of.Goals as goal

pub returns : goal.returns
returns c = λ d scalar.
    c.in_ok-class.ensures d scalar
    ∙ ap (λ rs. has rs d) c.as_slice-2.ensures.value
    ∙ c.in_ok-characters.ensures.members d scalar
    ∙ ap (λ rs. has rs d) c.as_slice.ensures.value
    ∙ has-set _ _ c.in_ok-ranges.ensures.members d scalar
