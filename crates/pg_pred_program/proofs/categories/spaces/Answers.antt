use Rattle.std.proofs.Common.{◌∙◌, ◌||◌, ap}
use Rattle.pg_class.specs.Ranges.{has}
use Rattle.pg_pred_program.specs.Categories.{is_separator}
use Rattle.pg_pred_program.proofs.Sets.{in_set-category, has-one}
use Rattle.pg_pred_program.proofs.categories.spaces.Goals as goal

pub returns : goal.returns
returns c = λ d scalar.
    c.in_ok-class.ensures.members d scalar
    ∙ ap (λ b. b || has c.in_ok-controls.controls d) (c.in_ok-separators.ensures d scalar ∙ in_set-category _ d)
    ∙ ap (λ b. is_separator d || b) (c.in_ok-controls.ensures d scalar ∙ has-one (9, 13) d)
