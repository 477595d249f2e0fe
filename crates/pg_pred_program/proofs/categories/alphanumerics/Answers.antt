use Rattle.std.proofs.Common.{◌∙◌, ◌||◌, ap}
use Rattle.pg_class.specs.Ranges.{has}
use Rattle.pg_pred_program.specs.Categories.{is_letter}
use Rattle.pg_pred_program.proofs.Sets.{in_set-group}
use Rattle.pg_pred_program.proofs.categories.alphanumerics.Goals as goal

pub returns : goal.returns
returns c = λ d scalar.
    c.in_ok-class.ensures.members d scalar
    ∙ ap (λ b. b || has c.in_ok-numbers.numbers d) (c.in_ok-letters.ensures d scalar)
    ∙ ap (λ b. is_letter d || b) (c.in_ok-numbers.ensures d scalar ∙ in_set-group _ d)
