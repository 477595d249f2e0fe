use Rattle.std.proofs.Common.{◌∙◌}
use Rattle.pg_pred_program.proofs.Sets.{in_set-group}
use Rattle.pg_pred_program.proofs.categories.letters.Goals as goal

pub returns : goal.returns
returns c = λ d scalar. c.in_ok-class.ensures d scalar ∙ in_set-group _ d
