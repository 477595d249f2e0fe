use Rattle.std.proofs.Common.{sym, ◌∙◌}
use Rattle.pg_language_operators.proofs.Found.{none_in_row}
use Rattle.pg_language_operators.proofs.standing.Standing.has_row.Goals as goal

pub returns-clause-none : goal.returns-clause-none
returns-clause-none c = λ none. none_in_row c.args.self.now c.args.row (sym c.is_any_of.ensures ∙ none)
