use Rattle.std.proofs.Common.{◌≡◌, sym, subst}
use Rattle.pg_table.specs.Tables.{initial, whole}
use Rattle.pg_table.proofs.Added.{own_table}
use Rattle.pg.proofs.commands.parse.print_outline.Goals as goal

pub outline_success-requires-clause-table : goal.outline_success-requires-clause-table
outline_success-requires-clause-table g c =
    own_table _ _ (subst (λ it. initial it ≡ whole c.args.accepted.now.table) (sym c.grammar-grammar.ensures.grammar)
    (subst (λ it. initial it.grammar ≡ whole c.args.accepted.now.table) (sym c.as_checked.ensures) c.requires))
