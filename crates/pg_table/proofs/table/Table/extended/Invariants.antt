use Rattle.std.proofs.Common.{◌≡◌, drop}
use Rattle.pg_table.specs.Tables.{added_from}
use Rattle.pg_table.proofs.table.Table.extended.Given as goal

abbrev pub invariant-loop-index : goal.invariant-loop-index
invariant-loop-index l = added_from 0 l.fn.self l.decls ≡ added_from l.index l.table (drop l.index l.decls)
