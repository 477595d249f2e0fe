use Rattle.std.proofs.Common.{sym}
use Rattle.pg_machine_quick.proofs.RowPasses.{has_not, none_at_character, none_at_end}
use Rattle.pg_machine_quick.proofs.context.is_bare.Goals as goal

pub returns-in-Some-char_at : goal.returns-in-Some-char_at
returns-in-Some-char_at c = λ bare.
    none_at_character c.args.context c.args.place c.in-Some-char_at.c c.in-Some._item.now (sym c.in-Some.ensures.all) (sym c.in-Some-char_at.ensures)
    (has_not c.contains.result _ c.contains.ensures bare)

pub returns-in-None : goal.returns-in-None
returns-in-None c = λ bare. none_at_end c.args.context c.args.place c.in-Some._item.now (sym c.in-Some.ensures.all) (sym c.in-None.ensures)
