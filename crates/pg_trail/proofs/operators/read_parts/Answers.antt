use Rattle.std.proofs.lemmas.Result.{err_from_is_err_and}
use Rattle.pg_trail.proofs.Texts.{parts_read, no_parts, parts_fault}
use Rattle.pg_trail.proofs.operators.read_parts.Goals as goal

pub returns-in_err-role : goal.returns-in_err-role
returns-in_err-role c =
    let p = err_from_is_err_and c.from_residual.result c.from_residual.ensures.1 in
    rw (p.1, p.2) (parts_fault c.args.reader.now c.both_texts.new.reader c.in_err-role.field-0.0 c.in_err-role.ensures)

pub returns-in-Some : goal.returns-in-Some
returns-in-Some c =
    parts_read c.args.reader.now c.both_texts.new.reader (c.in-Some.role.now, c.in-Some.symbol.now) c.operator_of.result (rw c.in-Some.is at c.in_ok-role.ensures) c.operator_of.ensures

pub returns-in-None : goal.returns-in-None
returns-in-None c = no_parts c.args.reader.now c.both_texts.new.reader (rw c.in-None.is at c.in_ok-role.ensures)
