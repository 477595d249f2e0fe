use Rattle.std.proofs.Common.{arith}
use Rattle.pg_machine_quick.proofs.Readings.{is_end, is_no_end}
use Rattle.pg_machine_quick.proofs.reading.end.Goals as goal

pub returns-then-place-len : goal.returns-then-place-len
returns-then-place-len c = λ table. is_end c.args.text.now table c.args.place (omega arith)

pub returns-else-place-len : goal.returns-else-place-len
returns-else-place-len c = λ table. is_no_end c.args.text.now table c.args.place (omega arith)
