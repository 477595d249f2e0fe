use Rattle.pg_machine_quick.proofs.running.Running.act_at.Goals as goal

pub returns-in-ReadPostfix : goal.returns-in-ReadPostfix
returns-in-ReadPostfix c = rw c.in-ReadPostfix.is c.read_postfix.ensures

pub returns-in-ReadInfix : goal.returns-in-ReadInfix
returns-in-ReadInfix c = rw c.in-ReadInfix.is c.read_infix.ensures
