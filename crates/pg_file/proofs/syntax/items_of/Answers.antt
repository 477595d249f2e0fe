use Rattle.pg_file.proofs.syntax.items_of.Goals as goal

pub returns-in-Err-clause-refused : goal.returns-in-Err-clause-refused
returns-in-Err-clause-refused c = λ fault. c.in-Err.ensures.refused (c.syntax_error.ensures.fault fault)
