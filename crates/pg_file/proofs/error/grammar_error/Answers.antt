use Rattle.pg_file.proofs.error.grammar_error.Goals as goal

pub returns-in-Refused-clause-kind : goal.returns-in-Refused-clause-kind
returns-in-Refused-clause-kind c = c.kind_of_name.ensures c.in-Refused.fault.place
