use Rattle.pg_explain_witness.specs.Losing.{separates}
use Rattle.pg_explain_witness.proofs.losing.round_part.Goals as goal
use Rattle.std.proofs.Common.{rules}

pub returns-in-Some-Chain : goal.returns-in-Some-Chain
returns-in-Some-Chain c = separates {side = c.in-Some-Chain.field-0-0} {used = c.in-Some-Chain.field-0-1} {operand = c.in-Some-Chain.field-0-2} (search rules)
