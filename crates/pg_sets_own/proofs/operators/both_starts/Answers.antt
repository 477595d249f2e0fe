use Rattle.pg_sets_own.proofs.operators.both_starts.Goals as goal

pub returns : goal.returns
returns c = record { named = c.in_ok-operator.ensures.named; operator = c.in_ok-operator.ensures.operator; gap = c.in_ok-gap.ensures }
