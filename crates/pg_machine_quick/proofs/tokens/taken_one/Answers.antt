use Rattle.pg_machine_quick.proofs.TokenTurns.{one_taken}
use Rattle.pg_machine_quick.proofs.tokens.taken_one.Goals as goal

pub returns-then-contains : goal.returns-then-contains
returns-then-contains c = one_taken c.args.context c.args.node c.args.place c.in_ok-c.c c.requires c.in_ok-c.ensures c.if-contains.ensures
