use Rattle.pg_grammar_value.proofs.Items.{knows-none}
use Rattle.pg_grammar_value.proofs.membership.whole_membership.Goals as goal

pub first_membership-requires-clause-answers : goal.first_membership-requires-clause-answers
first_membership-requires-clause-answers g c = knows-none c.args.items.now c.args.c 256
