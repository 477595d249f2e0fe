use Rattle.pg_machine_lists.proofs.lists.Lists.with_prefix.Goals as goal

pub apply-requires : goal.apply-requires
apply-requires g c = c.requires.1.0
