use Rattle.pg_start.proofs.pairs.key_is_apart.Goals as goal

pub returns-in-Key : goal.returns-in-Key
returns-in-Key c = rw c.in-Key.is (rw c.as_slice.ensures at c.keys_are_apart.ensures)
