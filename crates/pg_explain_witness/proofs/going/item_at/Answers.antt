use Rattle.pg_explain_witness.specs.Going.{begins}
use Rattle.pg_explain_witness.proofs.going.item_at.Goals as goal

pub comes_to_item-item-requires : goal.comes_to_item-item-requires
comes_to_item-item-requires g c = begins c.in_ok-replayer.ensures
