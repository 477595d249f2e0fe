use Rattle.pg_explain_witness.specs.Going.{begins}
use Rattle.pg_explain_witness.proofs.going.rounds_left.Goals as goal

pub comes_to_rounds-left-requires : goal.comes_to_rounds-left-requires
comes_to_rounds-left-requires g c = begins c.in_ok-replayer.ensures
