use Rattle.pg_server_positions.proofs.Again.{leads}
use Rattle.pg_server_positions.proofs.laws.positions_lead_back.Goals as goal

pub returns : goal.returns
returns c = leads
