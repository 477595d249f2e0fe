use Rattle.pg_predict.proofs.Standing.{all_speak}
use Rattle.pg_predict.proofs.laws.findings_speak_of_nodes.Goals as goal

pub returns : goal.returns
returns c g grammar findings are = all_speak g grammar findings are
