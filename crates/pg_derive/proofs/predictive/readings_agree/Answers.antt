use Rattle.pg_derive.proofs.Readings.{readings_agree}
use Rattle.pg_derive.proofs.predictive.readings_agree.Goals as goal

pub returns : goal.returns
returns c = readings_agree
