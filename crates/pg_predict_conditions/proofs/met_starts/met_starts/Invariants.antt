use Rattle.pg_predict_conditions.proofs.MetSets.{MeetingsSoFar}
use Rattle.pg_predict_conditions.proofs.met_starts.met_starts.Given as goal

abbrev pub invariant-loop-listed : goal.invariant-loop-listed
invariant-loop-listed l = MeetingsSoFar l.starts l.listed-index l.meetings.items
