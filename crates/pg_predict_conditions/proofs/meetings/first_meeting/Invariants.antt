use Rattle.std.proofs.Common.{◌-◌, length}
use Rattle.pg_predict_conditions.proofs.FirstMeetings.{NoneBelow}
use Rattle.pg_predict_conditions.proofs.meetings.first_meeting.Given as goal

abbrev pub invariant-loop-start : goal.invariant-loop-start
invariant-loop-start l = NoneBelow l.meetings l.one l.other l.from

abbrev pub decreases-loop-start : goal.decreases-loop-start
decreases-loop-start l = length l.meetings - l.from
