use Rattle.std.proofs.Common.{sym, arith}
use Rattle.pg_predict_conditions.proofs.FirstMeetings.{none_below_next, found_here, none_left}
use Rattle.pg_predict_conditions.proofs.meetings.first_meeting.Goals as goal

pub returns-then-start-meetings : goal.returns-then-start-meetings
returns-then-start-meetings c =
    sym (none_left c.args.meetings.now c.args.one.now c.args.other.now c.loop-start.from c.loop-start.invariant (λ s more inside. c.in-Some.ensures.before s more (omega arith)))

pub returns-in-Some-least_met : goal.returns-in-Some-least_met
returns-in-Some-least_met c =
    sym (found_here c.args.meetings.now c.args.one.now c.args.other.now c.loop-start.from c.in-Some.start c.in-Some-least_met.met c.loop-start.invariant c.in-Some.ensures (sym c.in-Some-least_met.ensures))

pub loop-start-preserved : goal.loop-start-preserved
loop-start-preserved c =
    none_below_next c.args.meetings.now c.args.one.now c.args.other.now c.loop-start.from c.in-Some.start c.loop-start.invariant c.in-Some.ensures (sym c.in-None.ensures)

pub returns : goal.returns
returns c = sym (none_left c.args.meetings.now c.args.one.now c.args.other.now c.loop-start.from c.loop-start.invariant (λ s more inside. c.in_default.ensures s more))
