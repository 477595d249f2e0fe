use Rattle.pg_message_tape.proofs.Repeats.{push_step}
use Rattle.pg_message_tape.proofs.message_tape.MessageTape.push_after.Goals as goal

pub loop-entry-preserved : goal.loop-entry-preserved
loop-entry-preserved c =
    push_step _ _ _ _ _ c.args.after.entries.now c.loop-entry.entry-index _ c.loop-entry-test.true c.in_ok-skipped.ensures.pushed c.in_ok-skipped.ensures.left c.loop-entry.invariant
