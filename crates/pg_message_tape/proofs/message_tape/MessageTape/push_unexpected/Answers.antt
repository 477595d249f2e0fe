use Rattle.pg_message_tape.proofs.Repeats.{kept_step}
use Rattle.pg_message_tape.proofs.message_tape.MessageTape.push_unexpected.Goals as goal

pub loop-entry-preserved : goal.loop-entry-preserved
loop-entry-preserved c =
    kept_step _ _ _ c.args.entries.now c.loop-entry.entry-index _ c.loop-entry-test.true c.in_ok-push_own.ensures c.loop-entry.invariant
