use Rattle.std.proofs.Common.{◌++◌, List, sym, ap, ◌∙◌, append-nil, arith}
use Rattle.pg_message_tape.specs.Messages.{TapeMessage}
use Rattle.pg_message_tape.proofs.Repeats.{length_repeated, none_left}
use Rattle.pg_message_tape.proofs.message_tape.MessageTape.push_but.Goals as goal

pub returns-then-more-skipped-clause-pushed : goal.returns-then-more-skipped-clause-pushed
returns-then-more-skipped-clause-pushed c =
    sym (ap (λ (xs : List TapeMessage). c.args.self.now ++ xs) (none_left c.args.entry c.args.skipped c.if-more-skipped.true) ∙ append-nil c.args.self.now)

pub returns-then-more-skipped-clause-left : goal.returns-then-more-skipped-clause-left
returns-then-more-skipped-clause-left c = omega (arith, length_repeated c.args.entry)
