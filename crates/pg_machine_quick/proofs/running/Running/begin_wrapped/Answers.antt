use Rattle.std.proofs.Common.{refl, slice_get}
use Rattle.pg_machine_quick.specs.Running.{shown}
use Rattle.pg_machine_quick.proofs.TokenTurns.{wrapped_taken}
use Rattle.pg_machine_quick.proofs.running.Running.begin_wrapped.Goals as goal

pub returns-in-Some : goal.returns-in-Some
returns-in-Some c = wrapped_taken c.args.context (shown c.args.self.now) (shown c.take_wrapped.new.self) c.args.counts c.args.wrapped c.in-Some.taken
    (slice_get c.args.context.grammar.now.nodes c.args.wrapped.node) c.take_wrapped.result c.requires.begin c.requires.wrapped c.in-Some.ensures.taken refl c.take_wrapped.ensures
