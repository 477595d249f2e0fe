use Rattle.std.proofs.Common.{◌≡◌, ◌-◌, ◌^◌, subst, sym}
use Rattle.pg_pred.specs.Offer.{offer_of}
use Rattle.pg_machine_turns.specs.Ready.{AreReady}
use Rattle.pg_machine_turns.proofs.Stack.{room_on_top}
use Rattle.pg_machine_turns.proofs.machine.Machine.hand_on.Goals as goal

pub run_on-requires : goal.run_on-requires
run_on-requires g c = room_on_top (offer_of c.args.context.registry.now) c.args.context.given.grammar.now (2 ^ 64 - 1) c.args.self.now.frames c.requires
