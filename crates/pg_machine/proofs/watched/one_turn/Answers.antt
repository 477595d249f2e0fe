use Rattle.std.proofs.Common.{◌-◌, ◌^◌, arith}
use Rattle.pg_language.specs.Answers.{given}
use Rattle.pg_machine_turns.specs.View.{tape_of}
use Rattle.pg_machine.proofs.OneTurn.{one_turn}
use Rattle.pg_machine.proofs.watched.one_turn.Goals as goal

pub turns-requires-clause-ready : goal.turns-requires-clause-ready
turns-requires-clause-ready g c = (2 ^ 64 - 2, c.requires.ready, omega arith)

pub returns : goal.returns
returns g c =
    let run = c.args.run.now in
    let progress = c.in_ok-progress.progress in
    one_turn (given run.reading run.grammar.now run.text.now) (tape_of c.args.mode c.args.machine.now) progress.steps _ c.in_ok-progress.ensures.after c.in_ok-progress.ensures.within c.in_ok-progress.ensures.last
