use Rattle.pg_machine_quick.specs.Running.{shown}
use Rattle.pg_machine_quick.proofs.TokenTurns.{token_taken}
use Rattle.pg_machine_quick.proofs.running.Running.begin_token.Goals as goal

pub returns-in-Some : goal.returns-in-Some
returns-in-Some c = token_taken c.args.context (shown c.args.self.now) (shown c.take_token.new.self) c.args.counts c.args.token c.in-Some.taken c.take_token.result
    c.requires.begin c.requires.token c.in-Some.ensures.taken c.take_token.ensures
