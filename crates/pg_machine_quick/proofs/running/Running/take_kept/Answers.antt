use Rattle.std.proofs.Common.{◌∙◌, ap, sym}
use Rattle.pg_grammar_form.specs.declared.form.Around.TheVariants.{Build}
use Rattle.pg_machine_quick.specs.Running.{shown}
use Rattle.pg_machine_quick.proofs.TokenTurns.{built_taken}
use Rattle.pg_machine_quick.proofs.running.Running.take_kept.Goals as goal

pub returns-in-Build : goal.returns-in-Build
returns-in-Build c = built_taken c.args.text.now c.args.taken.characters.now c.args.wrapped c.args.around.now c.in-Build.used c.as_str.result.now
    (shown c.args.self.now) (shown c.take_built.new.self) c.args.taken.more c.take_built.result
    (c.in-Build.is ∙ ap (λ s. Build c.in-Build.used s) (sym c.as_str.ensures)) c.requires.form c.requires.token c.take_built.ensures
