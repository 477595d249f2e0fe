use Rattle.std.proofs.Common.{◌≡◌, false, Some, None, ap}
use Rattle.std.specs.Option.{option_copied}
use Rattle.std.proofs.lemmas.Result.{IfOk-weaker}
use Rattle.pg_machine_lists.specs.TapeLevels.{OnStretch, after_kept}
use Rattle.pg_machine_lists.specs.ViewLevels.{setting_of, stretch_of}
use Rattle.pg_machine_lists.proofs.RowSteps.{entry_by}
use Rattle.pg_machine_lists.proofs.lists.Lists.from_entry.Goals as goal

pub returns-in-Some-clause-stretch : goal.returns-in-Some-clause-stretch
returns-in-Some-clause-stretch g c =
    let level = c.args.level in
    IfOk-weaker c.with_prefix.result _ _
    (λ after h G. entry_by G (setting_of c.args.look.setting.now) (option_copied level.prefix) (Some c.in-Some.symbol.now) level.entry level.forest
    (stretch_of c.args.stretch c.args.self.now) (stretch_of after c.with_prefix.new.self) (h G) (ap option_copied c.in-Some.is)) c.with_prefix.ensures.stretch

pub returns-in-None-clause-stretch : goal.returns-in-None-clause-stretch
returns-in-None-clause-stretch g c =
    let level = c.args.level in
    let z : OnStretch = stretch_of c.args.stretch c.args.self.now in
    IfOk-weaker c.after_kept.result (λ after. stretch_of after c.after_kept.new.self ≡ after_kept false level.entry z) _
    (λ after h G. entry_by G (setting_of c.args.look.setting.now) (option_copied level.prefix) None level.entry level.forest
    z (stretch_of after c.after_kept.new.self) h (ap option_copied c.in-None.is)) c.after_kept.ensures.stretch
