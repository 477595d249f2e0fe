use Rattle.std.proofs.Common.{Some, None, ◌∙◌}
use Rattle.std.specs.Option.{option_copied}
use Rattle.pg_language.specs.Answers.{Given}
use Rattle.pg_language_operators.specs.Standings.{read_of}
use Rattle.pg_machine_lists.specs.TapeLevels.{OnSetting, OnStretch}
use Rattle.pg_machine_lists.specs.ViewLevels.{given_of, setting_of, stretch_of}
use Rattle.pg_expand.specs.Rows.{row_numbered}
use Rattle.pg_machine_lists.proofs.RowSteps.{operand_by}
use Rattle.pg_machine_lists.proofs.lists.Lists.operand_of.Goals as goal

pub returns-in_ok-stretch-in-Some : goal.returns-in_ok-stretch-in-Some
returns-in_ok-stretch-in-Some g c =
    let G : Given = given_of c.args.look.context.given in
    let e : OnSetting = setting_of c.args.look.setting.now in
    let z : OnStretch = stretch_of c.args.stretch c.args.self.now in
    record {
      stretch = operand_by G e c.args.level.row c.args.look.place c.args.level.forest (option_copied c.args.level.prefix) c.args.level.entry z
          (stretch_of c.in_ok-stretch.stretch c.from_entry.new.self) (stretch_of c.in_ok-stretch-in-Some.stretch c.with_postfix.new.self) (Some (read_of c.in-Some.read))
          (c.in_ok-stretch-in-Some.ensures.stretch G (row_numbered e.operators c.args.level.row) c.in_ok-stretch.stretch) (c.in_ok-stretch.ensures.stretch G) (c.in_ok-stretch.ensures.place ∙ c.requires.place) c.in-Some.ensures.read;
    }

pub returns-in_ok-stretch-in-None : goal.returns-in_ok-stretch-in-None
returns-in_ok-stretch-in-None g c =
    let G : Given = given_of c.args.look.context.given in
    let e : OnSetting = setting_of c.args.look.setting.now in
    let z : OnStretch = stretch_of c.args.stretch c.args.self.now in
    record {
      stretch = operand_by G e c.args.level.row c.args.look.place c.args.level.forest (option_copied c.args.level.prefix) c.args.level.entry z
          (stretch_of c.in_ok-stretch.stretch c.from_entry.new.self) (stretch_of c.in_ok-stretch-in-None.stretch c.without_postfix.new.self) None
          (c.in_ok-stretch-in-None.ensures.stretch c.args.level.forest) (c.in_ok-stretch.ensures.stretch G) (c.in_ok-stretch.ensures.place ∙ c.requires.place) c.in-None.ensures.read;
    }
