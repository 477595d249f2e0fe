use Rattle.pg_expand.specs.Rows.{row_numbered}
use Rattle.pg_language.specs.Answers.{Given}
use Rattle.pg_machine_lists.specs.TapeLevels.{OnSetting}
use Rattle.pg_machine_lists.specs.ViewLevels.{given_of, operator_of, setting_of, stretch_of}
use Rattle.pg_machine_lists.proofs.RowSteps.{ended_non}
use Rattle.pg_machine_lists.proofs.lists.Lists.end_non.Goals as goal

pub returns : goal.returns
returns g c =
    let G : Given = given_of c.args.look.context.given in
    let e : OnSetting = setting_of c.args.look.setting.now in
    record {
      stretch = ended_non G e (row_numbered e.operators c.args.row) (operator_of c.args.operator)
          (stretch_of c.args.stretch c.args.self.now)
          (stretch_of c.in_ok-stretch.stretch c.says_right.new.self)
          (stretch_of c.in_ok-stretch-2.stretch c.says_left.new.self)
          (stretch_of c.in_ok-stretch-3.stretch c.says_non.new.self)
          (stretch_of c.in_ok-stretch-4.stretch c.after_joined.new.self)
          (c.in_ok-stretch-4.ensures.stretch G) c.in_ok-stretch-3.ensures.stretch c.in_ok-stretch-2.ensures.stretch c.in_ok-stretch.ensures.stretch;
    }
