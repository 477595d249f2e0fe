use Rattle.std.proofs.Common.{suc, sym, ap, ◌∙◌}
use Rattle.pg_language.specs.Answers.{Given}
use Rattle.pg_machine_lists.specs.TapeLevels.{OnSetting, OnStretch, row_on}
use Rattle.pg_machine_lists.specs.ViewLevels.{given_of, setting_of, stretch_of, operator_of, preceding_of}
use Rattle.pg_expand.specs.Rows.{row_numbered}
use Rattle.pg_machine_lists.specs.declared.level.Preceding.{Preceding}
use Rattle.pg_machine_lists.proofs.RowSteps.{non_by}
use Rattle.pg_machine_lists.proofs.lists.Lists.row_on.Goals as goal

pub returns-in_ok-stretch-in-Non : goal.returns-in_ok-stretch-in-Non
returns-in_ok-stretch-in-Non g c =
    let G : Given = given_of c.args.look.context.given in
    let e : OnSetting = setting_of c.args.look.setting.now in
    let z : OnStretch = stretch_of c.args.stretch c.args.self.now in
    record {
      followed = sym (c.in_ok-stretch-in-Non.ensures.stretch c.args.tighter c.args.level.forest c.args.level.messages)
          ∙ non_by G e c.args.tighter c.args.level.row c.args.level.forest c.args.level.messages (operator_of c.in-Non.operator) z c.requires.row
          ∙ ap (λ (before : Preceding). row_on G e c.args.tighter (row_numbered e.operators (suc c.args.tighter)) c.args.level.forest c.args.level.messages
          (preceding_of before) z) (sym c.in-Non.is);
    }
