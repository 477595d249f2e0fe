use Rattle.std.proofs.Common.{◌≡◌, suc, arith, sym, ap, ◌∙◌}
use Rattle.std.specs.Option.{option_copied}
use Rattle.std.proofs.lemmas.Grind.{common_steps}
use Rattle.std.proofs.lemmas.Result.{IfOk-weaker}
use Rattle.pg_language.specs.Answers.{Given}
use Rattle.pg_machine_lists.specs.TapeLevels.{OnSetting, OnStretch, level_on}
use Rattle.pg_machine_lists.specs.ViewLevels.{given_of, setting_of, stretch_of, level_of, followed_of, operator_of, preceding_of}
use Rattle.pg_machine_lists.specs.declared.level.Context.{Context}
use Rattle.pg_machine_lists.specs.declared.level.Level.{Level}
use Rattle.pg_machine_lists.proofs.RowSteps.{level_on_look, right_side_by}
use Rattle.pg_machine_lists.proofs.lists.Lists.level_on.Goals as goal

pub returns-in_ok-stretch-in-Some : goal.returns-in_ok-stretch-in-Some
returns-in_ok-stretch-in-Some g c =
    let G : Given = given_of c.args.look.context.given in
    let e : OnSetting = setting_of c.args.look.setting.now in
    let z : OnStretch = stretch_of c.args.stretch c.args.self.now in
    let look = c.look_on-look.result in
    let level = c.in-Row.level in
    let same : level.row ≡ suc c.in-Some.tighter = grind (arith, common_steps) in
    record {
      followed = IfOk-weaker c.row_on.result _ _
          (λ f h. level_on_look G e (given_of look.context.given) (setting_of look.setting.now) (ap (λ (x : Context _ _ _ _ _ _). given_of x.given) c.look_on-look.ensures.context) (ap setting_of c.look_on-look.ensures.setting)
          c.in-Some.tighter level.row (option_copied level.prefix) level.entry level.forest level.messages (preceding_of level.before) z
          (stretch_of c.in_ok-stretch-in-Some.stretch c.operand_of.new.self) (followed_of f c.row_on.new.self) h c.in_ok-stretch-in-Some.ensures.stretch same
          ∙ ap (λ (l : Level). level_on G e (level_of l) z) (sym c.in-Row.is))
          c.row_on.ensures.followed;
    }

pub returns-in_ok-stretch-in-RightSide : goal.returns-in_ok-stretch-in-RightSide
returns-in_ok-stretch-in-RightSide g c =
    let G : Given = given_of c.args.look.context.given in
    let e : OnSetting = setting_of c.args.look.setting.now in
    let z : OnStretch = stretch_of c.args.stretch c.args.self.now in
    record {
      followed = right_side_by G e (operator_of c.in-RightSide.operator) z (stretch_of c.in_ok-stretch-in-RightSide.stretch c.after_joined.new.self)
          (c.in_ok-stretch-in-RightSide.ensures.stretch G)
          ∙ ap (λ (l : Level). level_on G e (level_of l) z) (sym c.in-RightSide.is);
    }
