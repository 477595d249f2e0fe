use Rattle.std.proofs.Common.{None, sym, ◌∙◌, refl}
use Rattle.std.proofs.lemmas.Result.{IfOk-weaker}
use Rattle.pg_language.specs.Answers.{Given}
use Rattle.pg_language_operators.specs.Standings.{read_of}
use Rattle.pg_machine_lists.specs.TapeLevels.{OnSetting, OnStretch}
use Rattle.pg_machine_lists.specs.ViewLevels.{given_of, setting_of, stretch_of, followed_of, operator_of}
use Rattle.pg_machine_lists.proofs.RowSteps.{right_again, right_by}
use Rattle.pg_machine_lists.proofs.lists.Lists.right_on.Goals as goal

pub returns-in-Some : goal.returns-in-Some
returns-in-Some g c =
    let G : Given = given_of c.args.look.context.given in
    let e : OnSetting = setting_of c.args.look.setting.now in
    let z : OnStretch = stretch_of c.args.stretch c.args.self.now in
    record {
      followed = IfOk-weaker c.run_after.result _ _
          (λ f h. right_again G e c.args.tighter c.args.level.row c.args.look.place c.args.level.forest c.args.level.messages z
          c.requires.row c.requires.place (operator_of c.args.operator) (read_of c.in-Some.read) (followed_of f c.run_after.new.self)
          (h G e z refl refl) c.in-Some.ensures.read)
          c.run_after.ensures.followed;
    }

pub returns-in_ok-stretch-in-None : goal.returns-in_ok-stretch-in-None
returns-in_ok-stretch-in-None g c =
    let G : Given = given_of c.args.look.context.given in
    let e : OnSetting = setting_of c.args.look.setting.now in
    let z : OnStretch = stretch_of c.args.stretch c.args.self.now in
    record {
      followed = sym (c.in_ok-stretch-in-None.ensures.stretch c.args.tighter c.args.level.forest c.args.level.messages)
          ∙ right_by G e c.args.tighter c.args.level.row c.args.look.place c.args.level.forest c.args.level.messages z
          c.requires.row c.requires.place (operator_of c.args.operator) None c.in-None.ensures.read;
    }
