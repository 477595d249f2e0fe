use Rattle.std.proofs.Common.{sym, ◌∙◌, refl}
use Rattle.std.proofs.lemmas.Result.{IfOk-weaker}
use Rattle.pg_language.specs.Answers.{Given}
use Rattle.pg_language_operators.specs.Standings.{read_of}
use Rattle.pg_machine_lists.specs.TapeLevels.{OnSetting, OnStretch}
use Rattle.pg_machine_lists.specs.ViewLevels.{given_of, setting_of, stretch_of}
use Rattle.pg_machine_lists.proofs.RowSteps.{first_right, first_left, first_non, first_none}
use Rattle.pg_machine_lists.proofs.lists.Lists.first_on.Goals as goal

pub returns-in-Some : goal.returns-in-Some
returns-in-Some g c =
    let G : Given = given_of c.args.look.context.given in
    let e : OnSetting = setting_of c.args.look.setting.now in
    let z : OnStretch = stretch_of c.args.stretch c.args.self.now in
    record {
      followed = IfOk-weaker c.run_after.result _ _
          (λ f h. h G e z refl refl ∙ first_right G e c.args.tighter c.args.level.row c.args.look.place c.args.level.forest c.args.level.messages z
          c.requires.row c.requires.place (read_of c.in-Some.read) c.in-Some.ensures.read)
          c.run_after.ensures.followed;
    }

pub returns-in-Some-read : goal.returns-in-Some-read
returns-in-Some-read g c =
    let G : Given = given_of c.args.look.context.given in
    let e : OnSetting = setting_of c.args.look.setting.now in
    let z : OnStretch = stretch_of c.args.stretch c.args.self.now in
    record {
      followed = IfOk-weaker c.run_after-in-Some-read.result _ _
          (λ f h. h G e z refl refl ∙ first_left G e c.args.tighter c.args.level.row c.args.look.place c.args.level.forest c.args.level.messages z
          c.requires.row c.requires.place (read_of c.in-Some-read.read) c.in_default.ensures.read c.in-Some-read.ensures.read)
          c.run_after-in-Some-read.ensures.followed;
    }

pub returns-in-Some-read-2 : goal.returns-in-Some-read-2
returns-in-Some-read-2 g c =
    let G : Given = given_of c.args.look.context.given in
    let e : OnSetting = setting_of c.args.look.setting.now in
    let z : OnStretch = stretch_of c.args.stretch c.args.self.now in
    record {
      followed = IfOk-weaker c.run_after-in-Some-read-2.result _ _
          (λ f h. h G e z refl refl ∙ first_non G e c.args.tighter c.args.level.row c.args.look.place c.args.level.forest c.args.level.messages z
          c.requires.row c.requires.place (read_of c.in-Some-read-2.read) c.in_default.ensures.read c.in_default-read.ensures.read c.in-Some-read-2.ensures.read)
          c.run_after-in-Some-read-2.ensures.followed;
    }

pub returns : goal.returns
returns g c =
    let G : Given = given_of c.args.look.context.given in
    let e : OnSetting = setting_of c.args.look.setting.now in
    let z : OnStretch = stretch_of c.args.stretch c.args.self.now in
    record {
      followed = sym (c.in_ok-stretch.ensures.stretch c.args.tighter c.args.level.forest c.args.level.messages)
          ∙ first_none G e c.args.tighter c.args.level.row c.args.look.place c.args.level.forest c.args.level.messages z
          c.requires.row c.requires.place c.in_default.ensures.read c.in_default-read.ensures.read c.in_default-read-2.ensures.read;
    }
