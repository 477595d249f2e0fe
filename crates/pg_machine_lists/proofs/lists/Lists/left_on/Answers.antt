use Rattle.std.proofs.Common.{None, ◌≡◌, sym, ap, ◌∙◌, refl}
use Rattle.std.proofs.lemmas.Result.{IfOk-weaker}
use Rattle.pg_language.specs.Answers.{Given}
use Rattle.pg_language_operators.specs.Standings.{read_of}
use Rattle.pg_machine_lists.specs.TapeLevels.{OnSetting, OnStretch, joined_from}
use Rattle.pg_machine_lists.specs.ViewLevels.{given_of, setting_of, stretch_of, followed_of, operator_of}
use Rattle.pg_machine_lists.specs.RunTrees.{RunTrees}
use Rattle.pg_machine_lists.proofs.RowSteps.{left_again, left_by}
use Rattle.pg_machine_lists.proofs.lists.Lists.left_on.Goals as goal

pub returns-in_ok-join-in-Some : goal.returns-in_ok-join-in-Some
returns-in_ok-join-in-Some g c =
    let G : Given = given_of c.args.look.context.given in
    let e : OnSetting = setting_of c.args.look.setting.now in
    let z : OnStretch = stretch_of c.args.stretch c.args.self.now in
    let joined : (joined_from G e (operator_of c.args.operator) z).lists ≡ record { v = c.join.new.forest; t = z.lists.t; x = z.lists.x } =
    ap (λ (v : RunTrees). record { v = v; t = z.lists.t; x = z.lists.x }) (sym c.in_ok-join-in-Some.ensures) in
    record {
      followed = IfOk-weaker c.run_after.result _ _
          (λ f h. left_again G e c.args.tighter c.args.level.row c.args.look.place c.args.level.forest c.args.level.messages z
          c.requires.row c.requires.place (operator_of c.args.operator) (read_of c.in-Some.read) (followed_of f c.run_after.new.self)
          (h G e (joined_from G e (operator_of c.args.operator) z) refl joined) c.in-Some.ensures.read)
          c.run_after.ensures.followed;
    }

pub returns-in_ok-stretch-in-None : goal.returns-in_ok-stretch-in-None
returns-in_ok-stretch-in-None g c =
    let G : Given = given_of c.args.look.context.given in
    let e : OnSetting = setting_of c.args.look.setting.now in
    let z : OnStretch = stretch_of c.args.stretch c.args.self.now in
    record {
      followed = sym (c.in_ok-stretch-in-None.ensures.stretch c.args.tighter c.args.level.messages)
          ∙ left_by G e c.args.tighter c.args.level.row c.args.look.place c.args.level.forest c.args.level.messages z
          c.requires.row c.requires.place (operator_of c.args.operator) None c.in-None.ensures.read;
    }
