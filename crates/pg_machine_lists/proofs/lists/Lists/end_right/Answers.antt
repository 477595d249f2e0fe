use Rattle.std.proofs.Common.{◌≡◌, List, ap, ◌∙◌}
use Rattle.pg_grammar_form.specs.Operators.{Operator}
use Rattle.pg_expand.specs.Rows.{row_numbered}
use Rattle.pg_expand.specs.declared.rows.Row.{Row}
use Rattle.pg_language.specs.Answers.{Given}
use Rattle.pg_language_operators.specs.RowRoles.{is_any, roles_of}
use Rattle.pg_language_operators.specs.declared.in_force.RowRoles.{RowRoles}
use Rattle.pg_machine_lists.specs.TapeLevels.{OnSetting}
use Rattle.pg_machine_lists.specs.ViewLevels.{given_of, operator_of, said_of, setting_of, stretch_of}
use Rattle.pg_machine_lists.proofs.RowSteps.{ended_right}
use Rattle.pg_machine_lists.proofs.lists.Lists.end_right.Goals as goal

pub returns : goal.returns
returns g c =
    let G : Given = given_of c.args.look.context.given in
    let e : OnSetting = setting_of c.args.look.setting.now in
    let r : Row = row_numbered e.operators c.args.row in
    let any : c.roles-any.result.right ≡ is_any r.right =
    ap (λ (roles : RowRoles). roles.right) (c.roles-any.ensures ∙ ap (λ (o : List Operator). roles_of (row_numbered o c.args.row)) c.deref.ensures) in
    record {
      stretch = ended_right G e r (operator_of c.args.operator) (said_of c.unread_said.result)
          (stretch_of c.args.stretch c.args.self.now)
          (stretch_of c.in_ok-stretch.stretch c.said_after.new.self)
          (stretch_of c.in_ok-stretch-2.stretch c.says_left.new.self)
          (stretch_of c.in_ok-stretch-3.stretch c.says_non.new.self)
          (stretch_of c.in_ok-stretch-4.stretch c.after_joined.new.self)
          (c.in_ok-stretch-4.ensures.stretch G) c.in_ok-stretch-3.ensures.stretch c.in_ok-stretch-2.ensures.stretch c.in_ok-stretch.ensures.stretch
          (c.unread_said.ensures r.right any);
    }
