use Rattle.std.proofs.Common.{◌≡◌, suc, ap, ◌∙◌, arith}
use Rattle.pg_expand.specs.Rows.{row_numbered}
use Rattle.pg_language_operators.specs.RowRoles.{roles_of}
use Rattle.pg_language_operators.proofs.Roles.{roles_numbered}
use Rattle.pg_language_operators.proofs.in_force.InForce.roles.Goals as goal

pub returns-in-Some : goal.returns-in-Some
returns-in-Some c =
    let number : suc c.in-Some.index ≡ c.args.row = omega arith in
    let numbered = roles_numbered c.args.self.now c.in-Some.index in
    let same = ap (λ n. roles_of (row_numbered c.args.self.now n)) number in
    let laid = c.self.invariant.by_row in
    cc
