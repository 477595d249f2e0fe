use Rattle.std.proofs.Common.{◌≡◌, suc, refl, sym, subst, arith}
use Rattle.pg_machine_quick.specs.Looks.{PassesEnd}
use Rattle.pg_machine_quick.specs.Running.{shown}
use Rattle.pg_machine_quick.proofs.RowPasses.{end_before, row_passed}
use Rattle.pg_machine_quick.proofs.running.Running.row_end_length.Goals as goal

pub returns-then-has_row : goal.returns-then-has_row
returns-then-has_row c =
    let number : c.in_ok-number.number ≡ suc c.args.end.row = omega (arith, c.in_ok-number.ensures) in
    end_before c.args.look.context c.args.look.place (shown c.args.self.now) c.args.end c.in_ok-_builders._builders.now c.in_ok-number.number c.before_infix.result (sym c.requires.place)
    c.in_ok-_builders.ensures c.in-None.ensures number c.before_infix.ensures

pub returns-else-has_row : goal.returns-else-has_row
returns-else-has_row c =
    let number : c.in_ok-number.number ≡ suc c.args.end.row = omega (arith, c.in_ok-number.ensures) in
    subst (PassesEnd c.args.look.context (shown c.args.self.now) c.args.end) (sym c.unread_length.ensures)
    (row_passed c.args.look.context c.args.look.place (shown c.args.self.now) c.in_ok-infix.infix c.args.end c.in_ok-_builders._builders.now (sym c.requires.place) c.in_ok-_builders.ensures
    c.in_ok-infix.ensures c.in-None.ensures (λ role. c.if-has_row.ensures refl c.args.end.row role number))
