use Rattle.std.proofs.Common.{◌∙◌, ℕ, List, Vec, Global, ap, sym, arith}
use Rattle.pg_graph_bits.specs.Numbers.{contains}
use Rattle.pg_sets_page.proofs.Ranges.{range_kept, range_passed}
use Rattle.pg_sets_page.proofs.page.members.Goals.{then-contains+in_ok-push, else-contains}
use Rattle.pg_sets_page.proofs.page.members.Goals as goal

abbrev items_of : Vec ℕ Global → List ℕ
items_of v = v.items

pub loop-number-preserved : goal.loop-number-preserved
loop-number-preserved c =
    let number = c.loop-number.number in
    let low = c.loop-number-test.true in
    let is = sym c.contains.ensures in
    elim c.if-contains.branch [
      | then-contains+in_ok-push w ↦ (
        omega arith,
        range_kept (contains c.args.set.now) c.loop-number.numbers.items c.if-contains.numbers.items _ number c.args.limit low
            (is ∙ w.if-contains.true) (ap items_of w.numbers-is ∙ w.in_ok-push.ensures.items) c.loop-number.invariant.1,
      )
      | else-contains w ↦ (
        omega arith,
        range_passed (contains c.args.set.now) c.loop-number.numbers.items c.if-contains.numbers.items _ number c.args.limit low
            (is ∙ w.if-contains.false) (ap items_of w.numbers-is) c.loop-number.invariant.1,
      )
    ]
