use Rattle.std.proofs.Common.{◌≡◌, ◌-◌, ◌∙◌, ap, arith, length, slice_set}
use Rattle.pg_tree_placed.proofs.Singles.{last_set}
use Rattle.pg_tree_placed.proofs.steps.put_last.Goals as goal

pub returns-in-Some : goal.returns-in-Some
returns-in-Some c = λ before last was.
    let es = c.args.entries.now.items in
    let place : c.in-Some.last ≡ length es - 1 = omega (arith, c.in-Some.ensures.1, c.len.ensures, c.args.entries.now.ok.0) in
    ap (λ n. slice_set es n c.args.entry) place ∙ last_set before es last c.args.entry was
