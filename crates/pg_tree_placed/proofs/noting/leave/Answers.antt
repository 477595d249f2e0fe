use Rattle.std.proofs.Common.{reverse}
use Rattle.pg_tree_placed.specs.Written.{open_in}
use Rattle.pg_tree_placed.proofs.Noted.{join_noted}
use Rattle.pg_tree_placed.proofs.noting.leave.Goals as goal

pub returns-clause-noted : goal.returns-clause-noted
returns-clause-noted c = λ labels it.
    join_noted labels c.args.entries.now c.in_ok-first.first c.args.last c.args.kids c.in_ok-steps.steps (open_in c.args.pending.now) (open_in c.take_one.new.self)
    (open_in c.push_note.new.pending) (reverse c.args.notes.now.items) (reverse c.push_note.new.notes.items) c.requires.within c.requires.joined
    c.in_ok-first.ensures.fewer c.in_ok-first.ensures.joined c.in_ok-steps.ensures c.take_one.ensures c.in_ok-push_note.ensures.open c.in_ok-push_note.ensures.noted it
