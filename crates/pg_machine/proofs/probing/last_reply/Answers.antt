use Rattle.std.proofs.Common.{◌≡◌, ap, sym, subst, ◌∙◌, true, false, length}
use Rattle.std.specs.Prelude.{◌==◌, None}
use Rattle.pg_machine.specs.Outcomes.{outcome_on}
use Rattle.pg_machine_turns.specs.View.{tape_of}
use Rattle.pg_machine_turns.specs.declared.frame.Mode.{Mode}
use Rattle.pg_machine.proofs.Unanswered.{none_on, last_on}
use Rattle.pg_machine.proofs.probing.last_reply.Goals as goal

pub returns-then-is_empty-clause-some : goal.returns-then-is_empty-clause-some
returns-then-is_empty-clause-some c =
    let m = c.args.machine.now in
    let none : (length m.frames == 0) ≡ true = sym c.is_empty.ensures ∙ c.if-is_empty.true in
    ap (λ (s : Mode). tape_of s m) c.in-With.is ∙ last_on c.in-With.reply m.frames m.lists.forest m.lists.trail.items m.lists.messages m.table none

pub returns-else-is_empty-clause-none : goal.returns-else-is_empty-clause-none
returns-else-is_empty-clause-none c =
    let m = c.args.machine.now in
    let some : (length m.frames == 0) ≡ false = sym c.is_empty.ensures ∙ c.if-is_empty.false in
    subst (λ (s : Mode). outcome_on (tape_of s m) ≡ None) (sym c.in-With.is)
    (none_on c.in-With.reply m.frames m.lists.forest m.lists.trail.items m.lists.messages m.table some)
