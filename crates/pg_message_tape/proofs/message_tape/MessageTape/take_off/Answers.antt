use Rattle.std.proofs.Common.{◌≡◌, sym, ap, ◌∙◌, take, drop, arith}
use Rattle.pg_message_tape.specs.Repeats.{said, more_said}
use Rattle.pg_message_tape.proofs.Repeats.{take_said, drop_said, drop_more_said}
use Rattle.pg_message_tape.proofs.message_tape.MessageTape.take_off.Goals as goal

pub invariant_of-self : goal.invariant_of-self
invariant_of-self c = (c.self.invariant.0 ∙ ap more_said (sym c.in_err-own.ensures.kept), c.self.invariant.1)

pub invariant_of-result : goal.invariant_of-result
invariant_of-result c =
    let none : more_said c.self.inside.entries.items ≡ 0 = sym c.self.invariant.0 ∙ omega (arith, c.if-self-gt0.false) in
    (sym (ap more_said c.in_ok-own.ensures.after ∙ drop_more_said c.args.from c.self.inside.entries.items none), omega arith)

pub returns-clause-after : goal.returns-clause-after
returns-clause-after c =
    let none : more_said c.self.inside.entries.items ≡ 0 = sym c.self.invariant.0 ∙ omega (arith, c.if-self-gt0.false) in
    ap said c.in_ok-own.ensures.after ∙ drop_said c.args.from c.self.inside.entries.items none ∙ ap (drop c.args.from) c.self.view_is

pub returns-clause-before : goal.returns-clause-before
returns-clause-before c =
    let none : more_said c.self.inside.entries.items ≡ 0 = sym c.self.invariant.0 ∙ omega (arith, c.if-self-gt0.false) in
    ap said c.in_ok-own.ensures.before ∙ take_said c.args.from c.self.inside.entries.items none ∙ ap (take c.args.from) c.self.view_is
