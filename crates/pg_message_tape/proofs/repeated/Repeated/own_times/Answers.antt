use Rattle.std.proofs.Common.{◌≡◌, suc, ◌+◌, ◌/◌, Bool, true, false, arith, ap, sym, ◌∙◌}
use Rattle.pg_message_tape.specs.Repeats.{own_in_turn, own_times}
use Rattle.pg_message_tape.specs.declared.repeated.Repeated.{Repeated}
use Rattle.pg_message_tape.proofs.Repeats.{own_each, own_none, own_first, own_second}
use Rattle.pg_message_tape.proofs.repeated.Repeated.own_times.Goals as goal

by_turns : (r : Repeated) (first second : Bool) → r.nameless_first ≡ first → r.nameless_second ≡ second → own_times r ≡ own_in_turn (suc r.more) first second
by_turns r first second is_first is_second =
    ap (λ (b : Bool). own_in_turn (suc r.more) b r.nameless_second) is_first ∙ ap (λ (b : Bool). own_in_turn (suc r.more) first b) is_second

pub returns-in-true-true : goal.returns-in-true-true
returns-in-true-true c =
    let r = c.args.self.now in
    sym (by_turns r true true c.in-true-true.is-0 c.in-true-true.is-1 ∙ own_none (suc r.more))

pub returns-in-true-false : goal.returns-in-true-false
returns-in-true-false c =
    let r = c.args.self.now in
    let e : suc r.more / 2 ≡ (r.more + 1) / 2 = omega arith in
    sym (by_turns r true false c.in-true-false.is-0 c.in-true-false.is-1 ∙ own_second (suc r.more) ∙ e)

pub returns-in-false-true : goal.returns-in-false-true
returns-in-false-true c =
    let r = c.args.self.now in
    let e : (suc r.more + 1) / 2 ≡ (r.more + 1 + 1) / 2 = omega arith in
    sym (by_turns r false true c.in-false-true.is-0 c.in-false-true.is-1 ∙ own_first (suc r.more) ∙ e)

pub returns-in-false-false : goal.returns-in-false-false
returns-in-false-false c =
    let r = c.args.self.now in
    let e : suc r.more ≡ r.more + 1 = omega arith in
    sym (by_turns r false false c.in-false-false.is-0 c.in-false-false.is-1 ∙ own_each (suc r.more) ∙ e)
