use Rattle.std.proofs.Common.{◌≡◌, ◌≤◌, ◌-◌, ℕ, List, length, take, drop, sym, ap, ◌∙◌, subst, arith}
use Rattle.std.proofs.lemmas.List.{take_rest}
use Rattle.pg_message_tape.specs.Repeats.{said}
use Rattle.pg_message_tape.specs.declared.repeated.Repeated.{Repeated}
use Rattle.pg_message_tape.proofs.Repeats.{said_after}
use Rattle.pg_message_tape.proofs.repeated.after.Goals.{then-back-test+else-first-gt0, else-back-test}
use Rattle.pg_message_tape.proofs.repeated.after.Goals as goal

pub returns : goal.returns
returns c =
    let rs = c.args.entries.now in
    let upto : length (said (take c.back.first rs)) ≤ c.args.from = elim c.back-test.branch [
      | then-back-test+else-first-gt0 w ↦
          let none : c.back.first ≡ 0 = omega arith in
          subst (λ (i : ℕ). length (said (take i rs)) ≤ c.args.from) (sym none) (omega arith)
      | else-back-test w ↦ subst (λ (n : ℕ). n ≤ c.args.from) c.back.invariant.before (omega arith)
    ] in
    ap (λ (xs : List Repeated). drop (c.args.from - c.back.before) (said xs)) (take_rest rs c.back.first)
    ∙ ap (λ (n : ℕ). drop (c.args.from - n) (said (drop c.back.first rs))) c.back.invariant.before ∙ said_after rs c.back.first c.args.from upto
