use Rattle.std.proofs.Common.{◌≡◌, ◌-◌, Fits, w32, ◌++◌, [], ℕ, List, rules, sym, ap, subst, ◌∙◌, append-nil, arith}
use Rattle.std.specs.Prelude.{OnOk}
use Rattle.pg_message_tape.specs.Messages.{TapeMessage, unexpected}
use Rattle.pg_message_tape.specs.Repeats.{repeated}
use Rattle.pg_message_tape.proofs.Repeats.{none_own, all_expected, some_own, own_alone, own_times_le}
use Rattle.pg_message_tape.proofs.message_tape.MessageTape.push_own.Goals.{then-times-eq0-via-then-times-eq0, then-times-eq0-via-else-times-eq0+then-is_expected}
use Rattle.pg_message_tape.proofs.message_tape.MessageTape.push_own.Goals as goal

pub returns-then-times-eq0 : goal.returns-then-times-eq0
returns-then-times-eq0 c =
    let none : unexpected (repeated c.args.entry) ≡ [] = elim c.then-times-eq0.branch [
      | then-times-eq0-via-then-times-eq0 w ↦ none_own c.args.entry (sym c.own_times-times.ensures ∙ w.if-times-eq0.true)
      | then-times-eq0-via-else-times-eq0+then-is_expected w ↦ all_expected c.args.entry (sym w.is_expected.ensures ∙ w.if-is_expected.true)
    ] in
    sym (ap (λ (xs : List TapeMessage). c.args.self.now ++ xs) none ∙ append-nil c.args.self.now)

pub overflow_cast-times : goal.overflow_cast-times
overflow_cast-times c =
    let all : Fits w32 c.args.entry.more = search rules in
    let most = own_times_le c.args.entry in
    record { fits = omega (arith, all.fits, most, c.own_times-times.ensures) }

pub returns : goal.returns
returns c =
    let kept : unexpected (repeated c.args.entry) ≡ repeated (own_alone c.args.entry.message (c.own_times-times.result - 1)) =
    some_own c.args.entry (c.own_times-times.result - 1) (sym c.is_expected.ensures ∙ c.if-is_expected.false) (ap (λ (n : ℕ). n - 1) c.own_times-times.ensures) (λ e. c.if-times-eq0.false (c.own_times-times.ensures ∙ e)) in
    subst (λ (xs : List TapeMessage). OnOk c.push_repeated.result (c.push_repeated.new.self ≡ c.args.self.now ++ xs)) (sym kept) c.push_repeated.ensures
