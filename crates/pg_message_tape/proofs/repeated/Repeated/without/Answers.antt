use Rattle.std.proofs.Common.{refl, ap, ◌∙◌, ◌-◌, ℕ, Bool}
use Rattle.pg_message_tape.specs.Repeats.{repeated}
use Rattle.pg_message_tape.specs.declared.repeated.Repeated.{Repeated}
use Rattle.pg_message_tape.proofs.Repeats.{left_even, left_odd}
use Rattle.pg_message_tape.proofs.repeated.Repeated.without.Goals.{then-skipped-eq0, else-skipped-eq0}
use Rattle.pg_message_tape.proofs.repeated.Repeated.without.Goals as goal

-- what is left over, from whether the first and the second are nameless
abbrev left : Repeated → ℕ → Bool × Bool → Repeated
left r n turns = record { message = r.message; more = n; nameless_first = turns.0; nameless_second = turns.1 }

pub returns : goal.returns
returns c =
    let r = c.args.self in
    let n = r.more - c.args.skipped in
    elim c.if-skipped-eq0.branch [
      | then-skipped-eq0 w ↦ ap (λ (turns : Bool × Bool). repeated (left r n turns)) w.first-is ∙ left_even r c.args.skipped n c.requires w.if-skipped-eq0.true refl
      | else-skipped-eq0 w ↦ ap (λ (turns : Bool × Bool). repeated (left r n turns)) w.first-is ∙ left_odd r c.args.skipped n c.requires w.if-skipped-eq0.false refl
    ]
