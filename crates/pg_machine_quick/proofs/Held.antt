-- A chain's trees are folded by what waits last.
use Rattle.std.proofs.Common.{◌≡◌, ◌+◌, List, [], ◌∷◌, ℕ, ap, subst, Some, Result, Ok, Err, IfOk}
use Rattle.pg_grammar_form.specs.declared.used.ChainBuilder.{ChainBuilder}
use Rattle.pg_machine_plan.specs.declared.instruction.Keep.{Keep}
use Rattle.pg_machine_quick.specs.Running.{Does, first_frame}
use Rattle.pg_machine_quick.specs.Tape.{Tape, TapeTurn, tape, tape_folded_by, tape_folds, tape_goes}
use Rattle.pg_machine_quick.specs.declared.frame.Frame.{Frame}
use Rattle.pg_machine_quick.specs.declared.frame.Frame.TheVariants.{Returns, Encloses, Holds, Operates, Marks}
use Rattle.pg_machine_quick.specs.declared.step.Step.{Step}

abbrev folded : Keep → ChainBuilder → Tape → ℕ → TapeTurn
folded keep used s count = tape_goes (tape (s.pc + 1) s.place s.stack (tape_folded_by keep used count s.trees) s.nodes s.taken)

held : (keep : Keep) (used : ChainBuilder) (s : Tape) (k : List Frame) (count : ℕ) → Some (Holds count) ≡ first_frame k → folded keep used s count ≡ tape_folds keep used s k
held keep used s [] count h = absurd (cc)
held keep used s (Returns x ∷ k) count h = absurd (cc)
held keep used s (Encloses x b ∷ k) count h = absurd (cc)
held keep used s (Holds n ∷ k) count h = let same : count ≡ n = cc in ap (folded keep used s) same
held keep used s (Operates o ∷ k) count h = absurd (cc)
held keep used s (Marks x b ∷ k) count h = absurd (cc)

pub fold_held : {E : Type 0} (keep : Keep) (used : ChainBuilder) (s z : Tape) (count : ℕ) (r : Result Step E) → Some (Holds count) ≡ first_frame s.stack →
    IfOk r (λ step. Does (folded keep used s count) step z) → IfOk r (λ step. Does (tape_folds keep used s s.stack) step z)
fold_held keep used s z count (Ok step) h d = subst (λ (t : TapeTurn). Does t step z) (held keep used s s.stack count h) d
fold_held keep used s z count (Err e) h d = d
