-- One node more of a list: verdicts on parts and alternatives, stretches that adjoin, and alternatives that are tried.
use Rattle.std.proofs.Common.{◌≡◌, ◌∙◌, ◌<◌, ◌+◌, ℕ, suc, List, ◌∷◌, Bool, true, false, sym, ap, subst, length, drop, get_or, arith}
use Rattle.std.specs.Bool.{OnTrue}
use Rattle.std.proofs.Math.Seq.{drop-cons}
use Rattle.pg_machine_plan.specs.Layout.{Notes, NotesAll}
use Rattle.pg_machine_plan.specs.Plans.{Plan}
use Rattle.pg_machine_plan.specs.Verdicts.{in_order, or_else, parts_verdict, alternatives_verdict}
use Rattle.pg_machine_plan.specs.declared.instruction.Keep.{Keep}
use Rattle.pg_machine_plan.specs.declared.verdict.Verdict.{Verdict}

pub one_more_left : (ps : List ℕ) (i p : ℕ) → i < length ps → p ≡ get_or ps i p → drop i ps ≡ p ∷ drop (i + 1) ps
one_more_left ps i p below is =
    let next : suc i ≡ i + 1 = omega arith in
    drop-cons ps i p below ∙ ap (λ x. x ∷ drop (suc i) ps) (sym is) ∙ ap (λ j. p ∷ drop j ps) next

pub one_part_more : (on : ℕ → Verdict) (ps : List ℕ) (i p : ℕ) → i < length ps → p ≡ get_or ps i p →
    in_order (on p) (parts_verdict on (drop (i + 1) ps)) ≡ parts_verdict on (drop i ps)
one_part_more on ps i p below is = ap (parts_verdict on) (sym (one_more_left ps i p below is))

pub one_alternative_more : (on : ℕ → Verdict) (ps : List ℕ) (i p : ℕ) → i < length ps → p ≡ get_or ps i p →
    or_else (on p) (alternatives_verdict on (drop (i + 1) ps)) ≡ alternatives_verdict on (drop i ps)
one_alternative_more on ps i p below is = ap (alternatives_verdict on) (sym (one_more_left ps i p below is))

-- stretches adjoin from the first place on, if they do from here on for those that are left
abbrev pub AdjoinIf : Plan → Keep → List ℕ → ℕ → ℕ → ℕ → Type 0
AdjoinIf plan keep ps pc i mid = (exit : ℕ) → NotesAll plan keep (drop i ps) mid exit → NotesAll plan keep ps pc exit

pub one_stretch_more : (plan : Plan) (keep : Keep) (ps : List ℕ) (pc i p mid end : ℕ) → i < length ps → p ≡ get_or ps i p → AdjoinIf plan keep ps pc i mid →
    Notes plan keep p mid end → AdjoinIf plan keep ps pc (i + 1) end
one_stretch_more plan keep ps pc i p mid end below is so noted = λ exit rest.
    so exit (subst (λ qs. NotesAll plan keep qs mid exit) (sym (one_more_left ps i p below is)) (end, noted, rest))

-- what holds where a test is true
pub on_true : (b : Bool) (P Q : Type 0) → (P → Q) → OnTrue b P → OnTrue b Q
on_true true P Q f h = f h
on_true false P Q f h = tt

pub when_true : (b : Bool) (P : Type 0) → b ≡ true → OnTrue b P → P
when_true true P e h = h
when_true false P e h = absurd (cc)
