-- What an arm at the head of a loop does, and the arms of stretches.
use Rattle.std.proofs.Common.{◌≡◌, ◌⊎◌, ◌∙◌, ◌+◌, inl, inr, ℕ, List, [], ◌∷◌, Bool, sym, ap, subst, Some, slice_get, arith}
use Rattle.std.specs.Bool.{OnTrue}
use Rattle.pg_grammar_form.specs.Forms.{Node}
use Rattle.pg_grammar_value.specs.Grammar.{Grammar}
use Rattle.pg_language.specs.Answers.{given}
use Rattle.pg_language.specs.declared.reading.Reading.TheVariants.{Library}
use Rattle.pg_machine_plan.specs.Columns.{Wherever, verdict_at, IsColumn}
use Rattle.pg_machine_plan.specs.Facts.{outcomes_of, FailsAtOnce}
use Rattle.pg_machine_plan.specs.Judged.{TriesAt, PicksAt, IsMarkedRound, IsRound, IsLoopArm, GoesRoundAt, HasArm, HasArmsAt, HasChoiceArm, HasManyArm, HasChainArm, HasLinkArm}
use Rattle.pg_machine_plan.specs.Layout.{Notes, Tries, GoesRound, goes_past, goes_in, goes_marked, ComesTo, FoldsBack}
use Rattle.pg_machine_plan.specs.Plans.{program, Plan}
use Rattle.pg_machine_plan.specs.declared.instruction.Arm.{Arm}
use Rattle.pg_machine_plan.specs.declared.instruction.Instruction.TheVariants.{Pick}
use Rattle.pg_machine_plan.specs.declared.instruction.Keep.{Keep}
use Rattle.pg_machine_plan.specs.declared.instruction.Stretch.{Stretch}
use Rattle.pg_machine_plan.specs.declared.judge_rounds.Way.{Way}
use Rattle.pg_machine_plan.specs.declared.judge_rounds.Way.TheVariants.{Jumps, Folds}
use Rattle.pg_machine_plan.specs.declared.next.Next.{Next}
use Rattle.pg_machine_plan.specs.declared.verdict.Verdict.{Verdict}
use Rattle.pg_machine_plan.specs.declared.verdict.Verdict.TheVariants.{Unknown, Fails, Empty, Takes}
use Rattle.pg_machine_plan.proofs.Alternatives.{says_at, picked_one}

-- ---- loops

marked_in : (g : Grammar) (plan : Plan) (keep : Keep) (head out : ℕ) (next : Next) (arm : Arm) (p : ℕ) (ps : List ℕ) (way : Way) → arm.nodes ≡ 0 →
    IsMarkedRound plan keep head out way (p ∷ ps) arm.target → GoesRoundAt g plan keep head out next arm p ps way
marked_in g plan keep head out next arm p ps way none is = λ text a h. goes_marked is.0 is.1 none is.2 is.3 is.4 is.5

pub loop_arm : (g : Grammar) (plan : Plan) (column : List Verdict) (next : Next) (keep : Keep) (head out : ℕ) (way : Way) (p : ℕ) (ps : List ℕ) (arm : Arm) (v : Verdict) →
    IsColumn g next column → verdict_at column p ≡ v → IsLoopArm plan v keep head out way (p ∷ ps) arm → GoesRoundAt g plan keep head out next arm p ps way
loop_arm g plan column next keep head out way p ps arm (Fails m) so is r = λ text a h.
    goes_past (subst (λ n. FailsAtOnce (outcomes_of (given Library g text) p a) n) (sym r.0) (says_at g next column p (Fails m) so is text a h)) r.1
loop_arm g plan column next keep head out way p ps arm Takes so is r = by_round r.1
  where
    by_round : IsRound plan keep head way (p ∷ ps) arm.target ⊎ IsMarkedRound plan keep head out way (p ∷ ps) arm.target → GoesRoundAt g plan keep head out next arm p ps way
    by_round (inl round) = λ text a h. goes_in round.0 (says_at g next column p Takes so is text a h) r.0 round.1 round.2
    by_round (inr marked) = marked_in g plan keep head out next arm p ps way r.0 marked
loop_arm g plan column next keep head out way p ps arm (Empty m) so is r = marked_in g plan keep head out next arm p ps way r.0 r.1
loop_arm g plan column next keep head out way p ps arm Unknown so is r = marked_in g plan keep head out next arm p ps way r.0 r.1

-- ---- stretches

pub choice_arm : (g : Grammar) (plan : Plan) (next : Next) (pc : ℕ) (s : Stretch) (ps : List ℕ) (arm others : Arm) → PicksAt plan next pc arm →
    others.target ≡ arm.target → arm.nodes ≡ 1 + others.nodes → TriesAt g plan s.keep s.end next others ps →
    Wherever next (λ text a. HasChoiceArm (program g plan text) a pc s ps)
choice_arm g plan next pc s ps arm others picks target nodes tries = λ text a h table other pick is.
    subst (λ (x : Arm). (n : ℕ) × (x.nodes ≡ 1 + n) × Tries (program g plan text) s.keep s.end a x.target n ps)
    (picked_one plan next pc arm picks table other (slice_get text a.place) pick is h)
    (others.nodes, nodes, subst (λ t. Tries (program g plan text) s.keep s.end a t others.nodes ps) target (tries text a h))

pub many_arm : (g : Grammar) (plan : Plan) (column : List Verdict) (next : Next) (pc head : ℕ) (s : Stretch) (p : ℕ) (arm : Arm) (v : Verdict) → head ≡ pc + 1 →
    v ≡ verdict_at column p → PicksAt plan next head arm → IsLoopArm plan v s.keep head s.end Jumps (p ∷ []) arm → IsColumn g next column →
    Wherever next (λ text a. HasManyArm (program g plan text) a pc s p)
many_arm g plan column next pc head s p arm v one is picks right so = λ text a h table other enter pick chosen_one.
    let pick_here : slice_get plan.code head ≡ Some (Pick table) = subst (λ n. slice_get plan.code n ≡ Some (Pick table)) (sym one) pick in
    subst (λ n. GoesRound (program g plan text) s.keep n s.end a other p [] (ComesTo plan n)) one
    (subst (λ (x : Arm). GoesRound (program g plan text) s.keep head s.end a x p [] (ComesTo plan head))
    (picked_one plan next head arm picks table other (slice_get text a.place) pick_here chosen_one h)
    (loop_arm g plan column next s.keep head s.end Jumps p [] arm v so (sym is) right text a h))

pub chain_arm : (g : Grammar) (plan : Plan) (column : List Verdict) (next : Next) (pc head out : ℕ) (s : Stretch) (p q : ℕ) (arm : Arm) (v : Verdict) →
    v ≡ verdict_at column q → Notes plan s.keep p (pc + 1) head → s.end ≡ out + 1 → PicksAt plan next head arm →
    IsLoopArm plan v s.keep head out (Folds s.node) (q ∷ p ∷ []) arm → IsColumn g next column → Wherever next (λ text a. HasChainArm (program g plan text) a pc s p q)
chain_arm g plan column next pc head out s p q arm v is noted end picks right so = λ text a h head_too table out_too other noted_too pick end_too chosen_one.
    let here : Stretch = record { keep = s.keep; node = p; end = head } in
    let there : Stretch = record { keep = s.keep; node = p; end = head_too } in
    let same_one : here ≡ there = cc in
    let one : head ≡ head_too = ap (λ (x : Stretch). x.end) same_one in
    let last : out ≡ out_too = omega arith in
    let pick_here : slice_get plan.code head ≡ Some (Pick table) = subst (λ n. slice_get plan.code n ≡ Some (Pick table)) (sym one) pick in
    subst (λ n. GoesRound (program g plan text) s.keep n out_too a other q (p ∷ []) (FoldsBack plan s.keep s.node n)) one
    (subst (λ n. GoesRound (program g plan text) s.keep head n a other q (p ∷ []) (FoldsBack plan s.keep s.node head)) last
    (subst (λ (x : Arm). GoesRound (program g plan text) s.keep head out a x q (p ∷ []) (FoldsBack plan s.keep s.node head))
    (picked_one plan next head arm picks table other (slice_get text a.place) pick_here chosen_one h)
    (loop_arm g plan column next s.keep head out (Folds s.node) q (p ∷ []) arm v so (sym is) right text a h)))

pub link_arm : (g : Grammar) (plan : Plan) (column : List Verdict) (next : Next) (pc head link out : ℕ) (s : Stretch) (p q : ℕ) (arm : Arm) (v : Verdict) → link ≡ head + 1 →
    v ≡ verdict_at column q → Notes plan s.keep p (pc + 1) head → s.end ≡ out + 2 → PicksAt plan next head arm →
    IsLoopArm plan v s.keep link out Jumps (q ∷ []) arm → IsColumn g next column → Wherever next (λ text a. HasLinkArm (program g plan text) a pc s p q)
link_arm g plan column next pc head link out s p q arm v after is noted end picks right so = λ text a h head_too table out_too other noted_too pick end_too chosen_one.
    let here : Stretch = record { keep = s.keep; node = p; end = head } in
    let there : Stretch = record { keep = s.keep; node = p; end = head_too } in
    let same_one : here ≡ there = cc in
    let one : head ≡ head_too = ap (λ (x : Stretch). x.end) same_one in
    let last : out ≡ out_too = omega arith in
    let pick_here : slice_get plan.code head ≡ Some (Pick table) = subst (λ n. slice_get plan.code n ≡ Some (Pick table)) (sym one) pick in
    subst (λ n. GoesRound (program g plan text) s.keep (n + 1) out_too a other q [] (ComesTo plan (n + 1))) one
    (subst (λ n. GoesRound (program g plan text) s.keep n out_too a other q [] (ComesTo plan n)) after
    (subst (λ n. GoesRound (program g plan text) s.keep link n a other q [] (ComesTo plan link)) last
    (subst (λ (x : Arm). GoesRound (program g plan text) s.keep link out a x q [] (ComesTo plan link))
    (picked_one plan next head arm picks table other (slice_get text a.place) pick_here chosen_one h)
    (loop_arm g plan column next s.keep link out Jumps q [] arm v so (sym is) right text a h))))

-- ---- by the forms

-- the arm of a stretch is right, if the stretch is for a node of this form
abbrev pub HasRightArm : Plan → List Verdict → Next → ℕ → Stretch → Node → Type 0
HasRightArm plan column next pc s n = (g : Grammar) → IsColumn g next column → Wherever next (λ text a. HasArm (program g plan text) a pc s n)

pub arm_as : (plan : Plan) (column : List Verdict) (next : Next) (pc : ℕ) (s : Stretch) (n m : Node) (b : Bool) → n ≡ m → OnTrue b (HasRightArm plan column next pc s m) →
    OnTrue b (HasRightArm plan column next pc s n)
arm_as plan column next pc s n m b e h = subst (λ (k : Node). OnTrue b (HasRightArm plan column next pc s k)) (sym e) h

-- it is right where the stretch is noted, and the node is its own
pub arms_at : (g : Grammar) (plan : Plan) (column : List Verdict) (next : Next) (pc : ℕ) (s : Stretch) (n : Node) → slice_get plan.stretches pc ≡ Some (Some s) →
    slice_get g.nodes s.node ≡ Some n → IsColumn g next column → HasRightArm plan column next pc s n → HasArmsAt g plan next pc
arms_at g plan column next pc s n noted at so right = λ other noted_too m at_other text a h.
    let one : s ≡ other = cc in
    let at_too : slice_get g.nodes s.node ≡ Some m = subst (λ (x : Stretch). slice_get g.nodes x.node ≡ Some m) (sym one) at_other in
    let same : n ≡ m = cc in
    subst (λ (x : Stretch). HasArm (program g plan text) a pc x m) one
    (subst (λ (k : Node). HasArm (program g plan text) a pc s k) same (right g so text a h))
