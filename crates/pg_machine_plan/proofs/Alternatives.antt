-- What the code at an arm does with alternatives, from what was found of the first of them.
use Rattle.std.proofs.Common.{◌≡◌, ◌⊎◌, ◌∙◌, ◌+◌, ◌*◌, ◌==◌, inl, inr, ℕ, zero, suc, List, [], ◌∷◌, Bool, true, false, refl, sym, ap, subst, Option, Some, None, IfSome, length, slice_get, arith}
use Rattle.std.specs.Option.{option_map_or}
use Rattle.std.proofs.lemmas.Bool.Decides.{nat_tests}
use Rattle.pg_grammar_value.specs.Grammar.{Grammar}
use Rattle.pg_language.specs.Answers.{Given, given}
use Rattle.pg_language.specs.Derives.{Spot}
use Rattle.pg_language.specs.Outcomes.{failed}
use Rattle.pg_language.specs.declared.reading.Reading.TheVariants.{Library}
use Rattle.pg_language.proofs.Unique.{same}
use Rattle.pg_machine_plan.specs.Columns.{Wherever, verdict_at, IsColumn}
use Rattle.pg_machine_plan.specs.Facts.{Outcomes, outcomes_of, IsEmptyAtOnce, TakesAtOnce, NeverFailsEmpty}
use Rattle.pg_machine_plan.specs.Judged.{TriesAt, PicksAt, IsSole, IsMarked, IsEntered, TriesFirst}
use Rattle.pg_machine_plan.specs.Layout.{Tries, none_left, passed_by, last_one, sure_one, marked_one}
use Rattle.pg_machine_plan.specs.Plans.{program, Plan, chosen}
use Rattle.pg_machine_plan.specs.Verdicts.{next_of, slot, Says}
use Rattle.pg_machine_plan.specs.declared.instruction.Arm.{Arm}
use Rattle.pg_machine_plan.specs.declared.instruction.Instruction.TheVariants.{Pick, Fail}
use Rattle.pg_machine_plan.specs.declared.instruction.Keep.{Keep}
use Rattle.pg_machine_plan.specs.declared.judge_choices.Tried.{Tried}
use Rattle.pg_machine_plan.specs.declared.judge_choices.Tried.TheVariants.{Ends, GoesOn, Wrong}
use Rattle.pg_machine_plan.specs.declared.next.Next.{Next}
use Rattle.pg_machine_plan.specs.declared.verdict.Verdict.{Verdict}
use Rattle.pg_machine_plan.specs.declared.verdict.Verdict.TheVariants.{Fails, Empty, Takes}

-- ---- what a column says of a node

pub says_at : (g : Grammar) (next : Next) (column : List Verdict) (p : ℕ) (v : Verdict) → IsColumn g next column → verdict_at column p ≡ v →
    Wherever next (λ text a. Says (outcomes_of (given Library g text) p a) a v)
says_at g next column p v so is = λ text a h. subst (λ w. Says (outcomes_of (given Library g text) p a) a w) is (so text p a h)

takers_dont : (Has : Outcomes) → TakesAtOnce Has → NeverFailsEmpty Has
takers_dont Has takes = λ e m d. let no : false ≡ true = takes (failed false e) m d in absurd (cc)

empties_dont : (G : Given) (p m : ℕ) (a : Spot) → IsEmptyAtOnce (outcomes_of G p a) a m → NeverFailsEmpty (outcomes_of G p a)
empties_dont G p m a s = λ e n d. let one = same d s.so in let is = one.outcome in absurd (cc)

-- none that takes, or is empty, fails with nothing consumed
pub never_fails : (g : Grammar) (next : Next) (column : List Verdict) (p : ℕ) → IsColumn g next column → (verdict_at column p ≡ Takes) ⊎ ((m : ℕ) × (verdict_at column p ≡ Empty m)) →
    Wherever next (λ text a. NeverFailsEmpty (outcomes_of (given Library g text) p a))
never_fails g next column p so (inl is) = λ text a h. takers_dont (outcomes_of (given Library g text) p a) (says_at g next column p Takes so is text a h)
never_fails g next column p so (inr is) = λ text a h. empties_dont (given Library g text) p is.0 a (says_at g next column p (Empty is.0) so is.1 text a h)

-- ---- the arm that is picked

-- a table has one arm for what comes next
pub picked_one : (plan : Plan) (next : Next) (pc : ℕ) (arm : Arm) → PicksAt plan next pc arm → (table : ℕ) (other : Arm) (x : Option ℕ) →
    slice_get plan.code pc ≡ Some (Pick table) → chosen plan table x ≡ Some other → next_of x ≡ next → arm ≡ other
picked_one plan next pc arm picks table other x pick is h =
    let pick_too = picks.1 in
    let one : picks.0 ≡ table = cc in
    let same_arm : chosen plan table x ≡ Some arm = ap (λ n. slice_get plan.arms (130 * table + slot n)) h
    ∙ subst (λ t. slice_get plan.arms (130 * t + slot next) ≡ Some arm) one picks.2 in
    cc

pub picked_there : (plan : Plan) (next : Next) (pc : ℕ) (arm : Arm) → (picks : PicksAt plan next pc arm) → (x : Option ℕ) → next_of x ≡ next →
    chosen plan picks.0 x ≡ Some arm
picked_there plan next pc arm picks x h = ap (λ n. slice_get plan.arms (130 * picks.0 + slot n)) h ∙ picks.2

-- ---- the first alternative

pub passed_on : (plan : Plan) (column : List Verdict) (next : Next) (keep : Keep) (end : ℕ) (arm other : Arm) (p m : ℕ) (ps : List ℕ) → verdict_at column p ≡ Fails m →
    (other.target ≡ arm.target) × (m + other.nodes ≡ arm.nodes) → TriesFirst plan column next keep end arm p ps (GoesOn other)
passed_on plan column next keep end arm other p m ps is by = λ g so rest text a h.
    subst (λ n. Tries (program g plan text) keep end a arm.target n (p ∷ ps)) by.1
    (passed_by (says_at g next column p (Fails m) so is text a h)
    (subst (λ t. Tries (program g plan text) keep end a t other.nodes ps) by.0 (rest text a h)))

-- the same where an arm may be missing
pub passed_if : (plan : Plan) (column : List Verdict) (next : Next) (keep : Keep) (end : ℕ) (arm : Arm) (p m : ℕ) (ps : List ℕ) (o : Option Arm) →
    verdict_at column p ≡ Fails m → IfSome o (λ other. (other.target ≡ arm.target) × (m + other.nodes ≡ arm.nodes)) →
    TriesFirst plan column next keep end arm p ps (option_map_or GoesOn o Wrong)
passed_if plan column next keep end arm p m ps (Some other) is by = passed_on plan column next keep end arm other p m ps is by
passed_if plan column next keep end arm p m ps None is by = tt

marked_first : (plan : Plan) (column : List Verdict) (next : Next) (keep : Keep) (end : ℕ) (arm other : Arm) (p : ℕ) (ps : List ℕ) →
    IsMarked plan next keep end arm p other → TriesFirst plan column next keep end arm p ps (GoesOn other)
marked_first plan column next keep end arm other p ps is = λ g so rest text a h.
    subst (λ n. Tries (program g plan text) keep end a arm.target n (p ∷ ps)) (sym is.none)
    (marked_one is.mark is.noted is.commit is.picked.1 (picked_there plan next is.others other is.picked (slice_get text a.place) h) (rest text a h))

sole_first : (g : Grammar) (plan : Plan) (keep : Keep) (end : ℕ) (text : List ℕ) (a : Spot) (arm : Arm) (p : ℕ) (ps : List ℕ) → IsSole plan keep end arm p →
    (ps ≡ []) ⊎ NeverFailsEmpty (outcomes_of (given Library g text) p a) → Tries (program g plan text) keep end a arm.target arm.nodes (p ∷ ps)
sole_first g plan keep end text a arm p ps is (inl none) =
    subst (λ n. Tries (program g plan text) keep end a arm.target n (p ∷ ps)) (sym is.none)
    (subst (λ qs. Tries (program g plan text) keep end a arm.target zero (p ∷ qs)) (sym none) (last_one is.noted is.jump))
sole_first g plan keep end text a arm p ps is (inr never) =
    subst (λ n. Tries (program g plan text) keep end a arm.target n (p ∷ ps)) (sym is.none) (sure_one never is.noted is.jump)

-- one that has to be tried and may be the last, or is sure
pub last_entered : (plan : Plan) (column : List Verdict) (next : Next) (keep : Keep) (end : ℕ) (arm : Arm) (p : ℕ) (ps : List ℕ) (is_last : Bool) (tried : Tried) →
    (is_last ≡ true → ps ≡ []) → IsEntered plan next keep end arm p is_last tried → TriesFirst plan column next keep end arm p ps tried
last_entered plan column next keep end arm p ps is_last Ends last is = λ g so text a h. sole_first g plan keep end text a arm p ps is.1 (inl (last is.0))
last_entered plan column next keep end arm p ps is_last (GoesOn other) last is = marked_first plan column next keep end arm other p ps is
last_entered plan column next keep end arm p ps is_last Wrong last is = tt

pub sure_entered : (plan : Plan) (column : List Verdict) (next : Next) (keep : Keep) (end : ℕ) (arm : Arm) (p : ℕ) (ps : List ℕ) (tried : Tried) →
    (verdict_at column p ≡ Takes) ⊎ ((m : ℕ) × (verdict_at column p ≡ Empty m)) → IsEntered plan next keep end arm p true tried → TriesFirst plan column next keep end arm p ps tried
sure_entered plan column next keep end arm p ps Ends sure is = λ g so text a h. sole_first g plan keep end text a arm p ps is.1 (inr (never_fails g next column p so sure text a h))
sure_entered plan column next keep end arm p ps (GoesOn other) sure is = marked_first plan column next keep end arm other p ps is
sure_entered plan column next keep end arm p ps Wrong sure is = tt

-- ---- all of them

-- all are tried at the first arm, if those that are left are tried at this one
abbrev pub TriesIf : Plan → List Verdict → Next → Keep → ℕ → Arm → List ℕ → Arm → List ℕ → Type 0
TriesIf plan column next keep end first all at rest =
    (g : Grammar) → IsColumn g next column → TriesAt g plan keep end next at rest → TriesAt g plan keep end next first all

pub one_goes_on : (plan : Plan) (column : List Verdict) (next : Next) (keep : Keep) (end : ℕ) (first at other : Arm) (p : ℕ) (all rest others : List ℕ) → rest ≡ p ∷ others →
    TriesFirst plan column next keep end at p others (GoesOn other) → TriesIf plan column next keep end first all at rest →
    TriesIf plan column next keep end first all other others
one_goes_on plan column next keep end first at other p all rest others e tried so = λ g is h.
    so g is (subst (TriesAt g plan keep end next at) (sym e) (tried g is h))

pub one_ends : (plan : Plan) (column : List Verdict) (next : Next) (keep : Keep) (end : ℕ) (first at : Arm) (p : ℕ) (all rest others : List ℕ) → rest ≡ p ∷ others →
    TriesFirst plan column next keep end at p others Ends → TriesIf plan column next keep end first all at rest →
    (g : Grammar) → IsColumn g next column → TriesAt g plan keep end next first all
one_ends plan column next keep end first at p all rest others e tried so = λ g is. so g is (subst (TriesAt g plan keep end next at) (sym e) (tried g is))

pub none_left_to_try : (plan : Plan) (column : List Verdict) (next : Next) (keep : Keep) (end : ℕ) (first at : Arm) (all rest : List ℕ) → rest ≡ [] → at.nodes ≡ 0 →
    slice_get plan.code at.target ≡ Some Fail → TriesIf plan column next keep end first all at rest →
    (g : Grammar) → IsColumn g next column → TriesAt g plan keep end next first all
none_left_to_try plan column next keep end first at all rest e none fail so = λ g is.
    so g is (subst (TriesAt g plan keep end next at) (sym e)
    (λ text a h. subst (λ n. Tries (program g plan text) keep end a at.target n []) (sym none) (none_left fail)))

pub is_none : (ps : List ℕ) (b : Bool) → b ≡ (length ps == 0) → b ≡ true → ps ≡ []
is_none [] b e h = refl
is_none (p ∷ ps) b e h =
    let longer : length (p ∷ ps) ≡ suc (length ps) = omega arith in
    let none : length (p ∷ ps) ≡ 0 = grind (arith, nat_tests) in
    absurd (omega arith)
