-- A run from the start of a text that stops has answered.
use Rattle.std.proofs.Common.{◌≡◌, ◌∙◌, ◌<◌, ◌+◌, ◌==◌, ℕ, zero, suc, List, [], ◌∷◌, ◌++◌, Bool, true, false, ◌||◌, refl, sym, ap, subst, Some, length, slice_get, append-nil, if◌then◌else◌, arith}
use Rattle.std.specs.Prelude.{codes}
use Rattle.pg_tree.specs.Trees.{Tree}
use Rattle.pg_grammar_value.specs.declared.grammar.Rule as declared
use Rattle.pg_grammar_value.specs.declared.trail.TrailItem.{TrailItem}
use Rattle.pg_language.specs.Answers.{Answers}
use Rattle.pg_language.specs.Derives.{Spot}
use Rattle.pg_language.specs.Errors.{Error, stopped_before}
use Rattle.pg_language.specs.Leaves.{end_outcome}
use Rattle.pg_language.specs.Outcomes.{Outcome, ok, failed, empty_round}
use Rattle.pg_language.specs.Reactions.{then_rest, error_after}
use Rattle.pg_language.specs.WholeTexts.{beginning, AnswersText, from_start}
use Rattle.pg_table.specs.Tables.{Table}
use Rattle.pg_machine_quick.specs.Laws.{first_state, HasAnswered, StopsWithAnswers}
use Rattle.pg_machine_plan.specs.Layout.{IsForTexts}
use Rattle.pg_machine_plan.specs.Plans.{Program}
use Rattle.pg_machine_quick.specs.Turns.{State, state, returns, gives_up, stops, on_turn, run}
use Rattle.pg_machine_plan.specs.declared.instruction.Instruction.TheVariants.{Return, Stop}
use Rattle.pg_machine_plan.specs.declared.instruction.Keep.TheVariants.{Kept}
use Rattle.pg_machine_quick.proofs.Comes.{onward, turned}
use Rattle.pg_machine_quick.proofs.Passed.{claims}

-- the start rule's body was ok up to a spot at the end of the text
answered : (P : Program) (start : declared.Rule) (table : Table) (c : Bool) (b : Spot) (v : List Tree) (i : List TrailItem) (e : Error) (m : ℕ) →
    slice_get P.given.grammar.rules P.given.grammar.start ≡ Some start → Answers P.given start.body (beginning table) (ok c b v i e) m →
    (b.place == length P.given.text) ≡ true → (s : State) → s.spot ≡ b → s.forest ≡ v → s.nodes ≡ m + 1 → HasAnswered P table s
answered P start table c b v i e m is d at_last s p q r =
    let f : Error = stopped_before (codes "end of input") [] b.place in
    let ended : end_outcome P.given.text b ≡ ok false b [] [] f = rw at_last refl in
    let all : AnswersText P.given table (ok (c || false) b (v ++ []) (i ++ []) (error_after false e f)) (suc m) =
    subst (λ o. AnswersText P.given table (then_rest c v i e o) (suc m)) ended (from_start is d) in
    let forest : v ++ [] ≡ s.forest = append-nil v ∙ sym q in
    let nodes : suc m ≡ s.nodes = omega arith in
    record {
      consumed = c || false;
      trail = i ++ [];
      error = error_after false e f;
      so = subst (λ n. AnswersText P.given table (ok (c || false) s.spot s.forest (i ++ []) (error_after false e f)) n) nodes
          (subst (λ g. AnswersText P.given table (ok (c || false) s.spot g (i ++ []) (error_after false e f)) (suc m)) forest
          (subst (λ (a : Spot). AnswersText P.given table (ok (c || false) a (v ++ []) (i ++ []) (error_after false e f)) (suc m)) (sym p) all));
    }

-- what stops there was at the end of the text
stopped : (P : Program) (l : ℕ) (z s : State) (b : Bool) →
    on_turn (if b then stops (record z { nodes = z.nodes + 1 }) else gives_up) (λ y. run P l y) ≡ Some s → (b ≡ true) × (record z { nodes = z.nodes + 1 } ≡ s)
stopped P l z s true on = (refl, cc)
stopped P l z s false on = absurd (cc)

ended : (P : Program) → IsForTexts P → (table : Table) (l m : ℕ) (exit : ℕ) (start : declared.Rule) (s : State) (o : Outcome) →
    slice_get P.given.grammar.rules P.given.grammar.start ≡ Some start → slice_get P.plan.code exit ≡ Some Return → slice_get P.plan.code 0 ≡ Some Stop →
    Answers P.given start.body (beginning table) o m → onward P l Kept exit (returns zero ∷ []) [] false o (zero + m) ≡ Some s → HasAnswered P table s
ended P whole table l m exit start s (ok c b v i e) is return stop d on =
    let u = turned P l (state exit b (returns zero ∷ []) v (zero + m) c) s Return return on in
    let z : State = state zero b [] v (zero + m) c in
    let w = turned P u.left z s Stop stop u.on in
    let y = stopped P w.left z s (b.place == length P.given.text) w.on in
    let one = y.1 in
    let total : zero + m + 1 ≡ m + 1 = omega arith in
    answered P start table c b v i e m is d y.0 s (sym (ap (λ (x : State). x.spot) one)) (sym (ap (λ (x : State). x.forest) one))
    (sym (ap (λ (x : State). x.nodes) one) ∙ total)
ended P whole table l m exit start s (failed c e) is return stop d on = absurd (cc)
ended P whole table l m exit start s empty_round is return stop d on = absurd (cc)

pub stops_with_answers : StopsWithAnswers
stops_with_answers = λ P whole table n s on.
    let one : n < suc n = omega arith in
    let c = claims P whole.library whole.laid (suc n) n Kept whole.start.body whole.exit (first_state P table) s one whole.body on in
    ended P whole table c.left c.nodes whole.exit whole.start s c.outcome whole.is_start whole.back whole.stop c.has c.on
