-- Parts whose code adjoins.
use Rattle.std.proofs.Common.{◌≡◌, ◌<◌, ◌+◌, ℕ, suc, List, [], ◌∷◌, false, ◌||◌, refl, sym, subst, Some, arith}
use Rattle.pg_grammar_form.specs.declared.form.Form.TheVariants as form
use Rattle.pg_language.specs.Answers.{Given, Answers, AnswersForm, nothing, seq, part, part_last, part_failed, part_ok}
use Rattle.pg_language.specs.Derives.{Spot}
use Rattle.pg_language.specs.Errors.{no_messages_at}
use Rattle.pg_language.specs.Outcomes.{Outcome, ok, failed, empty_round}
use Rattle.pg_language.specs.Reactions.{then_rest}
use Rattle.pg_machine_plan.specs.Facts.{outcomes_of}
use Rattle.pg_machine_plan.specs.Layout.{IsNoted, Adjoin}
use Rattle.pg_machine_plan.specs.Plans.{Program}
use Rattle.pg_machine_quick.specs.Turns.{State, state, added, run}
use Rattle.pg_machine_plan.specs.declared.instruction.Keep.{Keep}
use Rattle.pg_machine_quick.proofs.Comes.{or_false, none_added, onward, Comes, Claim, same_run, same_count, joined, seen_as}
use Rattle.pg_machine_plan.proofs.LeafVerdicts.{of_form}
use Rattle.pg_machine_plan.proofs.Verdicts.{alone, parts_in}

-- one part
only_part : (G : Given) (p : ℕ) (a : Spot) (o : Outcome) (m : ℕ) → Answers G p a o m → AnswersForm G (form.Seq (p ∷ [])) a o m
only_part G p a o m d = subst (AnswersForm G (form.Seq (p ∷ [])) a o) (alone m) (seq (part d part_last))

-- the outcome of the first of several parts
first_came : (P : Program) (N n : ℕ) (keep : Keep) (p q : ℕ) (qs : List ℕ) (mid end l m : ℕ) (s t : State) (o : Outcome) → l < n → n < N →
    Answers P.given p s.spot o m → onward P l keep mid s.stack s.forest s.taken o (s.nodes + m) ≡ Some t →
    ((i : ℕ) (z : State) → i < N → z.pc ≡ mid → run P i z ≡ Some t → Comes P (suc i) keep end z t (of_form P.given (form.Seq (q ∷ qs)) z.spot)) →
    Comes P (suc n) keep end s t (of_form P.given (form.Seq (p ∷ q ∷ qs)) s.spot)
first_came P N n keep p q qs mid end l m s t (ok c b v i e) less below d on rest =
    let z : State = state mid b s.stack (added keep s.forest v) (s.nodes + m) (s.taken || c) in
    let r = rest l z (omega arith) refl on in
    let few = r.fewer in
    record {
      left = r.left;
      fewer = omega arith;
      outcome = then_rest c v i e r.outcome;
      nodes = m + r.nodes;
      has = seq (part d (part_ok (parts_in r.has)));
      on = same_count P r.left keep end s.stack s.forest s.taken (then_rest c v i e r.outcome) (s.nodes + m + r.nodes) (s.nodes + (m + r.nodes)) t (omega arith)
          (joined P r.left keep end s.stack s.forest s.taken (s.nodes + m + r.nodes) t c v i e r.outcome r.on);
    }
first_came P N n keep p q qs mid end l m s t (failed c e) less below d on rest = record {
  left = l;
  fewer = omega arith;
  outcome = failed c e;
  nodes = m;
  has = subst (AnswersForm P.given (form.Seq (p ∷ q ∷ qs)) s.spot (failed c e)) (alone m) (seq (part d part_failed));
  on = on;
}
first_came P N n keep p q qs mid end l m s t empty_round less below d on rest = absurd (cc)

-- code that adjoins for these parts is passed, in the order of the parts
pub parts_come : (P : Program) (N : ℕ) → Claim P N → (n : ℕ) (keep : Keep) (ps : List ℕ) (end : ℕ) (s t : State) → n < N → Adjoin P keep ps s.pc end →
    run P n s ≡ Some t → Comes P (suc n) keep end s t (of_form P.given (form.Seq ps) s.spot)
parts_come P N claim n keep [] end s t below adjoin on = record {
  left = n;
  fewer = omega arith;
  outcome = ok false s.spot [] [] (no_messages_at s.spot.place);
  nodes = 0;
  has = nothing;
  on = same_run P n end s.spot s.stack s.forest (added keep s.forest []) s.nodes (s.nodes + 0) s.taken (s.taken || false) t (none_added keep s.forest) (omega arith) (or_false s.taken)
      (subst (λ pc. run P n (state pc s.spot s.stack s.forest s.nodes s.taken) ≡ Some t) adjoin on);
}
parts_come P N claim n keep (p ∷ []) end s t below adjoin on =
    let noted : IsNoted P keep p s.pc end = subst (IsNoted P keep p s.pc) adjoin.2 adjoin.1 in
    seen_as P n (suc n) keep end s t (outcomes_of P.given p s.spot) (of_form P.given (form.Seq (p ∷ [])) s.spot) (omega arith)
    (λ o m d. only_part P.given p s.spot o m d) (claim n keep p end s t below noted on)
parts_come P N claim n keep (p ∷ q ∷ qs) end s t below adjoin on =
    let c = claim n keep p adjoin.0 s t below adjoin.1 on in
    first_came P N n keep p q qs adjoin.0 end c.left c.nodes s t c.outcome c.fewer below c.has c.on
    (λ i z less at r. parts_come P N claim i keep (q ∷ qs) end z t less (subst (λ pc. Adjoin P keep (q ∷ qs) pc end) (sym at) adjoin.2) r)
