-- What an answer to a whole text says of its derivations.
use Rattle.pg_machine_turns.specs.Spots.{spot_at}
use Rattle.std.proofs.Common.{◌≡◌, ◌<◌, ◌≤◌, ◌+◌, ◌-◌, ◌*◌, ◌^◌, ◌∙◌, ℕ, min, arith, Bool, sym, subst}
use Rattle.std.specs.Prelude.{Option, Some, None, IfSome, IfNone, Result, Ok, Err, IfOk}
use Rattle.pg_text.specs.Position.{position_of}
use Rattle.pg_table.specs.Tables.{Table, ComesFrom}
use Rattle.pg_language.specs.Answers.{Given, Answers, entered}
use Rattle.pg_language.specs.Derives.{Spot}
use Rattle.pg_language.specs.Errors.{Error, without_position}
use Rattle.pg_language.specs.Outcomes.{Outcome, ok, failed, empty_round}
use Rattle.pg_language.specs.WholeTexts.{AnswersText, from_start, at_end, nodes_to_end}
use Rattle.pg_derive.proofs.AcceptedTexts.{refuses_rightly, derives_once}
use Rattle.pg_derive.proofs.WholeTexts.{answered_derived}
use Rattle.pg_machine.specs.CheckedRuns.{HasAcceptedGrammar, IsTextAnswer, steps_to_end, IsOnlyDerivation, IsUnderivable}
use Rattle.pg_machine.specs.Outcomes.{outcome_of, outcome_with, IsOutcome}
use Rattle.pg_machine.specs.declared.answer.Answer.{Answer}
use Rattle.pg_machine.specs.declared.answer.Outcome.TheVariants.{Answered}
use Rattle.pg_machine.specs.declared.answer.Success.{Success}

pub some_node : {G : Given} {p m : ℕ} {a : Spot} {o : Outcome} → Answers G p a o m → 0 < m
some_node (entered there d) = omega arith

-- the end of the text is one more node, and two more turns, after an ok answer
pub counted : (o : Outcome) (m k : ℕ) → 0 < m → k + 1 ≡ 2 * m → k ≤ 2 ^ 64 - 1 → steps_to_end o k ≡ min (2 * nodes_to_end o m - 1) (2 ^ 64 - 1)
counted (ok c b v t e) m k l h f = omega arith
counted (failed c e) m k l h f = omega arith
counted empty_round m k l h f = omega arith

-- the end of the text after the start rule
pub whole : (G : Given) (T : Table) (a b : Answer) → IsOutcome G T (2 ^ 64 - 1) (Answered a) → outcome_of b ≡ at_end G.text (outcome_of a) → b.error.position ≡ position_of G.text b.error.place →
    b.steps ≡ steps_to_end (outcome_of a) a.steps → IsTextAnswer G T b
whole G T a b (h, few) e p s = record {
  nodes = nodes_to_end (outcome_of a) h.entered;
  answers = subst (λ (o : Outcome). AnswersText G T o (nodes_to_end (outcome_of a) h.entered)) (sym e) (from_start h.answers.is_start h.answers.body);
  position = p;
  steps = s ∙ counted (outcome_of a) h.entered a.steps (some_node h.answers.body) h.steps few;
}

ok_only : (G : Given) → HasAcceptedGrammar G → (T : Table) → ComesFrom G.grammar T → (c : Bool) (e : Error) (n : ℕ) (s : Option Success) → AnswersText G T (outcome_with c e s) n → IfSome s (IsOnlyDerivation G.grammar G.text T)
ok_only G h T from c e n None d = tt
ok_only G h T from c e n (Some s) d =
    let is = answered_derived G T c (spot_at s.table s.place) s.forest s.trail e n d in
    record { end = is.0; derives = is.1; only = λ after forest trail k. derives_once G h.0 h.1 T s.table after s.forest forest s.trail trail from is.1 k }

failed_none : (G : Given) → HasAcceptedGrammar G → (T : Table) → ComesFrom G.grammar T → (c : Bool) (e : Error) (n : ℕ) (s : Option Success) → AnswersText G T (outcome_with c e s) n → IfNone s (IsUnderivable G.grammar G.text T)
failed_none G h T from c e n None d = λ after forest trail k. refuses_rightly G h.0 h.1 T c e n from d after forest trail k
failed_none G h T from c e n (Some s) d = tt

pub derived : (G : Given) → HasAcceptedGrammar G → (T : Table) → ComesFrom G.grammar T → (a : Answer) → IsTextAnswer G T a → IfSome a.success (IsOnlyDerivation G.grammar G.text T)
derived G h T from a x = ok_only G h T from a.consumed (without_position a.error) x.nodes a.success x.answers

pub refused : (G : Given) → HasAcceptedGrammar G → (T : Table) → ComesFrom G.grammar T → (a : Answer) → IsTextAnswer G T a → IfNone a.success (IsUnderivable G.grammar G.text T)
refused G h T from a x = failed_none G h T from a.consumed (without_position a.error) x.nodes a.success x.answers

-- the same where memory may have run out
pub whole_if_ok : {E : Type 0} (G : Given) (T : Table) (a : Answer) (r : Result Answer E) → IsOutcome G T (2 ^ 64 - 1) (Answered a) → IfOk r (λ b. outcome_of b ≡ at_end G.text (outcome_of a)) →
    IfOk r (λ b. b.error.position ≡ position_of G.text b.error.place) → IfOk r (λ b. b.steps ≡ steps_to_end (outcome_of a) a.steps) → IfOk r (IsTextAnswer G T)
whole_if_ok G T a (Ok b) h e p s = whole G T a b h e p s
whole_if_ok G T a (Err x) h e p s = tt
