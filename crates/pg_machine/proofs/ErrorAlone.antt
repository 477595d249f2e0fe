-- An error after a run that made no trees is the answer of the whole text.
use Rattle.std.proofs.Common.{◌≡◌, ◌≤◌, ◌+◌, ◌-◌, ◌*◌, ◌^◌, ◌∙◌, ℕ, List, [], Bool, refl, sym, ap, subst, arith}
use Rattle.std.specs.Prelude.{Option, Some, None, IfSome, IfOk, Result, Ok, Err}
use Rattle.pg_text.specs.Position.{position_of}
use Rattle.pg_table.specs.Tables.{Table}
use Rattle.pg_tree.specs.Trees.{Tree}
use Rattle.pg_grammar_value.specs.declared.trail.TrailItem.{TrailItem}
use Rattle.pg_language.specs.Answers.{Given, AnswersStart}
use Rattle.pg_language.specs.Errors.{Error, without_position}
use Rattle.pg_language.specs.Outcomes.{Outcome, ok, failed, empty_round}
use Rattle.pg_language.specs.Reactions.{then_rest}
use Rattle.pg_language.specs.WholeTexts.{AnswersText, from_start, at_end, nodes_to_end}
use Rattle.pg_machine.specs.CheckedRuns.{IsTextAnswer, steps_to_end}
use Rattle.pg_machine.specs.Outcomes.{outcome_of, outcome_with}
use Rattle.pg_machine.specs.Treeless.{treeless, EndsTreeless}
use Rattle.pg_machine.specs.declared.answer.Answer.{Answer}
use Rattle.pg_machine.specs.declared.answer.Outcome.TheVariants.{Answered}
use Rattle.pg_machine.specs.declared.answer.Success.{Success}
use Rattle.pg_machine.proofs.Whole.{some_node, counted}

-- a failure behind some trees is one behind others
same_failure : (d c : Bool) (f e : Error) (v : List Tree) (t : List TrailItem) (q : Outcome) → failed d f ≡ then_rest c [] t e q → failed d f ≡ then_rest c v t e q
same_failure d c f e v t (ok b p w u g) h = cc
same_failure d c f e v t (failed b g) h = h
same_failure d c f e v t empty_round h = h

failure_at_end : (text : List ℕ) (d : Bool) (f : Error) (o : Outcome) → failed d f ≡ at_end text (treeless o) → failed d f ≡ at_end text o
failure_at_end text d f (ok c b v t e) h = same_failure d c f e v t _ h
failure_at_end text d f (failed c e) h = h
failure_at_end text d f empty_round h = h

same_steps : (o : Outcome) (k : ℕ) → steps_to_end (treeless o) k ≡ steps_to_end o k
same_steps (ok c b v t e) k = refl
same_steps (failed c e) k = refl
same_steps empty_round k = refl

failed_so : (c : Bool) (e : Error) (s : Option Success) → s ≡ None → outcome_with c e s ≡ failed c e
failed_so c e s h = ap (outcome_with c e) h

-- the whole text's answer, where it is an error
pub refusal : (G : Given) (T : Table) (o : Outcome) (m : ℕ) (a b : Answer) → AnswersStart G T o m → outcome_of a ≡ treeless o → a.steps + 1 ≡ 2 * m → 2 * m ≤ 2 ^ 64 - 1
    → outcome_of b ≡ at_end G.text (outcome_of a) → b.error.position ≡ position_of G.text b.error.place → b.steps ≡ steps_to_end (outcome_of a) a.steps → b.success ≡ None → IsTextAnswer G T b
refusal G T o m a b h same steps few e p s none =
    let is : outcome_of b ≡ failed b.consumed (without_position b.error) = failed_so b.consumed (without_position b.error) b.success none in
    let whole : outcome_of b ≡ at_end G.text (treeless o) = e ∙ ap (at_end G.text) same in
    let error : outcome_of b ≡ at_end G.text o = is ∙ failure_at_end G.text b.consumed (without_position b.error) o (sym is ∙ whole) in
    let own : b.steps ≡ steps_to_end o a.steps = s ∙ ap (λ (q : Outcome). steps_to_end q a.steps) same ∙ same_steps o a.steps in
    record {
      nodes = nodes_to_end o m;
      answers = subst (λ (q : Outcome). AnswersText G T q (nodes_to_end o m)) (sym error) (from_start h.is_start h.body);
      position = p;
      steps = own ∙ counted o m a.steps (some_node h.body) steps (omega arith);
    }

-- the same where memory may have run out, or there is no error
pub refusal_if : {E : Type 0} (G : Given) (T : Table) (o : Outcome) (m : ℕ) (a : Answer) (r : Result (Option Answer) E) → AnswersStart G T o m → EndsTreeless G o m (Answered a) → 2 * m ≤ 2 ^ 64 - 1
    → IfOk r (λ found. IfSome found (λ b. outcome_of b ≡ at_end G.text (outcome_of a))) → IfOk r (λ found. IfSome found (λ b. b.error.position ≡ position_of G.text b.error.place))
    → IfOk r (λ found. IfSome found (λ b. b.steps ≡ steps_to_end (outcome_of a) a.steps)) → IfOk r (λ found. IfSome found (λ b. b.success ≡ None)) → IfOk r (λ found. IfSome found (IsTextAnswer G T))
refusal_if G T o m a (Ok (Some b)) h ends few e p s none = refusal G T o m a b h ends.0 ends.2 few e p s none
refusal_if G T o m a (Ok None) h ends few e p s none = tt
refusal_if G T o m a (Err x) h ends few e p s none = tt
