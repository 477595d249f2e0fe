-- What a run says of a text.
use Rattle.std.proofs.Common.{◌≡◌, List, ℕ, Option, Some, None, refl, sym, subst}
use Rattle.std.specs.Prelude.{IfSome, IfNone}
use Rattle.pg_grammar_value.specs.Grammar.{Grammar}
use Rattle.pg_table.specs.Tables.{Table, initial, whole}
use Rattle.pg_language.specs.Answers.{given}
use Rattle.pg_language.specs.Errors.{without_position}
use Rattle.pg_language.specs.WholeTexts.{AnswersText}
use Rattle.pg_language.specs.declared.reading.Reading.TheVariants.{Library}
use Rattle.pg_machine.specs.CheckedRuns.{IsTextAnswer, IsOnlyDerivation, IsUnderivable}
use Rattle.pg_machine.specs.Outcomes.{outcome_with}
use Rattle.pg_machine.specs.declared.answer.Answer.{Answer}
use Rattle.pg_machine.specs.declared.answer.Success.{Success}
use Rattle.pg_corpus_judging.specs.declared.came.Came.{Came}
use Rattle.pg_corpus_judging.specs.Judging.{ComesTo}
use Rattle.pg_corpus_trials.specs.Trials.{end_of, end_with}

-- the end of a run with this success
ends : (g : Grammar) (text : List ℕ) (table : Table) (a : Answer) (success : Option Success) → initial g ≡ whole table → a.success ≡ success
    → IsTextAnswer (given Library g text) table a → IfSome success (IsOnlyDerivation g text table) → IfNone success (IsUnderivable g text table)
    → ComesTo g text (end_with a.error success)
ends g text table a None initially is reply derived refused = record {
  table = table;
  is_table = initially;
  none = refused;
  consumed = a.consumed;
  error = without_position a.error;
  nodes = reply.nodes;
  answers = subst (λ s. AnswersText (given Library g text) table (outcome_with a.consumed (without_position a.error) s) reply.nodes) is reply.answers;
  stands = subst (λ p. record { place = a.error.place; position = p; messages = a.error.messages } ≡ a.error) reply.position refl;
}
ends g text table a (Some s) initially is reply derived refused = record {
  table = table;
  is_table = initially;
  after = s.table;
  trail = s.trail;
  derives = derived.derives;
  only = λ other others items d. (derived.only other others items d).1;
}

pub comes_to : (g : Grammar) (text : List ℕ) (table : Table) (a : Answer) (came : Came) → came ≡ end_of a → initial g ≡ whole table
    → IsTextAnswer (given Library g text) table a → IfSome a.success (IsOnlyDerivation g text table) → IfNone a.success (IsUnderivable g text table) → ComesTo g text came
comes_to g text table a came is initially reply derived refused =
    subst (λ came. ComesTo g text came) (sym is) (ends g text table a a.success initially refl reply derived refused)
