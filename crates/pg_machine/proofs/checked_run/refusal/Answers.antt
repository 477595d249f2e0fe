use Rattle.std.proofs.Common.{◌-◌, ◌^◌, length, subst}
use Rattle.pg_grammar_value.specs.Grammar.{Grammar}
use Rattle.pg_language.specs.Answers.{given}
use Rattle.pg_language.specs.declared.reading.Reading.TheVariants.{Library}
use Rattle.pg_machine.specs.Treeless.{IsTreeless, EndsTreeless}
use Rattle.pg_machine.proofs.Enough.{enough}
use Rattle.pg_machine.proofs.ErrorAlone.{refusal_if}
use Rattle.pg_machine.proofs.checked_run.refusal.Goals as goal

pub error_alone-requires : goal.error_alone-requires
error_alone-requires g c =
    let text = c.args.text.now in
    let table = c.args.table.now in
    let checked = c.args.checked.now in
    let found =
    c.accepted_starts_come_to_answers.ensures (given Library checked.grammar text) checked.sets c.accepted-grammar.ensures.accepts checked.cost c.accepted-grammar.ensures.cost table c.requires.table
    (2 ^ 64 - 1) (enough checked.cost (length text) c.accepted-grammar.ensures.within c.accepted-grammar.ensures.short) in
    let treeless : IsTreeless (given Library checked.grammar text) table c.in_ok-answer.field-0 =
    subst (λ (g : Grammar). IsTreeless (given Library g text) table c.in_ok-answer.field-0) c.accepted-grammar.ensures.grammar c.in_ok-answer.ensures in
    let ends = subst (EndsTreeless (given Library checked.grammar text) found.0 found.1) c.in-Answered.is (treeless found.0 found.1 found.2 found.3) in
    ends.1

pub returns-in-Answered-clause-answer : goal.returns-in-Answered-clause-answer
returns-in-Answered-clause-answer g c =
    let text = c.args.text.now in
    let table = c.args.table.now in
    let checked = c.args.checked.now in
    let found =
    c.accepted_starts_come_to_answers.ensures (given Library checked.grammar text) checked.sets c.accepted-grammar.ensures.accepts checked.cost c.accepted-grammar.ensures.cost table c.requires.table
    (2 ^ 64 - 1) (enough checked.cost (length text) c.accepted-grammar.ensures.within c.accepted-grammar.ensures.short) in
    let treeless : IsTreeless (given Library checked.grammar text) table c.in_ok-answer.field-0 =
    subst (λ (g : Grammar). IsTreeless (given Library g text) table c.in_ok-answer.field-0) c.accepted-grammar.ensures.grammar c.in_ok-answer.ensures in
    let ends = subst (EndsTreeless (given Library checked.grammar text) found.0 found.1) c.in-Answered.is (treeless found.0 found.1 found.2 found.3) in
    refusal_if (given Library checked.grammar text) table found.0 found.1 c.in-Answered.answer c.error_alone.result found.2 ends found.3 c.error_alone.ensures.outcome c.error_alone.ensures.position
    c.error_alone.ensures.steps c.error_alone.ensures.error
