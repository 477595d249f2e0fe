use Rattle.std.proofs.Common.{◌-◌, ◌^◌, inl, inr, subst}
use Rattle.std.proofs.lemmas.Result.{IfOk-weaker}
use Rattle.pg_grammar_value.specs.Grammar.{Grammar}
use Rattle.pg_language.specs.Answers.{given}
use Rattle.pg_language.specs.declared.reading.Reading.TheVariants.{Library}
use Rattle.pg_derive.proofs.AcceptedTexts.{loses_none, accepted_rounds, accepted_links}
use Rattle.pg_derive_backtracking.proofs.Texts.{accepted_reads_nothing_twice}
use Rattle.pg_machine.specs.Outcomes.{IsOutcome}
use Rattle.pg_machine.proofs.Enough.{comes_to_answer}
use Rattle.pg_machine.proofs.FewSteps.{few_steps}
use Rattle.pg_machine.proofs.Whole.{whole_if_ok, derived, refused}
use Rattle.pg_machine.proofs.checked_run.run.Goals as goal

pub unreachable-requires : goal.unreachable-requires
unreachable-requires g c =
    let text = c.args.text.now in
    let table = c.args.table.now in
    let checked = c.args.checked.now in
    let outcome : IsOutcome (given Library checked.grammar text) table (2 ^ 64 - 1) c.in_ok-answer.field-0 =
    subst (λ (g : Grammar). IsOutcome (given Library g text) table (2 ^ 64 - 1) c.in_ok-answer.field-0) c.accepted-grammar.ensures.grammar c.in_ok-answer.ensures in
    let answer =
    comes_to_answer c.accepted_probes_answer.ensures (given Library checked.grammar text) checked.sets c.accepted-grammar.ensures.accepts checked.cost c.accepted-grammar.ensures.cost
    c.accepted-grammar.ensures.within c.accepted-grammar.ensures.short table c.requires.table c.in_ok-answer.field-0 outcome in
    let is = answer.1 in
    elim c.in-StepsUsed.is [ inl e ↦ cc | inr e ↦ cc ]

pub returns-clause-answer : goal.returns-clause-answer
returns-clause-answer g c =
    let text = c.args.text.now in
    let table = c.args.table.now in
    let grammar = c.args.checked.now.grammar in
    let outcome : IsOutcome (given Library grammar text) table (2 ^ 64 - 1) c.in_ok-answer.field-0 =
    subst (λ (g : Grammar). IsOutcome (given Library g text) table (2 ^ 64 - 1) c.in_ok-answer.field-0) c.accepted-grammar.ensures.grammar c.in_ok-answer.ensures in
    whole_if_ok (given Library grammar text) table c.in-Answered.answer c.whole_answer.result (subst (IsOutcome (given Library grammar text) table (2 ^ 64 - 1)) c.in-Answered.is outcome)
    c.whole_answer.ensures.outcome c.whole_answer.ensures.position c.whole_answer.ensures.steps

pub returns-clause-steps : goal.returns-clause-steps
returns-clause-steps g c =
    IfOk-weaker c.whole_answer.result _ _
    (λ a h.
    few_steps (given Library c.args.checked.now.grammar c.args.text.now) c.args.checked.now.sets c.accepted-grammar.ensures.accepts c.args.checked.now.cost c.accepted-grammar.ensures.cost
    c.args.table.now c.requires.table a h)
    (returns-clause-answer g c)

pub returns-clause-derived : goal.returns-clause-derived
returns-clause-derived g c =
    IfOk-weaker c.whole_answer.result _ _
    (λ a h. derived (given Library c.args.checked.now.grammar c.args.text.now) (c.args.checked.now.sets, c.accepted-grammar.ensures.accepts) c.args.table.now c.requires.table a h) (returns-clause-answer g c)

pub returns-clause-refused : goal.returns-clause-refused
returns-clause-refused g c =
    IfOk-weaker c.whole_answer.result _ _
    (λ a h. refused (given Library c.args.checked.now.grammar c.args.text.now) (c.args.checked.now.sets, c.accepted-grammar.ensures.accepts) c.args.table.now c.requires.table a h) (returns-clause-answer g c)

pub returns-clause-choices : goal.returns-clause-choices
returns-clause-choices g c = loses_none (given Library c.args.checked.now.grammar c.args.text.now) c.args.checked.now.sets c.accepted-grammar.ensures.accepts

pub returns-clause-rounds : goal.returns-clause-rounds
returns-clause-rounds g c = accepted_rounds (given Library c.args.checked.now.grammar c.args.text.now) c.args.checked.now.sets c.accepted-grammar.ensures.accepts

pub returns-clause-links : goal.returns-clause-links
returns-clause-links g c = accepted_links (given Library c.args.checked.now.grammar c.args.text.now) c.args.checked.now.sets c.accepted-grammar.ensures.accepts

pub returns-clause-once : goal.returns-clause-once
returns-clause-once g c = accepted_reads_nothing_twice (given Library c.args.checked.now.grammar c.args.text.now) c.args.checked.now.sets c.accepted-grammar.ensures.accepts

pub returns-in_err-answer-clause-choices : goal.returns-in_err-answer-clause-choices
returns-in_err-answer-clause-choices g c = loses_none (given Library c.args.checked.now.grammar c.args.text.now) c.args.checked.now.sets c.accepted-grammar.ensures.accepts

pub returns-in_err-answer-clause-rounds : goal.returns-in_err-answer-clause-rounds
returns-in_err-answer-clause-rounds g c = accepted_rounds (given Library c.args.checked.now.grammar c.args.text.now) c.args.checked.now.sets c.accepted-grammar.ensures.accepts

pub returns-in_err-answer-clause-links : goal.returns-in_err-answer-clause-links
returns-in_err-answer-clause-links g c = accepted_links (given Library c.args.checked.now.grammar c.args.text.now) c.args.checked.now.sets c.accepted-grammar.ensures.accepts

pub returns-in_err-answer-clause-once : goal.returns-in_err-answer-clause-once
returns-in_err-answer-clause-once g c = accepted_reads_nothing_twice (given Library c.args.checked.now.grammar c.args.text.now) c.args.checked.now.sets c.accepted-grammar.ensures.accepts
