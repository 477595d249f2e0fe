use Rattle.std.proofs.Common.{◌≡◌, subst}
use Rattle.std.specs.Prelude.{Option, Some, None, IfSome}
use Rattle.pg_language.specs.Answers.{given}
use Rattle.pg_language.specs.declared.reading.Reading.TheVariants.{Library}
use Rattle.pg_machine.specs.CheckedRuns.{IsTextAnswer}
use Rattle.pg_machine.specs.declared.answer.Answer.{Answer}
use Rattle.pg_grammar_value.specs.Grammar.{IsGrammar}
use Rattle.pg_table.proofs.Added.{own_table}
use Rattle.pg_bench.proofs.RefusedTexts.{refused_so}
use Rattle.pg_bench.proofs.refused.refused_text.Goals as goal

pub returns-in-Ok-Some : goal.returns-in-Ok-Some
returns-in-Ok-Some g c =
    let checked = c.args.checked.now in
    let grammar = subst IsGrammar c.grammar-grammar.ensures.grammar c.nodes-nodes.ensures.grammar in
    let some : c.in-Ok-Some.field-0 ≡ Some c.in-Ok-Some.answer = c.in-Ok-Some.field-0-is in
    let reply = subst (λ (o : Option Answer). IfSome o (IsTextAnswer (given Library checked.grammar c.args.text.now) c.args.table.now)) some c.in-Ok-Some.ensures.answer in
    let none = subst (λ (o : Option Answer). IfSome o (λ a. a.success ≡ None)) some c.in-Ok-Some.ensures.error in
    refused_so checked c.args.text.now c.args.table.now c.in-Ok-Some.answer c.error_of.result c.grammar-grammar.ensures.checked grammar c.characters-characters.ensures.scalars c.requires.table
    (own_table checked.grammar c.args.table.now c.requires.table) reply none c.error_of.ensures
