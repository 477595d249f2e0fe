-- What an error says of a text, in terms of the promise.
use Rattle.std.proofs.Common.{◌≡◌, ℕ, List, None, true, refl, sym, subst}
use Rattle.std.specs.Str.{all_scalars}
use Rattle.pg_grammar_value.specs.Grammar.{IsGrammar}
use Rattle.pg_table.specs.Tables.{Table, ComesFrom, initial, whole}
use Rattle.pg_language.specs.Answers.{given}
use Rattle.pg_language.specs.declared.reading.Reading.TheVariants.{Library}
use Rattle.pg_derive.proofs.AcceptedTexts.{loses_none, accepted_rounds, accepted_links}
use Rattle.pg_derive_backtracking.proofs.Texts.{accepted_reads_nothing_twice}
use Rattle.pg_machine.specs.CheckedRuns.{IsTextAnswer}
use Rattle.pg_machine.specs.declared.answer.Answer.{Answer}
use Rattle.pg_machine.proofs.FewSteps.{few_steps}
use Rattle.pg_machine.proofs.Whole.{refused}
use Rattle.pg_predict.specs.Checked.{GrammarWithSets, IsChecked}
use Rattle.pg_bench_grammar.specs.declared.bench_fault.BenchFault.{BenchFault}
use Rattle.pg_bench_grammar.specs.declared.bench_fault.BenchFault.TheVariants.{ParseError}
use Rattle.pg_bench.specs.Refusals.{IsRunRefusal}
use Rattle.pg_bench.proofs.Parses.{found_refused}
use Rattle.pg_bench.proofs.QuickForest.{accepts}

pub refused_so : (checked : GrammarWithSets) (text : List ℕ) (table : Table) (a : Answer) (fault : BenchFault) → IsChecked checked → IsGrammar checked.grammar → all_scalars text ≡ true
    → initial checked.grammar ≡ whole table → ComesFrom checked.grammar table → IsTextAnswer (given Library checked.grammar text) table a → a.success ≡ None → fault ≡ ParseError a.error
    → IsRunRefusal checked.grammar text fault
refused_so checked text table a fault is grammar scalars initially from reply none error =
    let G = given Library checked.grammar text in
    let so = accepts checked text is grammar scalars in
    subst (IsRunRefusal checked.grammar text) (sym error)
    (found_refused checked text table a (ParseError a.error) is initially reply (few_steps G checked.sets so checked.cost is.cost table from a reply) (refused G (checked.sets, so) table from a reply)
    (loses_none G checked.sets so) (accepted_rounds G checked.sets so) (accepted_links G checked.sets so) (accepted_reads_nothing_twice G checked.sets so) (none, refl))
