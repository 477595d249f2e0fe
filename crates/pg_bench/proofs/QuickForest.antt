-- What a run of a plan says of a text, in terms of the promise.
use Rattle.std.proofs.Common.{◌≡◌, ◌≤◌, ◌+◌, ◌-◌, ◌*◌, ◌^◌, ℕ, min, length, true, List, Some, refl, sym, ap, ◌∙◌, subst}
use Rattle.std.specs.Str.{all_scalars}
use Rattle.pg_grammar_value.specs.Grammar.{IsGrammar}
use Rattle.pg_table.specs.Tables.{Table, ComesFrom, initial, whole}
use Rattle.pg_language.specs.Answers.{Given, given}
use Rattle.pg_language.specs.Errors.{Error, in_text}
use Rattle.pg_language.specs.declared.reading.Reading.TheVariants.{Library}
use Rattle.pg_derive.specs.Accepted.{Accepts}
use Rattle.pg_derive.proofs.AcceptedTexts.{loses_none, accepted_rounds, accepted_links}
use Rattle.pg_derive.proofs.WholeTexts.{answered_derived}
use Rattle.pg_derive_backtracking.proofs.Texts.{accepted_reads_nothing_twice}
use Rattle.pg_machine.specs.CheckedRuns.{IsTextAnswer}
use Rattle.pg_machine.specs.declared.answer.Answer.{Answer}
use Rattle.pg_machine.specs.declared.answer.Success.{Success}
use Rattle.pg_machine.proofs.FewSteps.{few_steps}
use Rattle.pg_machine.proofs.Whole.{derived}
use Rattle.pg_machine_quick.specs.Laws.{TapeHasAnswered}
use Rattle.pg_machine_plan.specs.Plans.{program}
use Rattle.pg_machine_quick.specs.Tape.{Tape}
use Rattle.pg_machine_plan.specs.Plans.{Plan}
use Rattle.pg_predict.specs.Checked.{GrammarWithSets, IsChecked}
use Rattle.pg_bench.specs.declared.done.Done.{Done}
use Rattle.pg_bench.specs.Promise.{HasForestOfText, most_steps}
use Rattle.pg_bench.proofs.Parses.{found_forest}

-- nothing is wrong with a checked grammar, and the text is one of characters
pub accepts : (checked : GrammarWithSets) (text : List ℕ) → IsChecked checked → IsGrammar checked.grammar → all_scalars text ≡ true
    → Accepts (given Library checked.grammar text) checked.sets
accepts checked text is grammar scalars = record { grammar = grammar; least = is.sets; faultless = is.faultless; text = scalars }

pub quick_forest : (checked : GrammarWithSets) (plan : Plan) (text : List ℕ) (table : Table) (s : Tape) (done : Done) → IsChecked checked → IsGrammar checked.grammar
    → all_scalars text ≡ true → initial checked.grammar ≡ whole table → ComesFrom checked.grammar table → TapeHasAnswered (program checked.grammar plan text) table s
    → done ≡ record { steps = min (2 * s.nodes - 1) (2 ^ 64 - 1); cost = checked.cost; most = most_steps checked.cost (length text + 1); planned = true }
    → HasForestOfText checked.grammar text s.trees done
quick_forest checked plan text table s done is grammar scalars initially from answered took =
    let G = given Library checked.grammar text in
    let so = accepts checked text is grammar scalars in
    let success : Success = record { place = s.place; table = table; forest = s.trees; trail = answered.trail } in
    let answer : Answer =
    record { consumed = answered.consumed; error = in_text text answered.error; steps = min (2 * s.nodes - 1) (2 ^ 64 - 1); success = Some success } in
    let reply : IsTextAnswer G table answer = record { nodes = s.nodes; answers = answered.so; position = refl; steps = refl } in
    let few = few_steps G checked.sets so checked.cost is.cost table from answer reply in
    record {
      trail = answered.trail;
      is =
          found_forest checked text table answer success done true is initially reply few (derived G (checked.sets, so) table from answer reply) (loses_none G checked.sets so)
          (accepted_rounds G checked.sets so) (accepted_links G checked.sets so) (accepted_reads_nothing_twice G checked.sets so) refl took;
    }
