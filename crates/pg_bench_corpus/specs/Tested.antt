-- A grammar by which cases are tried.
use Rattle.std.specs.Prelude.{◌≡◌, ℕ, List, Result, Ok, Err}
use Rattle.pg_pred.specs.Offer.{Offer}
use Rattle.pg_grammar_value.specs.Fits.{Fits}
use Rattle.pg_grammar_value.specs.Grammar.{Grammar}
use Rattle.pg_table.specs.Tables.{Table, initial, whole}
use Rattle.pg_corpus_judging.specs.Judging.{IsTrialOf}
use Rattle.pg_corpus_judging.specs.declared.trial.Trial.{Trial}
use Rattle.pg_bench_corpus.specs.declared.starts.Refusal.{Refusal}
use Rattle.pg_bench_corpus.specs.declared.tested.TestedGrammar.{TestedGrammar}
use Rattle.pg_bench_corpus.specs.declared.tested.TestedGrammar.TheVariants.{Accepted, Probed}

abbrev pub tested_grammar : TestedGrammar → Grammar
tested_grammar (Accepted accepted) = accepted.checked.grammar
tested_grammar (Probed placed) = placed.grammar

abbrev pub table_of : TestedGrammar → Table
table_of (Accepted accepted) = accepted.table
table_of (Probed placed) = placed.table

-- the offer has what the grammar names in it, and the table is its own
pub record IsReady (offer : Offer) (tested : TestedGrammar) : Type 0 where
  pub fits : Fits offer (tested_grammar tested)
  pub table_is : initial (tested_grammar tested) ≡ whole (table_of tested)

-- a grammar with another start is ready too; nothing is said of why there is none
abbrev pub IsStarted : Offer → Result TestedGrammar Refusal → Type 0
IsStarted offer (Ok tested) = IsReady offer tested
IsStarted offer (Err why) = Unit {0}

-- a case with this text is tried by an accepted grammar as it should be; of a probe nothing is said
abbrev pub IsTrialBy : TestedGrammar → List ℕ → List ℕ → Trial → Type 0
IsTrialBy (Accepted accepted) text wanted trial = IsTrialOf accepted.checked.grammar text wanted trial
IsTrialBy (Probed placed) text wanted trial = Unit {0}
