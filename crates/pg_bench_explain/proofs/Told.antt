-- What is written of a grammar is what is told of it.
use Rattle.std.proofs.Common.{ℕ, List, Option}
use Rattle.std.specs.Io.KnownBytes.{Appends}
use Rattle.pg_tree.specs.Bytes.{AppendsPrefix}
use Rattle.pg_pred.specs.Offer.{Offer}
use Rattle.pg_grammar_value.specs.Grammar.{Grammar}
use Rattle.pg_predict.specs.Refusals.{RefusedGrammar, IsRefused}
use Rattle.pg_bench_grammar.specs.Loading.{judged_grammar, IsLoadedFrom}
use Rattle.pg_bench_grammar.specs.declared.loaded.LoadedFile.{LoadedFile}
use Rattle.pg_bench_explain.specs.Explaining.{IsExplained, IsPartlyExplained, IsExplainedFile, IsPartlyExplainedFile}
use Rattle.pg_bench_explain.specs.declared.explain.Explained.{Explained}
use Rattle.pg_bench_explain.specs.declared.explain.Explained.TheVariants.{Refused}

module _ (g : Grammar) (refused : RefusedGrammar) (writer held : Option (List ℕ)) (is : IsRefused g refused) where
  pub told_refused : (page : List ℕ) → Appends writer held page → IsExplained g writer held Refused
  told_refused page written = record { page = page; tells = (refused.findings, is.findings, is.some); written = written }

  pub partly_refused : (page : List ℕ) → AppendsPrefix writer held page → IsPartlyExplained g writer held
  partly_refused page written = record { told = Refused; page = page; tells = (refused.findings, is.findings, is.some); written = written }

-- by the file that is loaded
module _ (offer : Offer) (file : List ℕ) (loaded : LoadedFile) (is : IsLoadedFrom offer file loaded) (writer held : Option (List ℕ)) where
  pub explained_file : (told : Explained) → IsExplained (judged_grammar loaded.judgement) writer held told → IsExplainedFile offer file writer held told
  explained_file told h = record { grammar = judged_grammar loaded.judgement; spelled = is.spelled; explained = h }

  pub partly_explained_file : IsPartlyExplained (judged_grammar loaded.judgement) writer held → IsPartlyExplainedFile offer file writer held
  partly_explained_file h = record { grammar = judged_grammar loaded.judgement; spelled = is.spelled; explained = h }
