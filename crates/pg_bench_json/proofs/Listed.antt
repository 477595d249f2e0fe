-- What is written of a grammar is what is listed of it.
use Rattle.std.proofs.Common.{ℕ, List, [], Bool, true, false, Option, None, Some, refl, sym, append-nil}
use Rattle.std.specs.Io.KnownBytes.{Appends}
use Rattle.pg_pred.specs.Offer.{Offer}
use Rattle.pg_grammar_value.specs.Grammar.{Grammar}
use Rattle.pg_predict.specs.Checked.{GrammarWithSets, IsChecked}
use Rattle.pg_predict.specs.Refusals.{RefusedGrammar, IsRefused}
use Rattle.pg_explain_json.specs.Pages.{WritesPage, WritesPartOfPage}
use Rattle.pg_bench_grammar.specs.Loading.{judged_grammar, IsLoadedFrom}
use Rattle.pg_bench_grammar.specs.declared.loaded.LoadedFile.{LoadedFile}
use Rattle.pg_bench_json.specs.Listing.{IsListed, IsPartlyListed, IsListedFile, IsPartlyListedFile}

nothing_appended : (writer : Option (List ℕ)) → Appends writer writer []
nothing_appended None = tt
nothing_appended (Some bytes) = sym (append-nil bytes)

pub listed_none : (checked : GrammarWithSets) (writer : Option (List ℕ)) → IsChecked checked → IsListed checked.grammar writer writer true
listed_none checked writer is = record { page = []; lists = (is.faultless, refl); written = nothing_appended writer }

module _ (g : Grammar) (refused : RefusedGrammar) (writer held : Option (List ℕ)) (is : IsRefused g refused) where
  pub listed_refused : WritesPage writer held → IsListed g writer held false
  listed_refused written = record { page = written.0; lists = (refused.findings, is.findings, is.some); written = written.1 }

  pub partly_refused : WritesPartOfPage writer held → IsPartlyListed g writer held
  partly_refused written = record { accepted = false; page = written.0; lists = (refused.findings, is.findings, is.some); written = written.1 }

-- by the file that is loaded
module _ (offer : Offer) (file : List ℕ) (loaded : LoadedFile) (is : IsLoadedFrom offer file loaded) (writer held : Option (List ℕ)) where
  pub listed_file : (accepted : Bool) → IsListed (judged_grammar loaded.judgement) writer held accepted → IsListedFile offer file writer held accepted
  listed_file accepted h = record { grammar = judged_grammar loaded.judgement; spelled = is.spelled; listed = h }

  pub partly_listed_file : IsPartlyListed (judged_grammar loaded.judgement) writer held → IsPartlyListedFile offer file writer held
  partly_listed_file h = record { grammar = judged_grammar loaded.judgement; spelled = is.spelled; listed = h }
