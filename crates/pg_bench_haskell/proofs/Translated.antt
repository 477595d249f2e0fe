-- What is written is of the file that is loaded.
use Rattle.std.proofs.Common.{ℕ, List, Option}
use Rattle.pg_pred.specs.Offer.{Offer}
use Rattle.pg_bench_grammar.specs.Loading.{judged_grammar, IsLoadedFrom}
use Rattle.pg_bench_grammar.specs.declared.loaded.LoadedFile.{LoadedFile}
use Rattle.pg_bench_haskell.specs.Translating.{IsTranslatedFile, IsPartlyTranslatedFile, WritesSome, WritesPartOfSome}

module _ (offer : Offer) (file : List ℕ) (loaded : LoadedFile) (is : IsLoadedFrom offer file loaded) (writer held : Option (List ℕ)) where
  pub translated_file : WritesSome writer held → IsTranslatedFile offer file writer held
  translated_file h = record { grammar = judged_grammar loaded.judgement; spelled = is.spelled; written = h }

  pub partly_translated_file : WritesPartOfSome writer held → IsPartlyTranslatedFile offer file writer held
  partly_translated_file h = record { grammar = judged_grammar loaded.judgement; spelled = is.spelled; written = h }
