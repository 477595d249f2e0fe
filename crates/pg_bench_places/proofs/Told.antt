-- What is written of a grammar is what is told of it.
use Rattle.std.proofs.Common.{◌≡◌, ◌++◌, ℕ, List, Bool, true, false, Option, codes, sym, subst}
use Rattle.std.specs.Io.KnownBytes.{Appends}
use Rattle.pg_tree.specs.Bytes.{AppendsPrefix}
use Rattle.pg_grammar_value.specs.Grammar.{Grammar}
use Rattle.pg_predict.specs.Checked.{GrammarWithSets, IsChecked}
use Rattle.pg_predict.specs.Refusals.{RefusedGrammar, IsRefused}
use Rattle.pg_certificate_own.specs.Own.{IsOwnCertificate}
use Rattle.pg_bench_grammar.specs.Checking.{IsJudged, is_accepted, is_certified}
use Rattle.pg_bench_grammar.specs.Loading.{judged_grammar, IsLoadedFrom}
use Rattle.pg_bench_grammar.specs.declared.loaded.LoadedFile.{LoadedFile}
use Rattle.pg_pred.specs.Offer.{Offer}
use Rattle.pg_predict_lines.specs.Lines.{WritesFronted, WritesPartOfFronted}
use Rattle.pg_predict_lines.specs.declared.fronts.Front.{Front}
use Rattle.pg_bench_places.specs.Placing.{IsJudgedBehind, IsPlaced, IsPartlyPlaced, IsPlacedFile, IsPartlyPlacedFile, accepted_behind, refused_behind}

module _ (checked : GrammarWithSets) (asked : Bool) (is : IsChecked checked) where
  pub certified_line : asked ≡ true → (line : List ℕ) → ((certificate : List ℕ) × IsOwnCertificate checked.grammar certificate × (line ≡ certificate ++ codes "\n"))
      → IsJudged checked.grammar asked true line
  certified_line so line own =
      subst (λ a. IsJudged checked.grammar a true line) (sym so) (subst (IsJudged checked.grammar true true) (sym own.2) (is_certified is.faultless own.1))

  pub accepted_word : asked ≡ false → (line : List ℕ) → line ≡ codes "accepted\n" → IsJudged checked.grammar asked true line
  accepted_word so line word =
      subst (λ a. IsJudged checked.grammar a true line) (sym so) (subst (IsJudged checked.grammar false true) (sym word) (is_accepted is.faultless))

module _ (g : Grammar) (asked : Bool) (writer held : Option (List ℕ)) where
  pub accepted_told : (line : List ℕ) → ((front : List ℕ) × (said : List ℕ) × IsJudged g asked true said × (line ≡ front ++ said)) → Appends writer held line
      → IsPlaced g asked writer held true
  accepted_told line said written =
      record { page = line; judged = subst (IsJudgedBehind g asked true) (sym said.3) (accepted_behind said.0 said.2); written = written }

  pub accepted_partly : (line : List ℕ) → ((front : List ℕ) × (said : List ℕ) × IsJudged g asked true said × (line ≡ front ++ said)) → AppendsPrefix writer held line
      → IsPartlyPlaced g asked writer held
  accepted_partly line said written =
      record { accepted = true; page = line; judged = subst (IsJudgedBehind g asked true) (sym said.3) (accepted_behind said.0 said.2); written = written }

  pub refused_told : (refused : RefusedGrammar) (front : ℕ → Front) → IsRefused g refused → WritesFronted refused front writer held → IsPlaced g asked writer held false
  refused_told refused front is written = record { page = written.page; judged = refused_behind front is written.fronted; written = written.written }

  pub refused_partly : (refused : RefusedGrammar) (front : ℕ → Front) → IsRefused g refused → WritesPartOfFronted refused front writer held → IsPartlyPlaced g asked writer held
  refused_partly refused front is written =
      record { accepted = false; page = written.page; judged = refused_behind front is written.fronted; written = written.written }

-- by the file that is loaded
module _ (offer : Offer) (file : List ℕ) (loaded : LoadedFile) (is : IsLoadedFrom offer file loaded) (asked : Bool) (writer held : Option (List ℕ)) where
  pub placed_file : (accepted : Bool) → IsPlaced (judged_grammar loaded.judgement) asked writer held accepted → IsPlacedFile offer file asked writer held accepted
  placed_file accepted h = record { grammar = judged_grammar loaded.judgement; spelled = is.spelled; placed = h }

  pub partly_placed_file : IsPartlyPlaced (judged_grammar loaded.judgement) asked writer held → IsPartlyPlacedFile offer file asked writer held
  partly_placed_file h = record { grammar = judged_grammar loaded.judgement; spelled = is.spelled; placed = h }
