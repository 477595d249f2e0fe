-- What is written of a grammar is what the check says of it.
use Rattle.std.proofs.Common.{◌≡◌, ◌++◌, ℕ, Bool, List, Option, true, false, codes, subst, sym}
use Rattle.std.specs.Io.KnownBytes.{Appends}
use Rattle.pg_tree.specs.Bytes.{AppendsPrefix}
use Rattle.pg_grammar_value.specs.Grammar.{Grammar}
use Rattle.pg_predict.specs.Checked.{GrammarWithSets, IsChecked}
use Rattle.pg_predict.specs.Findings.{lines_of}
use Rattle.pg_predict.specs.Refusals.{RefusedGrammar, IsRefused}
use Rattle.pg_bench_grammar.specs.Checking as checking
use Rattle.pg_bench_grammar.specs.Checking.{is_accepted, is_certified, is_refused, IsTold, IsPartlyTold, IsPartlyChecked, WritesCertificate, WritesPartly}
use Rattle.pg_bench_grammar.specs.Files.{IsFaultOfFile, SpellsAny}
use Rattle.pg_bench_grammar.specs.Faults.{IfFile, IsWriteRefusal}
use Rattle.pg_bench_grammar.specs.Loading.{judged_grammar, IsLoadedFrom}
use Rattle.pg_bench_grammar.specs.declared.bench_fault.BenchFault.{BenchFault}
use Rattle.pg_bench_grammar.specs.declared.bench_fault.BenchFault.TheVariants.{File}
use Rattle.pg_bench_grammar.specs.declared.loaded.LoadedFile.{LoadedFile}
use Rattle.pg_pred.specs.Offer.{Offer}

module _ (checked : GrammarWithSets) (writer held : Option (List ℕ)) (is : IsChecked checked) where
  pub told_accepted : (accepted : Bool) → accepted ≡ true → Appends writer held (codes "accepted\n") → IsTold checked.grammar false writer held accepted
  told_accepted accepted so written =
      subst (IsTold checked.grammar false writer held) (sym so) (record { said = codes "accepted\n"; judged = is_accepted is.faultless; written = written })

  pub partly_accepted : AppendsPrefix writer held (codes "accepted\n") → IsPartlyTold checked.grammar false writer held
  partly_accepted written = record { accepted = true; said = codes "accepted\n"; judged = is_accepted is.faultless; written = written }

  pub told_certificate : (accepted : Bool) → accepted ≡ true → WritesCertificate checked.grammar writer held → IsTold checked.grammar true writer held accepted
  told_certificate accepted so written =
      subst (IsTold checked.grammar true writer held) (sym so)
      (record { said = written.0 ++ codes "\n"; judged = is_certified is.faultless written.1; written = written.2 })

  pub partly_certified : WritesPartly checked.grammar writer held → IsPartlyTold checked.grammar true writer held
  partly_certified written = record { accepted = true; said = written.0 ++ codes "\n"; judged = is_certified is.faultless written.1; written = written.2 }

module _ (g : Grammar) (refused : RefusedGrammar) (writer held : Option (List ℕ)) (is : IsRefused g refused) where
  pub told_refused : Appends writer held (lines_of refused.findings) → (asked : Bool) → IsTold g asked writer held false
  told_refused written asked = record { said = lines_of refused.findings; judged = is_refused is.findings is.some; written = written }

  pub partly_refused : AppendsPrefix writer held (lines_of refused.findings) → (asked : Bool) → IsPartlyTold g asked writer held
  partly_refused written asked = record { accepted = false; said = lines_of refused.findings; judged = is_refused is.findings is.some; written = written }

-- ---- by the file that is loaded

module _ (offer : Offer) (file : List ℕ) (loaded : LoadedFile) (is : IsLoadedFrom offer file loaded) where
  pub told_file : (asked : Bool) (writer held : Option (List ℕ)) (accepted : Bool) → IsTold (judged_grammar loaded.judgement) asked writer held accepted
      → checking.IsChecked offer file asked writer held accepted
  told_file asked writer held accepted h =
      record { said = h.said; judged = record { grammar = judged_grammar loaded.judgement; spelled = is.spelled; judged = h.judged }; written = h.written }

  pub partly_told_file : (asked : Bool) (writer held : Option (List ℕ)) → IsPartlyTold (judged_grammar loaded.judgement) asked writer held
      → IsPartlyChecked offer file asked writer held
  partly_told_file asked writer held h =
      record {
        accepted = h.accepted;
        said = h.said;
        judged = record { grammar = judged_grammar loaded.judgement; spelled = is.spelled; judged = h.judged };
        written = h.written;
      }

  pub spelled_file : SpellsAny offer file
  spelled_file = (judged_grammar loaded.judgement, is.spelled, tt)

-- what writing refuses with is no fault of the file
pub no_fault_of_file : (offer : Offer) (file : List ℕ) (fault : BenchFault) → IsWriteRefusal fault → IfFile (IsFaultOfFile offer file) fault
no_fault_of_file offer file (File told) h = absurd h
no_fault_of_file offer file _ h = tt
