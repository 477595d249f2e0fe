-- The exit status of a run.
use Rattle.std.specs.Prelude.{◌≡◌, ℕ, List, Result, Ok, Err}
use Rattle.pg_pred.specs.Offer.{Offer}
use Rattle.pg_grammar_value.specs.Fits.{Fits}
use Rattle.pg_file_making.specs.Spells.{SpellsWithinLimits}
use Rattle.pg_table.specs.Tables.{initial, whole}
use Rattle.pg_predict.specs.Checked.{IsChecked}
use Rattle.pg_bench_grammar.specs.Files.{IsFaultOfFile, AreFindingsOf}
use Rattle.pg_bench_grammar.specs.Faults.{IfFile, IfRefused, IsGrammarRefusal}
use Rattle.pg_bench_grammar.specs.declared.grammar_file.AcceptedGrammar.{AcceptedGrammar}
use Rattle.pg_bench_grammar.specs.declared.bench_fault.BenchFault.{BenchFault}
use Rattle.pg_bench_grammar.specs.declared.bench_fault.BenchFault.TheVariants.{File, Refused, Reader, NotUtf8, TooLong, NotATrail, NotVerified, ParseError, Writer, Memory}

-- the exit status of a fault: 1 if the grammar isn't accepted, a certificate doesn't show that it is, or the text isn't the grammar's; 2 if something can't
-- be used; 3 if memory ran out
abbrev pub status_of : BenchFault → ℕ
status_of (File fault) = 2
status_of (Refused refused) = 1
status_of Reader = 2
status_of NotUtf8 = 2
status_of TooLong = 2
status_of NotATrail = 2
status_of (NotVerified verdict) = 1
status_of (ParseError error) = 1
status_of Writer = 2
status_of Memory = 3

-- the exit status of the verdict on a certificate
abbrev pub status_of_verdict : {T : Type 0} → Result T BenchFault → ℕ
status_of_verdict (Ok x) = 0
status_of_verdict (Err fault) = status_of fault

-- the bytes spell this grammar, which is accepted, the offer has what it names, and the table is its initial one
pub record IsLoaded (offer : Offer) (file : List ℕ) (loaded : AcceptedGrammar) : Type 0 where
  pub spelled : SpellsWithinLimits offer file loaded.checked.grammar
  pub fits : Fits offer loaded.checked.grammar
  pub accepted : IsChecked loaded.checked
  pub table_is : initial loaded.checked.grammar ≡ whole loaded.table

-- the status is that of a fault of the file, of a refused grammar, or of running out of memory
pub record IsRefusedWith (offer : Offer) (file : List ℕ) (status : ℕ) : Type 0 where
  pub fault : BenchFault
  pub status_is : status ≡ status_of fault
  pub grammar : IsGrammarRefusal fault
  pub of_file : IfFile (IsFaultOfFile offer file) fault
  pub findings : IfRefused (AreFindingsOf offer file) fault

-- the result of loading a grammar file before texts are read: the grammar if it is accepted, or the status of what refuses it
abbrev pub IsLoading : Offer → List ℕ → Result AcceptedGrammar ℕ → Type 0
IsLoading offer file (Ok loaded) = IsLoaded offer file loaded
IsLoading offer file (Err status) = IsRefusedWith offer file status
