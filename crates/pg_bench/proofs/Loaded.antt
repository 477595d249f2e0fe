-- What holds of a parse by a loaded grammar holds of the file that it was loaded from.
use Rattle.std.proofs.Common.{◌≡◌, ℕ, List, Bool, Option, Result, Ok, Err}
use Rattle.std.specs.Prelude.{IfErr}
use Rattle.pg_message.specs.declared.error.ParseError as message
use Rattle.pg_pred.specs.Offer.{Offer}
use Rattle.pg_grammar_value.specs.Grammar.{Grammar}
use Rattle.pg_file_making.specs.Spells.{SpellsWithinLimits}
use Rattle.pg_predict.specs.Checked.{GrammarWithSets, IsChecked}
use Rattle.pg_bench_grammar.specs.Files.{AreFindingsOf, IsFaultOfFile, SpellsSome}
use Rattle.pg_bench_grammar.specs.Faults.{IfFile, IfRefused, IfParseError, IsBeforeReading, IsFileFault}
use Rattle.pg_bench_grammar.specs.declared.bench_fault.BenchFault.{BenchFault}
use Rattle.pg_bench_grammar.specs.declared.bench_fault.BenchFault.TheVariants.{File, Refused, ParseError, Memory}
use Rattle.pg_bench.specs.declared.done.Done.{Done}
use Rattle.pg_bench.specs.Promise.{IsAccepted}
use Rattle.pg_bench.specs.Parsed.{IsParsed, IsParsedBy, IsPartlyWritten, IsPartlyParsedBy, IsErrorOf, IsErrorBy}

module _ (offer : Offer) (file : List ℕ) (checked : GrammarWithSets) (spelled : SpellsWithinLimits offer file checked.grammar) (is : IsChecked checked) where
  pub accepted_file : SpellsSome IsAccepted offer file
  accepted_file = (checked.grammar, spelled, record { faultless = is.faultless })

  pub parsed_file : (reader left : Option (List ℕ)) (with_trail : Bool) (writer held : Option (List ℕ)) (done : Done)
      → IsParsedBy checked.grammar reader left with_trail writer held done → IsParsed offer file reader left with_trail writer held done
  parsed_file reader left with_trail writer held done h =
      let read = h.parsed in
      record {
        forest = h.forest;
        trail = h.trail;
        parsed =
            record {
              grammar = checked.grammar;
              spelled = spelled;
              accepted = record { faultless = is.faultless };
              bytes = read.0;
              read = read.1;
              end = read.2;
              is = read.3;
            };
        written = h.written;
        read = h.read;
      }

  pub partly_file : (reader left : Option (List ℕ)) (with_trail : Bool) (writer held : Option (List ℕ))
      → IsPartlyParsedBy checked.grammar reader left with_trail writer held → IsPartlyWritten offer file reader left with_trail writer held
  partly_file reader left with_trail writer held h =
      let read = h.parsed in
      record {
        forest = h.forest;
        trail = h.trail;
        done = h.done;
        parsed =
            record {
              grammar = checked.grammar;
              spelled = spelled;
              accepted = record { faultless = is.faultless };
              bytes = read.0;
              read = read.1;
              end = read.2;
              is = read.3;
            };
        written = h.written;
      }

  pub error_of_file : (reader left : Option (List ℕ)) (fault : BenchFault) → IfParseError (IsErrorBy checked.grammar reader left) fault
      → IfParseError (IsErrorOf offer file reader left) fault
  error_of_file reader left (ParseError error) h =
      record {
        grammar = checked.grammar;
        spelled = spelled;
        accepted = record { faultless = is.faultless };
        bytes = h.0;
        read = h.1;
        end = h.2;
        is = h.3;
      }
  error_of_file reader left _ h = tt

-- ---- what isn't a fault of the file or of its grammar

pub no_file_fault : (offer : Offer) (file : List ℕ) (fault : BenchFault) → IfFile (λ told. ⊥) fault → IfFile (IsFaultOfFile offer file) fault
no_file_fault offer file (File told) h = absurd h
no_file_fault offer file _ h = tt

pub no_findings : (offer : Offer) (file : List ℕ) (fault : BenchFault) → IfRefused (λ findings. ⊥) fault → IfRefused (AreFindingsOf offer file) fault
no_findings offer file (Refused refused) h = absurd h
no_findings offer file _ h = tt

-- it comes once the reader is asked
pub is_read : {T : Type 0} (Claim : Type 0) (r : Result T BenchFault) → IfErr r (IfFile (λ told. ⊥)) → IfErr r (IfRefused (λ findings. ⊥))
    → IfErr r (λ fault. IsBeforeReading fault → Claim)
is_read Claim (Ok x) file findings = tt
is_read Claim (Err fault) file findings = own fault file findings
  where
    own : (f : BenchFault) → IfFile (λ told. ⊥) f → IfRefused (λ findings. ⊥) f → IsBeforeReading f → Claim
    own (File told) file findings before = absurd file
    own (Refused refused) file findings before = absurd findings
    own _ file findings before = absurd before

pub is_read_first : {T : Type 0} (Claim : Type 0) (r : Result T BenchFault) → IfErr r (IfFile (λ told. ⊥)) → IfErr r (λ fault. IsFileFault fault → Claim)
is_read_first Claim (Ok x) file = tt
is_read_first Claim (Err fault) file = own fault file
  where
    own : (f : BenchFault) → IfFile (λ told. ⊥) f → IsFileFault f → Claim
    own (File told) file first = absurd file
    own _ file first = absurd first

-- what holds anyway holds after every error
pub after_any : {T E : Type 0} {Q : E → Type 0} (r : Result T E) → ((e : E) → Q e) → IfErr r Q
after_any (Ok x) holds = tt
after_any (Err e) holds = holds e
