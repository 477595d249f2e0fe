-- What showing a text returns and fails with, step by step.
use Rattle.std.proofs.Common.{ℕ, List, Bool, Option, refl, subst}
use Rattle.std.specs.Io.KnownBytes.{Consumes, IsAtEnd}
use Rattle.pg_tree.specs.Meter.{Metered}
use Rattle.pg_pred.specs.Offer.{Offer}
use Rattle.pg_grammar_value.specs.Grammar.{Grammar}
use Rattle.pg_file_making.specs.Spells.{SpellsWithinLimits}
use Rattle.pg_bench_grammar.specs.Files.{IsFaultOfFile, SpellsAny}
use Rattle.pg_bench_grammar.specs.Faults.{IsFileRefusal, IfFile}
use Rattle.pg_bench_grammar.specs.declared.bench_fault.BenchFault.{BenchFault}
use Rattle.pg_bench_grammar.specs.declared.bench_fault.BenchFault.TheVariants.{File, Reader, NotUtf8, TooLong, NotATrail, Memory}
use Rattle.pg_bench.specs.Parsed.{IsSpelledBy, ReadsText}
use Rattle.pg_bench.specs.Showing.{IsShownBy, IsShownOf, IsWrittenBy, IsWrittenTo, IsPartlyWrittenBy, IsPartlyWrittenTo}
use Rattle.pg_bench.specs.Refusals.{IsWell, IsReadRefusal, IsTextRefusal, IsShowRefusal, IsBytesRefusal, IsShowFault, IsShownRefusal}

-- ---- the text that bytes spell

pub shown_bytes : (Shows : List ℕ → Bool → List ℕ → Type 0) (bytes text : List ℕ) (accepted : Bool) (said : List ℕ) → IsSpelledBy bytes text
    → Shows text accepted said → IsShownOf Shows bytes accepted said
shown_bytes Shows bytes text accepted said spelled h =
    record { utf8 = spelled.utf8; within = spelled.within; shows = subst (λ (t : List ℕ). Shows t accepted said) spelled.same h }

pub text_unshown : (NoTrail : Type 0) (bytes : List ℕ) (fault : BenchFault) → IsTextRefusal bytes fault → IsBytesRefusal NoTrail bytes fault
text_unshown NoTrail bytes NotUtf8 h = h
text_unshown NoTrail bytes TooLong h = h
text_unshown NoTrail bytes Memory h = tt
text_unshown NoTrail bytes _ h = absurd h

pub show_unshown : (NoTrail : Type 0) (bytes : List ℕ) (fault : BenchFault) → IsShowRefusal NoTrail fault → IsBytesRefusal NoTrail bytes fault
show_unshown NoTrail bytes NotATrail h = h
show_unshown NoTrail bytes Memory h = tt
show_unshown NoTrail bytes _ h = absurd h

-- ---- what a reader gives

pub read_unshown : {R : Type 0} (NoTrail : Type 0) (before after : Metered R) (reader left : Option (List ℕ)) (fault : BenchFault)
    → IsReadRefusal before after fault → IsShowFault NoTrail before after reader left fault
read_unshown NoTrail before after reader left Reader h = h
read_unshown NoTrail before after reader left Memory h = tt
read_unshown NoTrail before after reader left _ h = absurd h

pub bytes_unshown : {R : Type 0} (NoTrail : Type 0) (before after : Metered R) (reader left : Option (List ℕ)) (bytes : List ℕ) (fault : BenchFault)
    → Consumes reader left bytes → IsAtEnd left → IsWell before after → IsBytesRefusal NoTrail bytes fault → IsShowFault NoTrail before after reader left fault
bytes_unshown NoTrail before after reader left bytes NotUtf8 read end well h = (well, (bytes, read, end, h))
bytes_unshown NoTrail before after reader left bytes TooLong read end well h = (well, (bytes, read, end, h))
bytes_unshown NoTrail before after reader left bytes NotATrail read end well h = (well, h)
bytes_unshown NoTrail before after reader left bytes Memory read end well h = tt
bytes_unshown NoTrail before after reader left bytes _ read end well h = absurd h

-- ---- with the grammar that a file spells

-- the faults of the grammar
pub file_refused : {R : Type 0} (NoTrail : Type 0) (offer : Offer) (file : List ℕ) (before : Metered R) (reader left : Option (List ℕ)) (fault : BenchFault)
    → IsFileRefusal fault → IfFile (IsFaultOfFile offer file) fault → IsShownRefusal NoTrail offer file before before reader left fault
file_refused NoTrail offer file before reader left (File fault) h is = (is, refl)
file_refused NoTrail offer file before reader left Memory h is = tt
file_refused NoTrail offer file before reader left _ h is = absurd h

-- the faults of a text
pub show_refused : {R : Type 0} (NoTrail : Type 0) (offer : Offer) (file : List ℕ) (before after : Metered R) (reader left : Option (List ℕ)) (g : Grammar)
    (fault : BenchFault) → SpellsWithinLimits offer file g → IsShowFault NoTrail before after reader left fault
    → IsShownRefusal NoTrail offer file before after reader left fault
show_refused NoTrail offer file before after reader left g Reader spelled h = ((g, spelled, tt), h)
show_refused NoTrail offer file before after reader left g NotUtf8 spelled h = ((g, spelled, tt), h.0, h.1)
show_refused NoTrail offer file before after reader left g TooLong spelled h = ((g, spelled, tt), h.0, h.1)
show_refused NoTrail offer file before after reader left g NotATrail spelled h = ((g, spelled, tt), h.0, h.1)
show_refused NoTrail offer file before after reader left g Memory spelled h = tt
show_refused NoTrail offer file before after reader left g _ spelled h = absurd h

-- and what is shown of a text
pub shown_file : (Shows : Grammar → List ℕ → Bool → List ℕ → Type 0) (offer : Offer) (file : List ℕ) (reader left : Option (List ℕ)) (g : Grammar)
    (accepted : Bool) (said : List ℕ) → SpellsWithinLimits offer file g
    → ReadsText reader left (λ bytes. IsShownOf (Shows g) bytes accepted said) → IsShownBy Shows offer file reader left accepted said
shown_file Shows offer file reader left g accepted said spelled h =
    record { grammar = g; spelled = spelled; bytes = h.0; read = h.1; end = h.2; shown = h.3 }

-- ---- what is written of a text by a grammar is written by the file that spells it

module _ (Shows : Grammar → List ℕ → Bool → List ℕ → Type 0) (offer : Offer) (file : List ℕ) (g : Grammar) (spelled : SpellsWithinLimits offer file g)
    (reader left writer held : Option (List ℕ)) where
  pub written_file : (accepted : Bool) → IsWrittenTo (Shows g) reader left writer held accepted → IsWrittenBy Shows offer file reader left writer held accepted
  written_file accepted h =
      record { said = h.said; shown = shown_file Shows offer file reader left g accepted h.said spelled h.shown; written = h.written }

  pub partly_written_file : IsPartlyWrittenTo (Shows g) reader left writer held → IsPartlyWrittenBy Shows offer file reader left writer held
  partly_written_file h =
      record {
        accepted = h.accepted;
        said = h.said;
        shown = shown_file Shows offer file reader left g h.accepted h.said spelled h.shown;
        written = h.written;
      }

pub spelled_file : (offer : Offer) (file : List ℕ) (g : Grammar) → SpellsWithinLimits offer file g → SpellsAny offer file
spelled_file offer file g spelled = (g, spelled, tt)
