-- What refuses a grammar, in terms of the file that spells it.
use Rattle.std.proofs.Common.{List, ℕ}
use Rattle.pg_pred.specs.Offer.{Offer}
use Rattle.pg_grammar_value.specs.Grammar.{Grammar}
use Rattle.pg_file_making.specs.Spells.{SpellsWithinLimits}
use Rattle.pg_bench_grammar.specs.Files.{IsFaultOfFile, AreFindingsOf}
use Rattle.pg_bench_grammar.specs.Faults.{IsFindingRefusal, IfFile, IfRefused}
use Rattle.pg_bench_grammar.specs.declared.bench_fault.BenchFault.{BenchFault}
use Rattle.pg_bench_grammar.specs.declared.bench_fault.BenchFault.TheVariants.{File, Refused}

-- findings of a grammar that the file spells are the file's
pub refused_file : (offer : Offer) (file : List ℕ) (g : Grammar) (fault : BenchFault) → SpellsWithinLimits offer file g
    → IsFindingRefusal g fault → IfRefused (AreFindingsOf offer file) fault
refused_file offer file g (Refused refused) spelled h =
    record { grammar = g; spelled = spelled; all = h.0; some = h.1 }
refused_file offer file g _ spelled h = tt

-- and no finding is a fault of the file
pub refused_later : (offer : Offer) (file : List ℕ) (g : Grammar) (fault : BenchFault) → IsFindingRefusal g fault → IfFile (IsFaultOfFile offer file) fault
refused_later offer file g (File fault) h = absurd h
refused_later offer file g _ h = tt
