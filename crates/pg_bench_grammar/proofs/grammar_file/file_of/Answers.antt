use Rattle.std.proofs.Common.{◌≡◌, subst}
use Rattle.std.specs.Prelude.{IfErr}
use Rattle.pg_file.specs.declared.file_fault.FileError.{FileError}
use Rattle.pg_file.specs.declared.file_fault.FileError.TheVariants.{Fault, Memory}
use Rattle.pg_file.specs.declared.file_fault.FileFault.{FileFault}
use Rattle.pg_file.specs.Refusals.{IsRefusalOf}
use Rattle.pg_bench_grammar.proofs.grammar_file.file_of.Goals as goal

no_memory : (fault : FileFault) → Fault fault ≡ Memory → ⊥
no_memory fault is = absurd cc

pub returns-in-Err-Fault-clause-file : goal.returns-in-Err-Fault-clause-file
returns-in-Err-Fault-clause-file g c =
    let file = c.args.bytes.now in
    record {
      spells = record {
        none = λ grammar spelled.
            no_memory _ (subst (λ (e : FileError). e ≡ Memory) c.in-Err-Fault.field-0-is
            (subst (λ r. IfErr r (λ e. e ≡ Memory)) c.in-Err-Fault.is (c.read_file.ensures.refused grammar spelled)));
      };
      answered = subst (IsRefusalOf file) c.in-Err-Fault.field-0-is (subst (λ r. IfErr r (IsRefusalOf file)) c.in-Err-Fault.is c.read_file.ensures.err);
    }
