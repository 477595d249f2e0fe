-- The faults of a run: the order in which they are judged, and which of them the steps that read no text can fail with.
use Rattle.std.specs.Prelude.{◌<◌, ℕ, List, length, Bool, true, false, ◌&&◌, nat_le}
use Rattle.std.specs.String.{string_bytes}
use Rattle.pg_message.specs.declared.error.ParseError as message
use Rattle.pg_file.specs.declared.file_fault.FileFault.{FileFault}
use Rattle.pg_grammar_value.specs.Grammar.{Grammar}
use Rattle.pg_predict.specs.Findings.{Finding, AreFindings}
use Rattle.pg_bench_grammar.specs.declared.bench_fault.BenchFault.{BenchFault}
use Rattle.pg_bench_grammar.specs.declared.bench_fault.BenchFault.TheVariants.{File, Refused, Reader, NotUtf8, TooLong, NotATrail, NotVerified, ParseError, Writer, Memory}

-- ---- the order

-- the step that judges a fault, counting from 1; memory may run out at each step
abbrev pub step_of : BenchFault → ℕ
step_of Memory = 0
step_of (File fault) = 1
step_of (Refused refused) = 2
step_of Reader = 3
step_of NotUtf8 = 4
step_of TooLong = 5
step_of NotATrail = 6
step_of (NotVerified verdict) = 7
step_of (ParseError error) = 8
step_of Writer = 9

abbrev pub IsSo : Bool → Type 0
IsSo true = Unit {0}
IsSo false = ⊥

-- a fault that is judged in the steps from `first` to `last`
abbrev pub IsOfSteps : ℕ → ℕ → BenchFault → Type 0
IsOfSteps first last fault = IsSo (nat_le first (step_of fault) && nat_le (step_of fault) last)

-- a fault of the grammar file
abbrev pub IsFileFault : BenchFault → Type 0
IsFileFault = IsOfSteps 1 1

-- a fault that is judged once the grammar file has been read, except that its grammar is refused
abbrev pub IsAfterFile : BenchFault → Type 0
IsAfterFile = IsOfSteps 3 9

-- a fault that comes before the reader is first asked, other than running out of memory
abbrev pub IsBeforeReading : BenchFault → Type 0
IsBeforeReading = IsOfSteps 1 2

-- a fault that is judged once the text has been read
abbrev pub IsAfterReading : BenchFault → Type 0
IsAfterReading = IsOfSteps 4 9

-- a fault that comes before the first byte is written, or running out of memory
abbrev pub IsBeforeWriting : BenchFault → Type 0
IsBeforeWriting = IsOfSteps 0 8

-- ---- what is claimed of faults

-- a claim for each fault
pub record Claims : Type 1 where
  pub file : FileFault → Type 0
  pub refused : List Finding → Type 0
  pub reader : Type 0
  pub not_utf8 : Type 0
  pub too_long : Type 0
  pub not_a_trail : Type 0
  pub not_verified : List ℕ → Type 0
  pub parse_error : message.ParseError → Type 0
  pub writer : Type 0
  pub memory : Type 0

-- the claim about this fault
abbrev pub Claimed : Claims → BenchFault → Type 0
Claimed of (File fault) = of.file fault
Claimed of (Refused refused) = of.refused refused.findings
Claimed of Reader = of.reader
Claimed of NotUtf8 = of.not_utf8
Claimed of TooLong = of.too_long
Claimed of NotATrail = of.not_a_trail
Claimed of (NotVerified verdict) = of.not_verified (string_bytes verdict)
Claimed of (ParseError error) = of.parse_error error
Claimed of Writer = of.writer
Claimed of Memory = of.memory

-- no fault is possible except running out of memory
abbrev pub memory_alone : Claims
memory_alone =
    record {
      file = λ fault. ⊥;
      refused = λ findings. ⊥;
      reader = ⊥;
      not_utf8 = ⊥;
      too_long = ⊥;
      not_a_trail = ⊥;
      not_verified = λ verdict. ⊥;
      parse_error = λ error. ⊥;
      writer = ⊥;
      memory = Unit {0};
    }

-- every fault is possible
abbrev pub any_fault : Claims
any_fault =
    record {
      file = λ fault. Unit {0};
      refused = λ findings. Unit {0};
      reader = Unit {0};
      not_utf8 = Unit {0};
      too_long = Unit {0};
      not_a_trail = Unit {0};
      not_verified = λ verdict. Unit {0};
      parse_error = λ error. Unit {0};
      writer = Unit {0};
      memory = Unit {0};
    }

-- the claim about the fault of the file, if that is the fault
abbrev pub IfFile : (FileFault → Type 0) → BenchFault → Type 0
IfFile Claim = Claimed (record any_fault { file = Claim })

-- the claim about the findings, if the grammar is refused
abbrev pub IfRefused : (List Finding → Type 0) → BenchFault → Type 0
IfRefused Claim = Claimed (record any_fault { refused = Claim })

-- the claim about the error, if the text doesn't parse
abbrev pub IfParseError : (message.ParseError → Type 0) → BenchFault → Type 0
IfParseError Claim = Claimed (record any_fault { parse_error = Claim })

-- the claim if there is no trail
abbrev pub IfNotATrail : Type 0 → BenchFault → Type 0
IfNotATrail Claim = Claimed (record any_fault { not_a_trail = Claim })

-- the claim about what is printed, if a certificate doesn't show that the grammar is accepted
abbrev pub IfNotVerified : (List ℕ → Type 0) → BenchFault → Type 0
IfNotVerified Claim = Claimed (record any_fault { not_verified = Claim })

-- ---- the faults that each step can fail with

-- memory ran out
abbrev pub IsMemory : BenchFault → Type 0
IsMemory = Claimed memory_alone

-- writing fails only with this
abbrev pub IsWriteRefusal : BenchFault → Type 0
IsWriteRefusal = Claimed (record memory_alone { writer = Unit {0} })

-- reading the grammar file fails only with this
abbrev pub IsFileRefusal : BenchFault → Type 0
IsFileRefusal = Claimed (record memory_alone { file = λ fault. Unit {0} })

-- checking a grammar fails only with this, and for this reason
abbrev pub IsFindingRefusal : Grammar → BenchFault → Type 0
IsFindingRefusal g = Claimed (record memory_alone { refused = λ findings. AreFindings g findings × (0 < length findings) })

-- reading the file of an accepted grammar fails only with this
abbrev pub IsGrammarRefusal : BenchFault → Type 0
IsGrammarRefusal = Claimed (record memory_alone { file = λ fault. Unit {0}; refused = λ findings. Unit {0} })

-- checking or printing a grammar, or printing its sets, fails only with this
abbrev pub IsPageRefusal : BenchFault → Type 0
IsPageRefusal = Claimed (record memory_alone { file = λ fault. Unit {0}; writer = Unit {0} })

-- judging a certificate fails only with this
abbrev pub IsVerdictRefusal : BenchFault → Type 0
IsVerdictRefusal = Claimed (record memory_alone { not_verified = λ verdict. Unit {0} })

-- judging a certificate of a grammar file fails only with this
abbrev pub IsVerifyRefusal : BenchFault → Type 0
IsVerifyRefusal = Claimed (record memory_alone { file = λ fault. Unit {0}; not_verified = λ verdict. Unit {0} })
