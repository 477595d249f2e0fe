-- The words for a fault, as bytes.
use Rattle.std.specs.Prelude.{ℕ, List, codes}
use Rattle.std.specs.String.{string_bytes}
use Rattle.pg_file.specs.Texts as file
use Rattle.pg_bench_grammar.specs.declared.bench_fault.BenchFault.{BenchFault}
use Rattle.pg_bench_grammar.specs.declared.bench_fault.BenchFault.TheVariants.{File, Refused, Reader, NotUtf8, TooLong, NotATrail, NotVerified, ParseError, Writer, Memory}

-- a fault without the file that it is about. Findings and parse errors have lines of their own; a word stands for them here
abbrev pub fault_text : BenchFault → List ℕ
fault_text (File fault) = file.fault_text fault
fault_text (Refused refused) = codes "not accepted"
fault_text Reader = codes "X1 cannot read"
fault_text NotUtf8 = codes "P1 not UTF-8"
fault_text TooLong = codes "P2 text too long"
fault_text NotATrail = codes "not a trail"
fault_text (NotVerified verdict) = string_bytes verdict
fault_text (ParseError error) = codes "no parse"
fault_text Writer = codes "W1 cannot write"
fault_text Memory = codes "out of memory"
