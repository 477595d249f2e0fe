-- The report of a fault, as bytes.
use Rattle.std.specs.Prelude.{ℕ, List, [], ◌++◌, codes}
use Rattle.pg_message.specs.Printed.{printed}
use Rattle.pg_predict.specs.Findings.{lines_of}
use Rattle.pg_report.specs.declared.reporting.Names.{Names}
use Rattle.pg_bench_grammar.specs.Texts.{fault_text}
use Rattle.pg_bench_grammar.specs.declared.bench_fault.BenchFault.{BenchFault}
use Rattle.pg_bench_grammar.specs.declared.bench_fault.BenchFault.TheVariants.{File, Refused, Reader, NotUtf8, TooLong, NotATrail, NotVerified, ParseError, Writer, Memory}

-- the names of the files of a run, as bytes
pub record FileNames : Type 0 where
  pub grammar : List ℕ
  pub text : List ℕ
  pub trail : List ℕ

-- the names of the files of a run, as bytes
abbrev pub names_of : Names → FileNames
names_of names = record { grammar = names.grammar.now; text = names.text.now; trail = names.trail.now }

-- the beginning of a fault's line: the name of the file that it is about, or nothing
abbrev pub front_of : BenchFault → FileNames → List ℕ
front_of (File fault) names = names.grammar ++ codes ":"
front_of (Refused refused) names = names.grammar ++ codes ": "
front_of Reader names = names.text ++ codes ": "
front_of NotUtf8 names = names.text ++ codes ": "
front_of TooLong names = names.text ++ codes ": "
front_of NotATrail names = names.trail ++ codes ": "
front_of (NotVerified verdict) names = []
front_of (ParseError error) names = names.text ++ codes ": "
front_of Writer names = []
front_of Memory names = []

-- the line of a fault in a run over files with these names
abbrev pub line_of : BenchFault → FileNames → List ℕ
line_of fault names = front_of fault names ++ fault_text fault ++ codes "\n"

-- the report of a fault that is made at once: an error as it is printed in a text with this name, or the line of any other fault
abbrev pub text_of : BenchFault → FileNames → List ℕ
text_of (File fault) names = line_of (File fault) names
text_of (Refused refused) names = line_of (Refused refused) names
text_of Reader names = line_of Reader names
text_of NotUtf8 names = line_of NotUtf8 names
text_of TooLong names = line_of TooLong names
text_of NotATrail names = line_of NotATrail names
text_of (NotVerified verdict) names = line_of (NotVerified verdict) names
text_of (ParseError error) names = printed error names.text
text_of Writer names = line_of Writer names
text_of Memory names = line_of Memory names

-- the report of a fault: a line for each finding of a refused grammar, an error as it is printed in a text with this name, or the line of any other fault
abbrev pub report_of : BenchFault → FileNames → List ℕ
report_of (File fault) names = line_of (File fault) names
report_of (Refused refused) names = lines_of refused.findings
report_of Reader names = line_of Reader names
report_of NotUtf8 names = line_of NotUtf8 names
report_of TooLong names = line_of TooLong names
report_of NotATrail names = line_of NotATrail names
report_of (NotVerified verdict) names = line_of (NotVerified verdict) names
report_of (ParseError error) names = printed error names.text
report_of Writer names = line_of Writer names
report_of Memory names = line_of Memory names
