-- The printed text of a fault of a grammar file, as bytes.
use Rattle.std.specs.Prelude.{ℕ, List, ◌++◌, codes}
use Rattle.std.specs.Fmt.{decimal}
use Rattle.pg_table.specs.FaultLabels.{fault_label}
use Rattle.pg_file.specs.declared.file_fault.FaultKind.{FaultKind}
use Rattle.pg_file.specs.declared.file_fault.FaultKind.TheVariants.{NotUtf8, BadToken, UnexpectedToken, UnknownName, NameTwice, NoStart, BadLiteral, LimitPassed, NotAdmitted}
use Rattle.pg_file.specs.declared.file_fault.FileFault.{FileFault}
use Rattle.pg_file.specs.declared.file_fault.FileError.{FileError}
use Rattle.pg_file.specs.declared.file_fault.FileError.TheVariants.{Fault, Memory}

-- a label for scripts, followed by words
abbrev pub kind_text : FaultKind → List ℕ
kind_text NotUtf8 = codes "F1 not UTF-8"
kind_text BadToken = codes "F2 bad token"
kind_text UnexpectedToken = codes "F3 unexpected token"
kind_text UnknownName = codes "F4 unknown name"
kind_text NameTwice = codes "F5 name defined twice"
kind_text NoStart = codes "F6 no start rule"
kind_text BadLiteral = codes "F7 bad literal"
kind_text LimitPassed = codes "F8 limit passed"
kind_text (NotAdmitted fault) = codes "F9 operator not admitted (" ++ fault_label fault ++ codes ")"

-- the line, the column and the kind
abbrev pub fault_text : FileFault → List ℕ
fault_text fault = decimal fault.position.line ++ codes ":" ++ decimal fault.position.column ++ codes ": " ++ kind_text fault.kind

-- the fault, or that memory ran out
abbrev pub error_text : FileError → List ℕ
error_text (Fault fault) = fault_text fault
error_text Memory = codes "out of memory"
