-- The labels of the reasons why an operator isn't admitted.
use Rattle.std.specs.Prelude.{ℕ, List, codes}
use Rattle.pg_table.specs.declared.admit_fault.AdmitFault.{AdmitFault}
use Rattle.pg_table.specs.declared.admit_fault.AdmitFault.TheVariants.{SymbolTooLong, SymbolReserved, PrefixThere, SymbolThere, TableFull}

abbrev pub fault_label : AdmitFault → List ℕ
fault_label SymbolTooLong = codes "A1"
fault_label SymbolReserved = codes "A2"
fault_label PrefixThere = codes "A3"
fault_label SymbolThere = codes "A4"
fault_label TableFull = codes "A5"
