-- The lines with which a table file is refused.
use Rattle.std.specs.Prelude.{◌≢◌, ℕ, List}
use Rattle.table_work.specs.declared.fault.TableFault.TheVariants.{Memory}
use Rattle.table_work.specs.Preload.{table_fault_line, wrong_row_line}
use Rattle.table_work.specs.declared.preloading.TableFileFault.{TableFileFault}
use Rattle.table_work.specs.declared.preloading.TableFileFault.TheVariants.{Text, WrongRow}

-- want of memory has no line
abbrev pub has_table_file_fault_line : TableFileFault → Type 0
has_table_file_fault_line (Text fault) = fault ≢ Memory
has_table_file_fault_line (WrongRow id) = Unit {0}

abbrev pub table_file_fault_line : TableFileFault → List ℕ
table_file_fault_line (Text fault) = table_fault_line fault
table_file_fault_line (WrongRow id) = wrong_row_line id
