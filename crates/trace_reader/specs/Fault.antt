-- The line that says why a trace file is refused: where it is refused, and what is wrong there.
use Rattle.std.specs.Prelude.{ℕ, List, ◌++◌, codes, decimal}
use Rattle.trace_reader.specs.declared.fault.Place.{Place}
use Rattle.trace_reader.specs.declared.fault.Place.TheVariants.{File, Line, Field}
use Rattle.trace_reader.specs.declared.fault.TraceFault.{TraceFault}
use Rattle.trace_reader.specs.declared.fault.TraceFault.TheVariants.{BadHeader, FieldCount, BadNumber, OutOfRange, TraceTooLong, LineTooLong, FileTooLong, Memory}

abbrev pub place_of : TraceFault → Place
place_of BadHeader = File
place_of (FieldCount line) = Line line
place_of (BadNumber line field) = Field line field
place_of (OutOfRange line field) = Field line field
place_of (TraceTooLong line) = Line line
place_of (LineTooLong line) = Line line
place_of FileTooLong = File
place_of Memory = File

abbrev pub what_of : TraceFault → List ℕ
what_of BadHeader = codes "bad header"
what_of (FieldCount line) = codes "wrong number of fields"
what_of (BadNumber line field) = codes "bad number"
what_of (OutOfRange line field) = codes "out of range"
what_of (TraceTooLong line) = codes "trace too long"
what_of (LineTooLong line) = codes "line too long"
what_of FileTooLong = codes "file too long"
what_of Memory = codes "out of memory"

abbrev pub place_text : Place → List ℕ
place_text File = codes "traces"
place_text (Line line) = codes "traces line " ++ decimal line
place_text (Field line field) = codes "traces line " ++ decimal line ++ codes " field " ++ decimal field

abbrev pub fault_line : TraceFault → List ℕ
fault_line fault = place_text (place_of fault) ++ codes ": " ++ what_of fault ++ codes "\n"
