-- One line of the trace file: a header, or a row of numbers.
use Rattle.std.specs.Prelude.{ℕ, ◌+◌, ◌-◌, ◌^◌, Bool, true, false, ◌==◌, List, [], ◌∷◌, ℤ, codes, Result, Ok, Err, Some, None, is_some, unwrap_or, position, if◌then◌else◌}
use Rattle.std.specs.Prelude.{Option}
use Rattle.std.specs.Result.{result_err}
use Rattle.std.specs.List.{slice_split}
use Rattle.std.specs.Str.{bytes_eq}
use Rattle.decimal_text.specs.Blank.{trim}
use Rattle.decimal_text.specs.Number.{unsigned_within, signed_within}
use Rattle.decimal_text.specs.declared.number.NumberFault.{NumberFault}
use Rattle.decimal_text.specs.declared.number.NumberFault.TheVariants.{Misspelt}
use Rattle.trace_reader.specs.declared.row.Header.{Header}
use Rattle.trace_reader.specs.declared.row.Header.TheVariants.{Untimed, Timed}
use Rattle.trace_reader.specs.declared.row.Row.{Row}
use Rattle.trace_reader.specs.declared.fault.TraceFault.{TraceFault}
use Rattle.trace_reader.specs.declared.fault.TraceFault.TheVariants.{FieldCount, BadNumber, OutOfRange}

-- the header that a line is
abbrev pub header_of : List ℕ → Option Header
header_of text =
    if bytes_eq text (codes "trace,x,y") then Some Untimed
    else if bytes_eq text (codes "trace,x,y,time") then Some Timed
    else None

-- what a line has between its commas
abbrev pub fields_of : List ℕ → List (List ℕ)
fields_of text = slice_split (λ c. c == 44) text

-- an id or a time in seconds
abbrev pub u32_of : List ℕ → Result ℕ NumberFault
u32_of field = unsigned_within (2 ^ 32 - 1) (trim field)

-- under the header without times every time is 0
abbrev pub time_of : Option (List ℕ) → Result ℕ NumberFault
time_of None = Ok 0
time_of (Some field) = u32_of field

-- in centimetres
abbrev pub coordinate_of : List ℕ → Result ℤ NumberFault
coordinate_of field = signed_within 1_000_000_000 (trim field)

abbrev pub is_misspelt : Option NumberFault → Bool
is_misspelt (Some Misspelt) = true
is_misspelt fault = false

-- the first misspelt field decides, and where none is the first that is out of range
abbrev pub fault_at : ℕ → Option ℕ → Option ℕ → TraceFault
fault_at line (Some misspelt) faulty = BadNumber line (misspelt + 1)
fault_at line None faulty = OutOfRange line (unwrap_or faulty 0 + 1)

abbrev pub row_fault : ℕ → List (Option NumberFault) → TraceFault
row_fault line faults = fault_at line (position is_misspelt faults) (position is_some faults)

abbrev pub numbers_of : ℕ → Result ℕ NumberFault → Result ℤ NumberFault → Result ℤ NumberFault
    → Result ℕ NumberFault → Result Row TraceFault
numbers_of line (Ok id) (Ok x) (Ok y) (Ok time) =
    Ok (record { id = id; fix = record { x = x; y = y; time = time } })
numbers_of line id x y time =
    Err (row_fault line (result_err id ∷ result_err x ∷ result_err y ∷ result_err time ∷ []))

-- the row of these fields, in a line of this number
unfoldable pub row_of : Header → ℕ → List (List ℕ) → Result Row TraceFault
row_of Untimed line (id ∷ x ∷ y ∷ []) =
    numbers_of line (u32_of id) (coordinate_of x) (coordinate_of y) (time_of None)
row_of Timed line (id ∷ x ∷ y ∷ time ∷ []) =
    numbers_of line (u32_of id) (coordinate_of x) (coordinate_of y) (time_of (Some time))
row_of header line fields = Err (FieldCount line)
