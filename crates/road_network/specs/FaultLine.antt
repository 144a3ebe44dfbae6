-- The line that says a fault.
use Rattle.std.specs.Prelude.{ℕ, List, [], ◌∷◌, ◌++◌, codes}
use Rattle.decimal_text.specs.Number.{decimal}
use Rattle.road_network.specs.declared.fault.NetworkFault.{NetworkFault}
use Rattle.road_network.specs.declared.fault.NetworkFault.TheVariants as fault

-- what is said of a record, and then of a field or a point of it
abbrev pub record_line : ℕ → List ℕ → List ℕ
record_line rec rest = codes "network record " ++ decimal rec ++ rest

-- the line of a fault, without its LF; want of memory has none
abbrev pub fault_text : NetworkFault → List ℕ
fault_text fault.BadHeader = codes "network: bad header"
fault_text (fault.FieldCount rec) = record_line rec (codes ": wrong number of fields")
fault_text (fault.BadNumber rec field) =
    record_line rec (codes " field " ++ decimal field ++ codes ": bad number")
fault_text (fault.OutOfRange rec field) =
    record_line rec (codes " field " ++ decimal field ++ codes ": out of range")
fault_text (fault.DuplicateEdge rec) = record_line rec (codes ": edge id repeated")
fault_text (fault.ShortLine rec) = record_line rec (codes ": line too short")
fault_text (fault.RepeatedPoint rec place) =
    record_line rec (codes " point " ++ decimal place ++ codes ": point repeated")
fault_text (fault.EdgeTooLong rec) = record_line rec (codes ": edge too long")
fault_text (fault.TooManyEdges rec) = record_line rec (codes ": too many edges")
fault_text (fault.TooManyNodes rec) = record_line rec (codes ": too many nodes")
fault_text (fault.TooManyPoints rec) = record_line rec (codes ": too many points")
fault_text fault.FileTooLong = codes "network: file too long"
fault_text fault.Memory = []

-- the line of a fault with its LF
unfoldable pub fault_line : NetworkFault → List ℕ
fault_line e = fault_text e ++ 10 ∷ []
