-- What a network file says: its network, or its first fault.
use Rattle.std.specs.Ordering.{int_eq}
use Rattle.std.specs.Prelude.{ℕ, ◌+◌, ◌==◌, ◌&&◌, Bool, true, false, nat_eq, nat_lt, if◌then◌else◌, List, [], ◌∷◌, ◌++◌, length, Option, None, Some, option_map, Result, Ok, Err, codes, ℤ}
use lib.Pointwise.{pointwise}
use Rattle.std.specs.List.{list_any, position, position_or_len, before_first, after_first, slice_split}
use Rattle.std.specs.Result.{result_unwrap_or, result_err}
use Rattle.csv.specs.Reading.{records, default_config, strip_bom}
use Rattle.decimal_text.specs.declared.number.NumberFault.{NumberFault}
use Rattle.decimal_text.specs.declared.number.NumberFault.TheVariants.{Misspelt, OutOfRange}
use Rattle.decimal_text.specs.Blank.{is_blank, trim}
use Rattle.decimal_text.specs.Number.{unsigned_within, signed_within}
use Rattle.polyline_geometry.specs.declared.plane.Point.{Point}
use Rattle.polyline_geometry.specs.Plane.{line_length}
use Rattle.road_network.specs.declared.fault.NetworkFault.{NetworkFault}
use Rattle.road_network.specs.declared.fault.NetworkFault.TheVariants as fault
use Rattle.road_network.specs.declared.limits.NetworkLimits.{NetworkLimits}
use Rattle.road_network.specs.Limits.{coordinate_limit, edge_limit, file_limit, length_limit, line_point_limit, node_limit, point_limit}
use Rattle.road_network.specs.Net.{Edge, Net, point_count}

-- The fields of a record

-- two readings together; a misspelling of either comes before a value out of range of the other
abbrev pub both : {A B C : Type 0} → (A → B → C) → Result A NumberFault → Result B NumberFault
    → Result C NumberFault
both f (Ok a) (Ok b) = Ok (f a b)
both f (Ok a) (Err e) = Err e
both f (Err Misspelt) b = Err Misspelt
both f (Err OutOfRange) (Err e) = Err e
both f (Err OutOfRange) (Ok b) = Err OutOfRange

abbrev pub make_point : ℤ → ℤ → Point
make_point x y = record { x = x; y = y }

-- one part of a line: two coordinates with spaces or tabs between them, and any at its ends
abbrev pub point_of : List ℕ → Result Point NumberFault
point_of part =
    let text : List ℕ = trim part in
    both make_point
    (signed_within coordinate_limit (before_first is_blank text))
    (signed_within coordinate_limit (trim (after_first is_blank text)))

-- the points of the parts of a line
abbrev pub points_of : List (List ℕ) → Result (List Point) NumberFault
points_of [] = Ok []
points_of (part ∷ parts) = both (λ p line. p ∷ line) (point_of part) (points_of parts)

-- a line: its parts are separated by semicolons
unfoldable pub line_of : List ℕ → Result (List Point) NumberFault
line_of field = points_of (slice_split (λ c. c == 59) field)

-- the first of some faults that may be there
abbrev pub first_fault : List (Option NetworkFault) → Option NetworkFault
first_fault [] = None
first_fault (None ∷ faults) = first_fault faults
first_fault (Some e ∷ faults) = Some e

-- a value, unless a fault is there
abbrev pub unless : {A E : Type 0} → Option E → A → Result A E
unless None value = Ok value
unless (Some e) value = Err e

-- a fault, where it is there
abbrev pub when : Bool → NetworkFault → Option NetworkFault
when b e = if b then Some e else None

-- a reading has this fault
abbrev pub is_fault : NumberFault → Option NumberFault → Bool
is_fault kind None = false
is_fault Misspelt (Some Misspelt) = true
is_fault Misspelt (Some OutOfRange) = false
is_fault OutOfRange (Some Misspelt) = false
is_fault OutOfRange (Some OutOfRange) = true

-- the number, from 1, of the first field whose reading has this fault
abbrev pub field_with : NumberFault → List (Option NumberFault) → Option ℕ
field_with kind readings = option_map (λ i. i + 1) (position (is_fault kind) readings)

-- the faults of the fields of record number rec: every misspelling comes before every value out of range
abbrev pub field_faults : ℕ → List (Option NumberFault) → List (Option NetworkFault)
field_faults rec readings =
    option_map (λ i. fault.BadNumber rec i) (field_with Misspelt readings)
    ∷ option_map (λ i. fault.OutOfRange rec i) (field_with OutOfRange readings)
    ∷ []

-- what the four fields of a record say
pub record Row : Type 0 where
  pub name : ℕ
  pub «from» : ℕ
  pub to : ℕ
  pub line : List Point

-- the row that four readings make in record number rec
abbrev pub row_from : ℕ → Result ℕ NumberFault → Result ℕ NumberFault → Result ℕ NumberFault
    → Result (List Point) NumberFault → Result Row NetworkFault
row_from rec name start end line =
    unless (first_fault (field_faults rec
    (result_err name ∷ result_err start ∷ result_err end ∷ result_err line ∷ [])))
    (record {
      name = result_unwrap_or name 0;
      «from» = result_unwrap_or start 0;
      to = result_unwrap_or end 0;
      line = result_unwrap_or line [];
    })

-- the row of record number rec with these fields: an edge's name, the names of its two nodes,
-- and its line
unfoldable pub row_of : ℕ → List (List ℕ) → Result Row NetworkFault
row_of rec (name ∷ start ∷ end ∷ line ∷ []) =
    row_from rec
    (unsigned_within 4_294_967_295 name)
    (unsigned_within 18_446_744_073_709_551_615 start)
    (unsigned_within 18_446_744_073_709_551_615 end)
    (line_of line)
row_of rec fields = Err (fault.FieldCount rec)

-- The records of a file

-- the place of a node among the names of the nodes, and these names after a mention of the node: a
-- new one goes last
abbrev pub place_of : List ℕ → ℕ → ℕ
place_of nodes name = position_or_len (nat_eq name) nodes

abbrev pub with_node : List ℕ → ℕ → List ℕ
with_node nodes name = if list_any (nat_eq name) nodes then nodes else nodes ++ name ∷ []

-- the names of the nodes after a row: its from node is mentioned before its to node
abbrev pub nodes_with : List ℕ → Row → List ℕ
nodes_with nodes r = with_node (with_node nodes r.«from») r.to

-- the edge of a row
abbrev pub edge_with : List ℕ → Row → Edge
edge_with nodes r = record
    { name = r.name; «from» = place_of nodes r.«from»; to = place_of nodes r.to; line = r.line }

-- the network with the edge of one more row
abbrev pub with_row : Net → Row → Net
with_row n r = record {
  nodes = nodes_with n.nodes r;
  edges = n.edges ++ edge_with (nodes_with n.nodes r) r ∷ [];
}

-- two points are one
abbrev pub is_same : Point → Point → Bool
is_same a b = int_eq a.x b.x && int_eq a.y b.y

-- the place, from 1, of the first of these points that equals the one before it, if a is before them at place i
abbrev pub repeated_after : ℕ → Point → List Point → Option ℕ
repeated_after i a [] = None
repeated_after i a (b ∷ line) = if is_same b a then Some (i + 1) else repeated_after (i + 1) b line

-- the place, from 1, of the first point of a line that equals the one before it
abbrev pub repeated_point : List Point → Option ℕ
repeated_point [] = None
repeated_point (a ∷ line) = repeated_after 1 a line

-- the faults of the line of record number rec
abbrev pub line_faults : ℕ → List Point → List (Option NetworkFault)
line_faults rec line =
    when (nat_lt (length line) 2) (fault.ShortLine rec)
    ∷ option_map (λ place. fault.RepeatedPoint rec place) (repeated_point line)
    ∷ when (nat_lt length_limit (line_length line)) (fault.EdgeTooLong rec)
    ∷ []

-- the limits that a network with these numbers of edges, nodes and points of all lines has passed with record
-- number rec, whose line has the last number of points
abbrev pub limit_faults : NetworkLimits → ℕ → ℕ → ℕ → ℕ → ℕ → List (Option NetworkFault)
limit_faults limits rec edges nodes points line =
    when (nat_lt (edge_limit limits) edges) (fault.TooManyEdges rec)
    ∷ when (nat_lt (node_limit limits) nodes) (fault.TooManyNodes rec)
    ∷ when (nat_lt (point_limit limits) points) (fault.TooManyPoints rec)
    ∷ when (nat_lt line_point_limit line) (fault.TooManyPoints rec)
    ∷ []

-- an earlier edge of the network has this name
abbrev pub has_name : Net → ℕ → Bool
has_name n name = list_any (λ e. name == e.name) n.edges

-- the faults that a network shows with one more row, which is record number rec
abbrev pub row_faults : NetworkLimits → Net → ℕ → Row → List (Option NetworkFault)
row_faults limits n rec r =
    when (has_name n r.name) (fault.DuplicateEdge rec)
    ∷ line_faults rec r.line
    ++ limit_faults limits rec (length (with_row n r).edges) (length (with_row n r).nodes)
    (point_count (with_row n r).edges) (length r.line)

-- the network with one more row, which is the next record; records are numbered from 1
unfoldable pub add_row : NetworkLimits → Net → Row → Result Net NetworkFault
add_row limits n r =
    unless (first_fault (row_faults limits n (length n.edges + 1) r)) (with_row n r)

-- what follows from a reading that succeeded
abbrev pub next : {A B : Type 0} → Result A NetworkFault → (A → Result B NetworkFault)
    → Result B NetworkFault
next (Ok a) f = f a
next (Err e) f = Err e

-- the network with one more record
unfoldable pub add_record : NetworkLimits → Net → List (List ℕ) → Result Net NetworkFault
add_record limits n fields = next (row_of (length n.edges + 1) fields) (add_row limits n)

-- the network with all these records, or the fault of the first faulty one
unfoldable pub add_records : NetworkLimits → Net → List (List (List ℕ)) → Result Net NetworkFault
add_records limits n [] = Ok n
add_records limits n (fields ∷ records) =
    next (add_record limits n fields) (λ m. add_records limits m records)

abbrev pub no_net : Net
no_net = record { nodes = []; edges = [] }

abbrev pub header : List (List ℕ)
header = codes "edge" ∷ codes "from" ∷ codes "to" ∷ codes "line" ∷ []

abbrev pub is_header : List (List ℕ) → Bool
is_header names = pointwise (pointwise nat_eq) names header

-- the network of a file with these records, the first of which is the header
unfoldable pub network_of_records : NetworkLimits → List (List (List ℕ)) → Result Net NetworkFault
network_of_records limits [] = Err fault.BadHeader
network_of_records limits (names ∷ records) =
    if is_header names then add_records limits no_net records else Err fault.BadHeader

-- the network of a file, or its first fault; the records are those that csv defines,
-- with nothing trimmed
unfoldable pub network_of : NetworkLimits → List ℕ → Result Net NetworkFault
network_of limits bytes =
    if nat_lt (file_limit limits) (length bytes) then Err fault.FileTooLong
    else network_of_records limits (records default_config (strip_bom bytes))
