-- The candidates of a point: the edges near it, nearest first.
use Rattle.std.specs.Prelude.{ℕ, ◌*◌, ◌==◌, ◌&&◌, ◌||◌, Bool, nat_le, nat_lt, if◌then◌else◌, List, [], ◌∷◌, map, take, length}
use Rattle.std.specs.List.{filter, range_with_len}
use Rattle.polyline_geometry.specs.declared.plane.Point.{Point}
use Rattle.polyline_geometry.specs.declared.plane.Snap.{Snap}
use Rattle.polyline_geometry.specs.Plane.{snap_line}
use Rattle.road_network.specs.declared.Candidate.{Candidate}
use Rattle.road_network.specs.Net.{Net, edge_line}

-- an edge with a snap
abbrev pub candidate : ℕ → Snap → Candidate
candidate e snap = record { edge = record { 0 = e }; d2 = snap.d2; offset = snap.offset }

-- edge e with the snap of the point to it
abbrev pub candidate_at : Net → Point → ℕ → Candidate
candidate_at n p e = candidate e (snap_line (edge_line n e) p)

-- every edge with the snap of the point to it, by edge number
abbrev pub all_snaps : Net → Point → List Candidate
all_snaps n p = map (candidate_at n p) (range_with_len 0 (length n.edges))

-- the first comes before the second: it is nearer, or as near and earlier in the file
abbrev pub is_before : Candidate → Candidate → Bool
is_before c d = nat_lt c.d2 d.d2 || ((c.d2 == d.d2) && nat_lt c.edge.0 d.edge.0)

-- a candidate put at its place in a list that is in order
abbrev pub placed : Candidate → List Candidate → List Candidate
placed c [] = c ∷ []
placed c (d ∷ others) = if is_before c d then c ∷ d ∷ others else d ∷ placed c others

-- the same candidates in order
abbrev pub in_order : List Candidate → List Candidate
in_order [] = []
in_order (c ∷ others) = placed c (in_order others)

-- those within the radius
abbrev pub within : ℕ → List Candidate → List Candidate
within radius snaps = filter (λ c. nat_le c.d2 (radius * radius)) snaps

-- the first k of the edges within the radius, by distance and then by edge number
abbrev pub candidates : Net → ℕ → ℕ → Point → List Candidate
candidates n k radius p = take k (in_order (within radius (all_snaps n p)))
