-- One more stored edge.
use Rattle.std.proofs.Common.{◌≡◌, ℕ, suc, ◌+◌, ◌-◌, ◌≤◌, ◌++◌, ◌||◌, Bool, true, false, not, List, [], ◌∷◌, refl, sym, ap, ◌∙◌, subst, arith, length, map, drop, get_or, All, length-append, length-drop}
use Rattle.std.proofs.lemmas.List.{map-append, take-append-le, drop-append-le}
use Rattle.std.proofs.Math.Seq.{drop-append_seam, take-length}
use Rattle.std.proofs.lemmas.List.Elements.{All-push, All-weaker}
use Rattle.std.proofs.lemmas.List.Sums.{sum_by-append}
use Rattle.std.specs.Prelude.{nat_eq, slice_range}
use Rattle.std.specs.List.{list_any}
use Rattle.polyline_geometry.specs.declared.plane.Point.{Point}
use Rattle.polyline_geometry.specs.Plane.{line_length}
use Rattle.polyline_geometry.specs.Offsets.{line_offsets}
use Rattle.polyline_geometry.proofs.OffsetLists.{length-line_offsets}
use Rattle.road_network.specs.declared.StoredEdge.{StoredEdge}
use Rattle.road_network.specs.declared.limits.NetworkLimits.{NetworkLimits}
use Rattle.road_network.specs.inside.EdgeNames.{names_of}
use Rattle.road_network.specs.inside.Drafted.{BelongTogether}
use Rattle.road_network.specs.Net.{Edge, Net, IsLawful, point_count}
use Rattle.road_network.specs.NetworkFile.{Row, edge_with, has_name, limit_faults, nodes_with, place_of, with_row}
use Rattle.road_network.specs.inside.Stored.{AreOffsets, IsStored, edge_of, net_of}
use Rattle.road_network.proofs.Growing.{IsFaultless, lawful-more, limits_with}

-- a part of a list stays when the list grows
range-kept : {X : Type 0} (points line : List X) (first end : ℕ) → first ≤ end → end ≤ length points → slice_range (points ++ line) first end ≡ slice_range points first end
range-kept points line first end le within =
    let inside : end - first ≤ length (drop first points) = omega (arith, length-drop first points) in
    rw (drop-append-le first points line (omega arith)) (take-append-le (end - first) (drop first points) line inside)

-- the new part is what was added
range-new : {X : Type 0} (points line : List X) → slice_range (points ++ line) (length points) (length points + length line) ≡ line
range-new points line =
    let count : length points + length line - length points ≡ length line = omega arith in
    rw (count, drop-append_seam points line) (take-length line)

stored-kept : (points line : List Point) (e : StoredEdge) → IsStored points e → IsStored (points ++ line) e
stored-kept points line e h = record {
  order = h.order;
  within = omega (arith, h.within, length-append points line);
  measured = h.measured ∙ ap line_length (sym (range-kept points line e.first e.end h.order h.within));
}

edges-kept : (points line : List Point) (edges : List StoredEdge) → All (IsStored points) edges → map (edge_of (points ++ line)) edges ≡ map (edge_of points) edges
edges-kept points line [] h = refl
edges-kept points line (e ∷ edges) h =
    let here : IsStored points e = h 0 e (omega arith) in
    let rest = edges-kept points line edges (λ k d lt. h (suc k) d (omega (arith, lt))) in
    rw (range-kept points line e.first e.end here.order here.within, rest) refl

-- the counts of a network with one more row
pub edges-more : (n : Net) (r : Row) → length (with_row n r).edges ≡ length n.edges + 1
edges-more n r = length-append n.edges (edge_with (nodes_with n.nodes r) r ∷ [])

pub points-more : (n : Net) (r : Row) → point_count (with_row n r).edges ≡ point_count n.edges + length r.line
points-more n r =
    let total = sum_by-append (λ (x : Edge). length x.line) n.edges (edge_with (nodes_with n.nodes r) r ∷ []) in
    omega (arith, total)

known : (points : List Point) (name : ℕ) (edges : List StoredEdge) → list_any (nat_eq name) (map (λ e. e.name) edges) ≡ list_any (λ (x : Edge). nat_eq name x.name) (map (edge_of points) edges)
known points name [] = refl
known points name (e ∷ edges) = ap (λ b. nat_eq name e.name || b) (known points name edges)

-- the names of the stored edges are those of the network's edges
pub name-known : (nodes : List ℕ) (edges : List StoredEdge) (points : List Point) (name : ℕ)
    → list_any (nat_eq name) (names_of edges) ≡ has_name (net_of nodes edges points) name
name-known nodes edges points name = known points name edges

pub names-more : (edges : List StoredEdge) (e : StoredEdge) (name : ℕ) → e.name ≡ name → names_of (edges ++ e ∷ []) ≡ names_of edges ++ name ∷ []
names-more edges e name h = rw (map-append (λ (x : StoredEdge). x.name) edges (e ∷ []), h) refl

-- the stored edge of a row
pub record IsStoredRow (nodes : List ℕ) (points : List Point) (r : Row) (e : StoredEdge) : Type 0 where
  pub name : e.name ≡ r.name
  pub start : e.from.0 ≡ place_of nodes r.«from»
  pub stop : e.to.0 ≡ place_of nodes r.to
  pub measured : e.length ≡ line_length r.line
  pub first : e.first ≡ length points
  pub end : e.end ≡ length points + length r.line

edge-new : (nodes : List ℕ) (points : List Point) (r : Row) (e : StoredEdge) → IsStoredRow nodes points r e → edge_of (points ++ r.line) e ≡ edge_with nodes r
edge-new nodes points r e h =
    rw (h.name, h.start, h.stop, h.first, h.end, range-new points r.line) refl

pub net-grown : (nodes : List ℕ) (edges : List StoredEdge) (points : List Point) (r : Row) (e : StoredEdge) → All (IsStored points) edges → IsStoredRow (nodes_with nodes r) points r e
    → net_of (nodes_with nodes r) (edges ++ e ∷ []) (points ++ r.line) ≡ with_row (net_of nodes edges points) r
net-grown nodes edges points r e stored h =
    rw (map-append (edge_of (points ++ r.line)) edges (e ∷ []), edges-kept points r.line edges stored, edge-new (nodes_with nodes r) points r e h) refl

pub grown : (l : NetworkLimits) (nodes : List ℕ) (edges : List StoredEdge) (points : List Point) (r : Row) (e : StoredEdge) → BelongTogether nodes edges points
    → IsFaultless l (net_of nodes edges points) r → IsStoredRow (nodes_with nodes r) points r e
    → BelongTogether (nodes_with nodes r) (edges ++ e ∷ []) (points ++ r.line)
grown l nodes edges points r e h f is =
    let net = net-grown nodes edges points r e h.stored is in
    record {
      lawful = subst IsLawful (sym net) (lawful-more l (net_of nodes edges points) r h.lawful f);
      stored = All-push (IsStored (points ++ r.line)) edges e
          (All-weaker (IsStored points) (IsStored (points ++ r.line)) (λ x s. stored-kept points r.line x s) edges h.stored)
          (record {
            order = omega (arith, is.first, is.end);
            within = omega (arith, is.end, length-append points r.line);
            measured = rw (is.measured, is.first, is.end, range-new points r.line) refl;
          });
      count = length-append points r.line ∙ ap (λ k. k + length r.line) h.count ∙ sym (points-more (net_of nodes edges points) r)
          ∙ ap (λ (k : Net). point_count k.edges) (sym net);
    }

-- the offsets of one more line
pub offsets-grown : (nodes : List ℕ) (points : List Point) (edges : List StoredEdge) (offsets : List ℕ) (r : Row) (e : StoredEdge) → All (IsStored points) edges → AreOffsets points edges offsets
    → IsStoredRow (nodes_with nodes r) points r e → AreOffsets (points ++ r.line) (edges ++ e ∷ []) (offsets ++ line_offsets r.line)
offsets-grown nodes points edges offsets r e stored h is =
    let count : length (offsets ++ line_offsets r.line) ≡ length (points ++ r.line) = omega (arith, h.count, length-append offsets (line_offsets r.line), length-append points r.line, length-line_offsets r.line) in
    let here : slice_range (offsets ++ line_offsets r.line) (length points) (length points + length r.line) ≡ line_offsets r.line =
    rw (← h.count, ← length-line_offsets r.line) (range-new offsets (line_offsets r.line)) in
    record {
      count = count;
      each = All-push (λ x. slice_range (offsets ++ line_offsets r.line) x.first x.end ≡ line_offsets (slice_range (points ++ r.line) x.first x.end)) edges e
          (λ k d lt.
          let s = stored k d lt in
          range-kept offsets (line_offsets r.line) (get_or edges k d).first (get_or edges k d).end s.order (omega (arith, s.within, h.count)) ∙ h.each k d lt
          ∙ ap line_offsets (sym (range-kept points r.line (get_or edges k d).first (get_or edges k d).end s.order s.within)))
          (rw (is.first, is.end, range-new points r.line) here);
    }

-- what was counted is what the limits are about
pub limits-are : (l : NetworkLimits) (n : Net) (r : Row) (rec edges nodes points : ℕ) → rec ≡ length n.edges + 1 → edges ≡ length (with_row n r).edges → nodes ≡ length (with_row n r).nodes
    → points ≡ point_count (with_row n r).edges → limit_faults l rec edges nodes points (length r.line) ≡ limits_with l n r
limits-are l n r rec edges nodes points a b c d = rw (a, b, c, d) refl

-- a name is new exactly where none has it
pub new-name : (is_new known : Bool) → is_new ≡ not known → is_new ≡ true → known ≡ false
new-name is_new false h t = refl
new-name is_new true h t = let no : true ≡ false = sym t ∙ h in cc

pub old-name : (is_new known : Bool) → is_new ≡ not known → is_new ≡ false → known ≡ true
old-name is_new true h t = refl
old-name is_new false h t = let no : false ≡ true = sym t ∙ h in cc
