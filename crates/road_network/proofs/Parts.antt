-- The parts of a network's lists that belong to one node or to one edge.
use Rattle.std.proofs.Common.{◌≡◌, ℕ, ◌+◌, ◌-◌, ◌<◌, ◌≤◌, refl, sym, ap, ◌∙◌, arith, length, map, get_or, take, drop, subst}
use Rattle.std.proofs.lemmas.List.{drop-map, get_or-map, get_or_read, length-map, take-map}
use Rattle.std.specs.Prelude.{slice_index}
use Rattle.polyline_geometry.specs.Offsets.{line_offsets}
use Rattle.road_network.specs.declared.Network.TheInside.{Inside}
use Rattle.road_network.specs.declared.StoredEdge.{StoredEdge}
use Rattle.road_network.specs.Net.{Edge, Net, HasEdge, HasNode, arc_of, edge_line, leaving, no_edge}
use Rattle.road_network.specs.inside.Stored.{IsKept, IsStored, edge_of, shown}

-- where the list of node v begins and ends, as read from the starts
abbrev pub AreEnds : Inside → ℕ → ℕ → ℕ → Type 0
AreEnds a v first end = (first ≡ get_or a.adjacency.starts.items v first) × (end ≡ get_or a.adjacency.starts.items (v + 1) end)

pub node-part : (a : Inside) (n : Net) (v first end : ℕ) → IsKept a → shown a ≡ n → HasNode n v → AreEnds a v first end
    → (first ≤ end) × (end ≤ length a.adjacency.leaving.items) × (take (end - first) (drop first a.adjacency.leaving.items) ≡ leaving n v)
node-part a n v first end kept is has ends =
    let here : HasNode (shown a) v = subst (λ (m : Net). HasNode m v) (sym is) has in
    let from : first ≡ slice_index a.adjacency.starts.items v = get_or_read a.adjacency.starts.items v first (omega (arith, here, kept.starts)) ends.0 0 in
    let to : end ≡ slice_index a.adjacency.starts.items (v + 1) = get_or_read a.adjacency.starts.items (v + 1) end (omega (arith, here, kept.starts)) ends.1 0 in
    let part : (first ≤ end) × (end ≤ length a.adjacency.leaving.items) × (take (end - first) (drop first a.adjacency.leaving.items) ≡ leaving (shown a) v) = rw (from, to) (kept.lists v here) in
    (part.0, part.1, part.2 ∙ ap (λ (m : Net). leaving m v) is)

pub arcs-part : (a : Inside) (n : Net) (v first end : ℕ) → IsKept a → shown a ≡ n → HasNode n v → AreEnds a v first end
    → (end ≤ length a.adjacency.arcs.items) × (take (end - first) (drop first a.adjacency.arcs.items) ≡ map (arc_of n) (leaving n v))
arcs-part a n v first end kept is has ends =
    let part = node-part a n v first end kept is has ends in
    let edges = a.adjacency.leaving.items in
    let arcs : a.adjacency.arcs.items ≡ map (arc_of n) edges = kept.arcs ∙ ap (λ (m : Net). map (arc_of m) edges) is in
    rw (arcs, drop-map (arc_of n) first edges, take-map (arc_of n) (end - first) (drop first edges), part.2)
    (omega (arith, part.1, length-map edges (arc_of n)), refl)

pub edge-part : (a : Inside) (n : Net) (e : ℕ) (s : StoredEdge) → IsKept a → shown a ≡ n → HasEdge n e → s ≡ get_or a.edges.items e s
    → (s.first ≤ s.end) × (s.end ≤ length a.points.items) × (take (s.end - s.first) (drop s.first a.points.items) ≡ edge_line n e)
edge-part a n e s kept is has at =
    let here : HasEdge (shown a) e = subst (λ (m : Net). HasEdge m e) (sym is) has in
    let low : e < length a.edges.items = omega (arith, here, length-map a.edges.items (edge_of a.points.items)) in
    let stored : IsStored a.points.items s = subst (IsStored a.points.items) (sym at) (kept.stored e s low) in
    let edge : get_or (shown a).edges e no_edge ≡ edge_of a.points.items s = get_or-map (edge_of a.points.items) a.edges.items e s no_edge low ∙ ap (edge_of a.points.items) (sym at) in
    (stored.order, stored.within, ap (λ (x : Edge). x.line) (sym edge) ∙ ap (λ (m : Net). edge_line m e) is)

pub offsets-part : (a : Inside) (n : Net) (e : ℕ) (s : StoredEdge) → IsKept a → shown a ≡ n → HasEdge n e → s ≡ get_or a.edges.items e s
    → (s.end ≤ length a.offsets.items) × (take (s.end - s.first) (drop s.first a.offsets.items) ≡ line_offsets (edge_line n e))
offsets-part a n e s kept is has at =
    let part = edge-part a n e s kept is has at in
    let here : HasEdge (shown a) e = subst (λ (m : Net). HasEdge m e) (sym is) has in
    let low : e < length a.edges.items = omega (arith, here, length-map a.edges.items (edge_of a.points.items)) in
    let offsets = subst (λ (x : StoredEdge). take (x.end - x.first) (drop x.first a.offsets.items) ≡ line_offsets (take (x.end - x.first) (drop x.first a.points.items))) (sym at) (kept.offsets.each e s low) in
    (omega (arith, part.1, kept.offsets.count), offsets ∙ ap line_offsets part.2)
