-- The records of a town's network file, read one after the other.
use Rattle.std.proofs.Common.{◌≡◌, ℕ, ◌+◌, ◌*◌, ◌<◌, ◌≤◌, ◌^◌, ◌==◌, true, false, List, [], ◌∷◌, All, length, Ok, None, refl, sym, ap, ◌∙◌, arith, length-append}
use Rattle.std.specs.Prelude.{nat_eq}
use Rattle.std.specs.List.{fold, list_any}
use Rattle.std.proofs.lemmas.Bool.{le-ltb, ne_eqb}
use Rattle.std.proofs.lemmas.List.Elements.{All-head, All-push, All-tail, All-weaker}
use Rattle.std.proofs.lemmas.List.Folds.{list_any_none}
use Rattle.std.proofs.lemmas.List.Sums.{sum_by-append}
use Rattle.decimal_text.specs.Number.{decimal}
use Rattle.decimal_text.proofs.Laws.{unsigned_within-decimal}
use Rattle.polyline_geometry.specs.Plane.{line_length}
use Rattle.road_network.specs.declared.limits.NetworkLimits.TheVariants.{Standard}
use Rattle.road_network.specs.Net.{Edge, Net, point_count}
use Rattle.road_network.specs.NetworkFile.{Row, add_record, add_records, add_row, first_fault, limit_faults, line_faults, next, nodes_with, row_of, with_node, with_row}
use Rattle.road_network.proofs.Growing.{accepted}
use Rattle.road_network.proofs.Names.{mentioned, nodes-grow-little, stays}
use Rattle.road_network.proofs.RowsRead.{row-read}
use Rattle.town.specs.declared.corner.Corner.{Corner}
use Rattle.town.specs.Corners.{node_id}
use Rattle.town.specs.Network.{Street, edge_row, line_text, place_of, street_rows}
use Rattle.town.proofs.Fields.{edge_fields, line-read}
use Rattle.town.proofs.Near.{AreJoined, differ, joined_back, straight_is}

-- a network of so many edges, named 0, 1 and on, each with a line of two points
pub record IsAt (net : Net) (edges nodes : ℕ) : Type 0 where
  pub edges_are : length net.edges ≡ edges
  pub names : All (λ e. e.name < edges) net.edges
  pub nodes_are : length net.nodes ≤ nodes
  pub points_are : point_count net.edges ≡ 2 * edges

-- the ids of a corner's node and of the edge fit
pub record Fits (n edge : ℕ) (a b : Corner) : Type 0 where
  pub joined : AreJoined a b
  pub edge_fits : edge < 2 ^ 32
  pub from_fits : node_id n a < 2 ^ 64
  pub to_fits : node_id n b < 2 ^ 64

row-is : (rec n edge : ℕ) (a b : Corner) → Fits n edge a b → row_of rec (edge_fields n edge a b) ≡ Ok (edge_row n edge a b)
row-is rec n edge a b fits =
    let edge_small = fits.edge_fits in
    let from_small = fits.from_fits in
    let to_small = fits.to_fits in
    row-read rec (decimal edge) (decimal (node_id n a)) (decimal (node_id n b)) (line_text a b) (Ok edge) (Ok (node_id n a)) (Ok (node_id n b)) None (place_of a ∷ place_of b ∷ []) (record {
      name = sym (unsigned_within-decimal 4_294_967_295 edge (omega (arith, edge_small)) (omega arith));
      start = sym (unsigned_within-decimal 18_446_744_073_709_551_615 (node_id n a) (omega (arith, from_small)) (omega arith));
      stop = sym (unsigned_within-decimal 18_446_744_073_709_551_615 (node_id n b) (omega (arith, to_small)) (omega arith));
      points = line-read a b fits.joined.first fits.joined.second;
    }) refl

new-name : (edges : List Edge) (k name : ℕ) → All (λ e. e.name < k) edges → k ≤ name → list_any (λ e. name == e.name) edges ≡ false
new-name edges k name below high =
    list_any_none (λ e. name == e.name) edges (All-weaker (λ e. e.name < k) (λ e. (name == e.name) ≡ false) (λ e low. ne_eqb name e.name (λ same. omega (arith, low, high, same))) edges below)

line-free : (rec : ℕ) (a b : Corner) → AreJoined a b → first_fault (line_faults rec (place_of a ∷ place_of b ∷ [])) ≡ None
line-free rec a b joined =
    let long : line_length (place_of a ∷ place_of b ∷ []) ≡ 10_000 = ap (λ s. s + 0) (straight_is a b joined) in
    rw (differ a b joined, long) refl

limits-free : (rec edges nodes points : ℕ) → edges ≤ 150_000 → nodes ≤ 60_000 → points ≤ 1_000_000 → first_fault (limit_faults Standard rec edges nodes points 2) ≡ None
limits-free rec edges nodes points few_edges few_nodes few_points =
    rw (le-ltb 150_000 edges few_edges, le-ltb 60_000 nodes few_nodes, le-ltb 1_000_000 points few_points) refl

nodes-more : (nodes : List ℕ) (r : Row) → length (nodes_with nodes r) ≤ length nodes + 2
nodes-more nodes r = omega (arith, nodes-grow-little nodes r.«from», nodes-grow-little (with_node nodes r.«from») r.to)

-- the network with one more edge
with-edge : (net : Net) (n edge nodes : ℕ) (a b : Corner) → IsAt net edge nodes → IsAt (with_row net (edge_row n edge a b)) (edge + 1) (nodes + 2)
with-edge net n edge nodes a b at = record {
  edges_are = omega (arith, at.edges_are, length-append net.edges ((with_row (record { nodes = net.nodes; edges = [] }) (edge_row n edge a b)).edges));
  names = All-push (λ (e : Edge). e.name < edge + 1) net.edges _ (All-weaker (λ (e : Edge). e.name < edge) (λ (e : Edge). e.name < edge + 1) (λ e low. omega (arith, low)) net.edges at.names) (omega arith);
  nodes_are = omega (arith, at.nodes_are, nodes-more net.nodes (edge_row n edge a b));
  points_are = let more = sum_by-append (λ (e : Edge). length e.line) net.edges ((with_row (record { nodes = net.nodes; edges = [] }) (edge_row n edge a b)).edges) in omega (arith, at.points_are, more);
}

add-one_edge : (net : Net) (n edge nodes : ℕ) (a b : Corner) → IsAt net edge nodes → Fits n edge a b → edge + 1 ≤ 150_000 → nodes + 2 ≤ 60_000
    → add_record Standard net (edge_fields n edge a b) ≡ Ok (with_row net (edge_row n edge a b))
unfolding add_record
add-one_edge net n edge nodes a b at fits few_edges few_nodes =
    let r = edge_row n edge a b in
    let after = with-edge net n edge nodes a b at in
    let e = after.edges_are in
    let v = after.nodes_are in
    let p = after.points_are in
    ap (λ read. next read (add_row Standard net)) (row-is (length net.edges + 1) n edge a b fits)
    ∙ accepted Standard net r (new-name net.edges edge edge at.names (omega arith)) (line-free (length net.edges + 1) a b fits.joined)
    (limits-free (length net.edges + 1) (length (with_row net r).edges) (length (with_row net r).nodes) (point_count (with_row net r).edges) (omega (arith, e, few_edges)) (omega (arith, v, few_nodes)) (omega (arith, p, few_edges)))

-- the way back brings no node
known-node : (nodes : List ℕ) (name : ℕ) → list_any (nat_eq name) nodes ≡ true → with_node nodes name ≡ nodes
known-node nodes name known = rw known refl

back-nodes : (nodes : List ℕ) (n edge : ℕ) (a b : Corner) → nodes_with (nodes_with nodes (edge_row n edge a b)) (edge_row n (edge + 1) b a) ≡ nodes_with nodes (edge_row n edge a b)
back-nodes nodes n edge a b =
    let there = nodes_with nodes (edge_row n edge a b) in
    let to_known : list_any (nat_eq (node_id n b)) there ≡ true = mentioned (with_node nodes (node_id n a)) (node_id n b) in
    let from_known : list_any (nat_eq (node_id n a)) there ≡ true = stays (with_node nodes (node_id n a)) (node_id n a) (node_id n b) (mentioned nodes (node_id n a)) in
    ap (λ l. with_node l (node_id n a)) (known-node there (node_id n b) to_known) ∙ known-node there (node_id n a) from_known

with-street : (net : Net) (n edge nodes : ℕ) (a b : Corner) → IsAt net edge nodes → IsAt (with_row (with_row net (edge_row n edge a b)) (edge_row n (edge + 1) b a)) (edge + 2) (nodes + 2)
with-street net n edge nodes a b at =
    let one = with-edge net n edge nodes a b at in
    let two = with-edge (with_row net (edge_row n edge a b)) n (edge + 1) (nodes + 2) b a one in
    let count : edge + 1 + 1 ≡ edge + 2 = omega arith in
    let e = two.edges_are in
    let p = two.points_are in
    record {
      edges_are = omega (arith, e);
      names = All-weaker (λ (e : Edge). e.name < edge + 1 + 1) (λ (e : Edge). e.name < edge + 2) (λ e low. omega (arith, low)) _ two.names;
      nodes_are = let same = ap length (back-nodes net.nodes n edge a b) in let v = one.nodes_are in omega (arith, v, same);
      points_are = omega (arith, p);
    }

-- all that the records of streets need
pub record IsStreet (n : ℕ) (s : Street) : Type 0 where
  pub joined : AreJoined s.one s.other
  pub from_fits : node_id n s.one < 2 ^ 64
  pub to_fits : node_id n s.other < 2 ^ 64

unfoldable pub street_records : ℕ → ℕ → List Street → List (List (List ℕ))
street_records n edge [] = []
street_records n edge (s ∷ rest) = edge_fields n edge s.one s.other ∷ edge_fields n (edge + 1) s.other s.one ∷ street_records n (edge + 2) rest

fits_there : (n edge : ℕ) (s : Street) → IsStreet n s → edge ≤ 100_000 → Fits n edge s.one s.other
fits_there n edge s street few = record { joined = street.joined; edge_fits = omega (arith, few); from_fits = street.from_fits; to_fits = street.to_fits }

fits_back : (n edge : ℕ) (s : Street) → IsStreet n s → edge ≤ 100_000 → Fits n edge s.other s.one
fits_back n edge s street few = record { joined = joined_back s.one s.other street.joined; edge_fits = omega (arith, few); from_fits = street.to_fits; to_fits = street.from_fits }

pub records_added : (streets : List Street) (net : Net) (n edge nodes : ℕ) → IsAt net edge nodes → All (IsStreet n) streets → edge + 2 * length streets ≤ 50_000 → nodes + 2 * length streets ≤ 50_000
    → add_records Standard net (street_records n edge streets) ≡ Ok (fold with_row net (street_rows n edge streets))
unfolding add_records street_records street_rows
records_added [] net n edge nodes at all few_edges few_nodes = refl
records_added (s ∷ rest) net n edge nodes at all few_edges few_nodes =
    let street = All-head (IsStreet n) s rest all in
    let one = with_row net (edge_row n edge s.one s.other) in
    let two = with_row one (edge_row n (edge + 1) s.other s.one) in
    let after_one = with-edge net n edge nodes s.one s.other at in
    let after_two = with-street net n edge nodes s.one s.other at in
    let there = add-one_edge net n edge nodes s.one s.other at (fits_there n edge s street (omega (arith, few_edges))) (omega (arith, few_edges)) (omega (arith, few_nodes)) in
    let back = add-one_edge one n (edge + 1) (nodes + 2) s.other s.one after_one (fits_back n (edge + 1) s street (omega (arith, few_edges))) (omega (arith, few_edges)) (omega (arith, few_nodes)) in
    ap (λ r. next r (λ m. add_records Standard m (edge_fields n (edge + 1) s.other s.one ∷ street_records n (edge + 2) rest))) there
    ∙ ap (λ r. next r (λ m. add_records Standard m (street_records n (edge + 2) rest))) back
    ∙ records_added rest two n (edge + 2) (nodes + 2) after_two (All-tail (IsStreet n) s rest all) (omega (arith, few_edges)) (omega (arith, few_nodes))
