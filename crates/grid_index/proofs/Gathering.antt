-- What a look gathers.
use Rattle.std.proofs.Common.{◌≡◌, ℕ, ◌+◌, ◌*◌, ◌<◌, ◌≤◌, ◌⊎◌, List, [], ◌∷◌, ◌++◌, get_or, length, flat_map, take, append_assoc, append-nil, All, Option, Some, None, option_to_list, ◌-ℤ◌, refl, sym, ap, ◌∙◌, subst, arith, ⊎_elim, mul-le-mul}
use Rattle.std.specs.List.{Contains}
use Rattle.std.specs.Int.RustNames.{unsigned_abs}
use Rattle.std.proofs.lemmas.Bool.{cases_lt}
use Rattle.std.proofs.lemmas.List.{get_or_default, take_more}
use Rattle.std.proofs.lemmas.List.Concat.{flat_map-append}
use Rattle.std.proofs.lemmas.List.Elements.{All-append, All-cons, All-contains, All-contains_itself, All-head, All-nil, All-push, All-tail, All-weaker, Contains-push, Contains-append_left, Contains-append_right}
use Rattle.polyline_geometry.specs.declared.plane.Point.{Point}
use Rattle.polyline_geometry.specs.Boxes.{InBox, InSquare, LineMeetsSquare}
use Rattle.road_network.specs.declared.EdgeId.{EdgeId}
use Rattle.polyline_geometry.specs.Plane.{distance2}
use Rattle.road_network.specs.Net.{Net, HasEdge, edge_line}
use Rattle.grid_index.specs.declared.cells.Cells.{Cells}
use Rattle.grid_index.specs.declared.runs.Run.{Run}
use Rattle.grid_index.specs.Cells.{HasCell, cell}
use Rattle.grid_index.specs.Runs.{HasSegment, IsNearRun, IsRun, IsTwin, edges_of_run, twin_of_run}
use Rattle.grid_index.specs.GridOf.{AreHits, GridOf, IsGrid, runs_at}
use Rattle.grid_index.specs.inside.Table.{Appends, AppendsOne, Gathers}
use Rattle.grid_index.proofs.RunBoxes.{box_within}

-- a run that is not near
pub appends_not : (p : Point) (far2 : ℕ) (found : List Run) (run : Run) → (IsNearRun p far2 run → ⊥) → AppendsOne p far2 found found run
appends_not p far2 found run far = record {
  keeps = λ r there. there;
  here = λ near. absurd (far near);
  are_runs = λ net is old. old;
}

pub appends_it : (p : Point) (far2 : ℕ) (old new : List Run) (run : Run) → new ≡ old ++ run ∷ [] → AppendsOne p far2 old new run
appends_it p far2 old new run is = record {
  keeps = λ r there. subst (λ xs. Contains xs r) (sym is) (Contains-append_left old (run ∷ []) r there);
  here = λ near. subst (λ xs. Contains xs run) (sym is) (Contains-push old run);
  are_runs = λ net one all. subst (All (IsRun net)) (sym is) (All-push (IsRun net) old run all one);
}

pub appends_none : (p : Point) (far2 : ℕ) (found runs : List Run) → Appends p far2 found found runs 0
appends_none p far2 found runs = record {
  keeps = λ r there. there;
  appended = λ i d lt. absurd (omega (arith, lt));
  are_runs = λ net all old. old;
}

-- one more run
pub appends_more : (p : Point) (far2 : ℕ) (old now new runs : List Run) (count : ℕ) (x : Run) → count < length runs → get_or runs count x ≡ x
    → Appends p far2 old now runs count → AppendsOne p far2 now new x → Appends p far2 old new runs (count + 1)
appends_more p far2 old now new runs count x lt is h k = record {
  keeps = λ r there. k.keeps r (h.keeps r there);
  appended = λ i d under near.
      ⊎_elim
      (λ below. k.keeps (get_or runs i d) (h.appended i d below near))
      (λ here.
      let e : count ≡ i = omega (arith, under, here) in
      let same : x ≡ get_or runs i d = sym is ∙ get_or_default runs count x d lt ∙ ap (λ v. get_or runs v d) e in
      subst (Contains new) same (k.here (subst (IsNearRun p far2) (sym same) near)))
      (cases_lt i count);
  are_runs = λ net all before. k.are_runs net (subst (IsRun net) is (all count x lt)) (h.are_runs net all before);
}

-- what is appended of all runs
pub appended_of : (p : Point) (far2 : ℕ) (old new runs : List Run) (r : Run) → Appends p far2 old new runs (length runs) → Contains runs r → IsNearRun p far2 r → Contains new r
appended_of p far2 old new runs r h there near =
    subst (Contains new) there.2 (h.appended there.0 r there.1 (subst (IsNearRun p far2) (sym there.2) near))

-- no cells
pub gathers_none : (g : GridOf) (p : Point) (far2 : ℕ) (found : List Run) (left right bottom top : ℕ) → (right ≤ left) ⊎ (top ≤ bottom) → Gathers g p far2 found found left right bottom top
gathers_none g p far2 found left right bottom top none = record {
  keeps = λ r there. there;
  gathered = λ c r l k b u run there. absurd (⊎_elim (λ h. omega (arith, l, k, h)) (λ h. omega (arith, b, u, h)) none);
  are_runs = λ members old. old;
}

-- one more cell of a row
pub gathers_cell : (g : GridOf) (p : Point) (far2 : ℕ) (old now new : List Run) (runs : List Run) (left column row : ℕ) → Gathers g p far2 old now left column row (row + 1)
    → runs ≡ runs_at g column row → Appends p far2 now new runs (length runs)
    → Gathers g p far2 old new left (column + 1) row (row + 1)
gathers_cell g p far2 old now new runs left column row h runs-are k = record {
  keeps = λ r there. k.keeps r (h.keeps r there);
  gathered = λ c r l m b u run there near.
      ⊎_elim
      (λ lt. k.keeps run (h.gathered c r l lt b u run there near))
      (λ ge.
      let c-is : c ≡ column = omega (arith, m, ge) in
      let r-is : r ≡ row = omega (arith, b, u) in
      let at : runs_at g c r ≡ runs = ap (λ v. runs_at g v r) c-is ∙ ap (λ v. runs_at g column v) r-is ∙ sym runs-are in
      appended_of p far2 now new runs run k (subst (λ xs. Contains xs run) at there) near)
      (cases_lt c column);
  are_runs = λ members before. k.are_runs g.net (subst (All (IsRun g.net)) (sym runs-are) (members column row)) (h.are_runs members before);
}

-- one more row
pub gathers_row : (g : GridOf) (p : Point) (far2 : ℕ) (old now new : List Run) (left right bottom row : ℕ) → Gathers g p far2 old now left right bottom row
    → Gathers g p far2 now new left right row (row + 1) → Gathers g p far2 old new left right bottom (row + 1)
gathers_row g p far2 old now new left right bottom row h k = record {
  keeps = λ r there. k.keeps r (h.keeps r there);
  gathered = λ c r l m b u run there near.
      ⊎_elim (λ lt. k.keeps run (h.gathered c r l m b lt run there near)) (λ ge. k.gathered c r l m ge u run there near) (cases_lt r row);
  are_runs = λ members before. k.are_runs members (h.are_runs members before);
}

-- fewer cells
pub gathers_more : (g : GridOf) (p : Point) (far2 : ℕ) (old new : List Run) (left column right bottom top : ℕ) → Gathers g p far2 old new left column bottom top → right ≤ column → Gathers g p far2 old new left right bottom top
gathers_more g p far2 old new left column right bottom top h le = record {
  keeps = h.keeps;
  gathered = λ c r l k b u run there. h.gathered c r l (omega (arith, k, le)) b u run there;
  are_runs = h.are_runs;
}

pub gathers_higher : (g : GridOf) (p : Point) (far2 : ℕ) (old new : List Run) (left right bottom row top : ℕ) → Gathers g p far2 old new left right bottom row → top ≤ row → Gathers g p far2 old new left right bottom top
gathers_higher g p far2 old new left right bottom row top h le = record {
  keeps = h.keeps;
  gathered = λ c r l k b u run there. h.gathered c r l k b (omega (arith, u, le)) run there;
  are_runs = h.are_runs;
}

no_runs : (net : Net) (l : List Run) → l ≡ [] → All (IsRun net) l
no_runs net l is = subst (All (IsRun net)) (sym is) (λ k d lt. absurd (omega (arith, lt)))

-- the wide runs and those at the cells of a square are hits
pub gathers_hits : (g : GridOf) (p : Point) (reach far2 : ℕ) (none found new : List Run) (cells : Cells)
    → IsGrid g → none ≡ [] → Appends p far2 none found g.wide (length g.wide)
    → ((q : Point) → InSquare p reach q → HasCell cells (cell g.side q.x) (cell g.side q.y))
    → Gathers g p far2 found new cells.left cells.right cells.bottom cells.top → AreHits g p reach far2 new
gathers_hits g p reach far2 none found new cells is start wide covers h = record {
  are_runs = h.are_runs is.cell_runs (wide.are_runs g.net is.wide_runs (no_runs g.net none start));
  complete = λ e i has lt q inside square close.
      let stand = is.complete e i has lt in
      let run : Run = stand.run in
      let within : InBox run.low run.high q = box_within g e i stand q inside in
      let near : IsNearRun p far2 run = (q, within, close) in
      let there : Contains new run = ⊎_elim
      (λ l. h.keeps run (appended_of p far2 none found g.wide run wide l near))
      (λ stands. let k = covers q square in h.gathered (cell g.side q.x) (cell g.side q.y) k.left k.right k.bottom k.top run (stands q within) near)
      stand.stands
      in
      (run, there, stand.segment);
}

-- a place of a square is no farther than its corners
pub in_square : (p q : Point) (reach : ℕ) → InSquare p reach q → distance2 p q ≤ 2 * reach * reach
in_square p q reach h =
    let xx : unsigned_abs (p.x -ℤ q.x) * unsigned_abs (p.x -ℤ q.x) ≤ reach * reach = mul-le-mul h.x h.x in
    let yy : unsigned_abs (p.y -ℤ q.y) * unsigned_abs (p.y -ℤ q.y) ≤ reach * reach = mul-le-mul h.y h.y in
    grind (arith, xx, yy)

-- the edges for which each run stands are among those for which all do
edges_among : (runs : List Run) → All (λ r. All (Contains (flat_map edges_of_run runs)) (edges_of_run r)) runs
edges_among [] = All-nil (λ r. All (Contains (flat_map edges_of_run [])) (edges_of_run r))
edges_among (x ∷ xs) =
    let rest = flat_map edges_of_run xs in
    let whole = edges_of_run x ++ rest in
    All-cons (λ r. All (Contains whole) (edges_of_run r)) x xs
    (All-weaker (Contains (edges_of_run x)) (Contains whole) (λ e there. Contains-append_left (edges_of_run x) rest e there) (edges_of_run x) (All-contains_itself (edges_of_run x)))
    (All-weaker (λ r. All (Contains rest) (edges_of_run r)) (λ r. All (Contains whole) (edges_of_run r))
    (λ r all. All-weaker (Contains rest) (Contains whole) (λ e there. Contains-append_right (edges_of_run x) rest e there) (edges_of_run r) all) xs (edges_among xs))

edge_among : (runs : List Run) (r : Run) (e : EdgeId) → Contains runs r → Contains (edges_of_run r) e → Contains (flat_map edges_of_run runs) e
edge_among runs r e there one =
    let whole = flat_map edges_of_run runs in
    All-contains (Contains whole) (edges_of_run r) e (All-contains (λ v. All (Contains whole) (edges_of_run v)) runs r (edges_among runs) there) one

-- the edges of one more run
pub edges_more : (runs : List Run) (i : ℕ) (d : Run) (twin : Option EdgeId) (old one new : List EdgeId) → i < length runs → old ≡ flat_map edges_of_run (take i runs)
    → one ≡ old ++ (get_or runs i d).edge ∷ [] → twin_of_run (get_or runs i d) ≡ twin → new ≡ one ++ option_to_list twin → new ≡ flat_map edges_of_run (take (i + 1) runs)
edges_more runs i d twin old one new lt front edge twin-is is =
    let r = get_or runs i d in
    let next : new ≡ old ++ edges_of_run r = is ∙ ap (λ v. v ++ option_to_list twin) edge ∙ append_assoc old (r.edge ∷ []) (option_to_list twin) ∙ ap (λ o. old ++ r.edge ∷ option_to_list o) (sym twin-is) in
    let more : flat_map edges_of_run (take (i + 1) runs) ≡ flat_map edges_of_run (take i runs) ++ edges_of_run r
    = ap (flat_map edges_of_run) (take_more runs i d lt) ∙ flat_map-append edges_of_run (take i runs) (r ∷ []) ∙ ap (λ v. flat_map edges_of_run (take i runs) ++ v) (append-nil (edges_of_run r))
    in
    next ∙ ap (λ v. v ++ edges_of_run r) front ∙ sym more

-- what holds of the edges of each run holds of those of all
pub all_edges : (P : EdgeId → Type 0) (runs : List Run) → All (λ r. All P (edges_of_run r)) runs → All P (flat_map edges_of_run runs)
all_edges P [] all = All-nil P
all_edges P (x ∷ xs) all =
    All-append P (edges_of_run x) (flat_map edges_of_run xs) (All-head (λ r. All P (edges_of_run r)) x xs all) (all_edges P xs (All-tail (λ r. All P (edges_of_run r)) x xs all))

twin_has : (net : Net) (e : ℕ) (twin : Option EdgeId) → IsTwin net e twin → All (λ t. HasEdge net t.0) (option_to_list twin)
twin_has net e None is = All-nil (λ t. HasEdge net t.0)
twin_has net e (Some t) is = All-cons (λ v. HasEdge net v.0) t [] is.has (All-nil (λ v. HasEdge net v.0))

-- the edges for which a run stands are edges of the network
pub run_has : (net : Net) (r : Run) → IsRun net r → All (λ e. HasEdge net e.0) (edges_of_run r)
run_has net r is = All-cons (λ e. HasEdge net e.0) r.edge (option_to_list (twin_of_run r)) is.has (twin_has net r.edge.0 (twin_of_run r) is.twin)

-- the edge of a segment that the run has
segment_edge : (net : Net) (r : Run) (e i : ℕ) → HasSegment net r e i → Contains (edges_of_run r) (record { 0 = e })
segment_edge net r e i s =
    let edge : EdgeId = record { 0 = e } in
    ⊎_elim
    (λ same. (0, omega arith, ap (λ v. let x : EdgeId = record { 0 = v } in x) same.0))
    (λ mirror. subst (λ o. Contains (r.edge ∷ option_to_list o) edge) (sym mirror.0) (1, omega arith, refl))
    s.is

-- the edges of the hits of a square miss no edge near it
pub hits_edge : (g : GridOf) (p : Point) (reach e : ℕ) (runs : List Run) → AreHits g p reach (2 * reach * reach) runs
    → HasEdge g.net e → LineMeetsSquare (edge_line g.net e) p reach → Contains (flat_map edges_of_run runs) (record { 0 = e })
hits_edge g p reach e runs h has meets =
    let q : Point = meets.2.0 in
    let hit = h.complete e meets.0 has meets.1 q meets.2.1 meets.2.2 (in_square p q reach meets.2.2) in
    edge_among runs hit.0 (record { 0 = e }) hit.1 (segment_edge g.net hit.0 e meets.0 hit.2)

-- what holds of each element of a list holds of those of a list that has no others
pub all_within : (P : EdgeId → Type 0) (xs ys : List EdgeId) → ((e : EdgeId) → Contains xs e → Contains ys e) → All P ys → All P xs
all_within P xs ys within all = λ k d lt.
    let x : EdgeId = get_or xs k d in
    let there = within x (k, lt, get_or_default xs k x d lt) in
    subst P there.2 (all there.0 x there.1)
