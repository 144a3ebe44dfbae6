-- What is seen where runs are visited.
use Rattle.std.proofs.Common.{Err, Ok, OnOk, Result, ◌≡◌, ℕ, suc, ◌+◌, ◌<◌, ◌≤◌, List, length, get_or, sym, ap, ◌∙◌, subst, arith, ⊎_elim, pos}
use Rattle.std.specs.List.{Contains}
use Rattle.std.proofs.lemmas.Bool.{cases_lt}
use Rattle.std.proofs.lemmas.List.{get_or_default}
use Rattle.polyline_geometry.specs.declared.plane.Point.{Point}
use Rattle.polyline_geometry.specs.Boxes.{InBox}
use Rattle.polyline_geometry.specs.Nearest.{AreFar, segment_snap}
use Rattle.polyline_geometry.specs.Plane.{distance2, point_at, share, snap_segment, snapped}
use Rattle.polyline_geometry.proofs.Boxes.{snapped_in_box}
use Rattle.road_network.specs.Net.{Net, IsLawful, edge_line}
use Rattle.grid_index.specs.declared.cells.Cells.{Cells}
use Rattle.grid_index.specs.declared.runs.Run.{Run}
use Rattle.grid_index.specs.GridOf.{GridOf, IsGrid, runs_at}
use Rattle.grid_index.specs.NearestCell.{IsNearestCell}
use Rattle.grid_index.specs.Runs.{IsRun}
use Rattle.grid_index.proofs.RunBoxes.{segment_within}
use Rattle.candidate_search.specs.declared.best.NearEdge.{NearEdge}
use Rattle.candidate_search.specs.declared.wanted.Search.{Search}
use Rattle.candidate_search.specs.inside.Best.{AreBest, HasSeen, HasSeenCell, HasSeenRow, HasSeenRows, HasSeenWide, IsLimit, IsNearEdge, Steps, Takes, TakesPair}
use Rattle.candidate_search.proofs.ApartLists.{all_contained, of_contained}
use Rattle.candidate_search.proofs.Twins.{same_d2}

abbrev pub nothing : Run
nothing = record { edge = record { 0 = 0 }; first = 0; end = 0; low = record { x = pos 0; y = pos 0 }; high = record { x = pos 0; y = pos 0 }; twin = record { 0 = 0 } }

pub stays : (net : Net) (search : Search) (found : List NearEdge) → AreBest net search found → Steps net search found found
stays net search found best = record { best = best; keeps = λ d2 e i h. h }

pub goes_on : (net : Net) (search : Search) (old now new : List NearEdge) → Steps net search old now → Steps net search now new → Steps net search old new
goes_on net search old now new h k = record { best = k.best; keeps = λ d2 e i a. k.keeps d2 e i (h.keeps d2 e i a) }

pub seen_still : (net : Net) (search : Search) (old new : List NearEdge) (r : Run) → Steps net search old new → HasSeen net search old r → HasSeen net search new r
seen_still net search old new r steps h e i has near = steps.keeps (segment_snap (edge_line net e) search.at i).d2 e i (h e i has near)

-- where all segments of a run are as far as the limit
pub seen_far : (net : Net) (search : Search) (found : List NearEdge) (r : Run) (limit : ℕ) → IsLawful net → IsRun net r → IsLimit search found limit
    → AreFar (edge_line net r.edge.0) search.at limit r.first r.end → HasSeen net search found r
seen_far net search found r limit lawful run is far e i has near =
    let same = same_d2 net r e i search.at lawful run has in
    is.far (segment_snap (edge_line net e) search.at i).d2 e i (omega (arith, far has.own has.from_first has.before_end, same)) near

-- where no place of its box is nearer than a number that is as far as the limit
pub far_box : (net : Net) (search : Search) (found : List NearEdge) (r : Run) (limit d2 : ℕ) → IsLawful net → IsRun net r → IsLimit search found limit → limit ≤ d2
    → ((q : Point) → InBox r.low r.high q → d2 ≤ distance2 search.at q) → HasSeen net search found r
far_box net search found r limit d2 lawful is lim le least =
    let line = edge_line net r.edge.0 in
    let p = search.at in
    seen_far net search found r limit lawful is lim (λ i from before.
    let a = point_at line i in
    let b = point_at line (i + 1) in
    let s : suc i ≡ i + 1 = omega arith in
    let differ = (lawful.lines r.edge.0 is.has).differ i (record { x = pos 0; y = pos 0 }) (omega (arith, before, is.run.within)) in
    let q : Point = snapped a b (share a b p) (distance2 b a) in
    let inside = segment_within line r i q is.run from before (snapped_in_box a b p differ) in
    let far : limit ≤ (snap_segment a b p).d2 = omega (arith, le, least q inside) in
    subst (λ k. limit ≤ (snap_segment a (point_at line k) p).d2) (sym s) far)

pub taken_steps : (net : Net) (search : Search) (old new : List NearEdge) (near : NearEdge) → AreBest net search old → IsNearEdge net search near → Takes search.k old new near → Steps net search old new
taken_steps net search old new near best is takes = record {
  best = record {
    few = takes.few;
    apart = takes.apart;
    each = all_contained (IsNearEdge net search) new (λ x there. ⊎_elim (λ m. of_contained (IsNearEdge net search) old x best.each m) (λ e. subst (IsNearEdge net search) (sym e) is) (takes.only x there));
  };
  keeps = takes.keeps;
}

pub pair_steps : (net : Net) (search : Search) (old new : List NearEdge) (a b : NearEdge) → AreBest net search old → IsNearEdge net search a → IsNearEdge net search b → TakesPair search.k old new a b
    → Steps net search old new
pair_steps net search old new a b best first second takes = record {
  best = record {
    few = takes.few;
    apart = takes.apart;
    each = all_contained (IsNearEdge net search) new (λ x there.
        ⊎_elim
        (λ m. of_contained (IsNearEdge net search) old x best.each m)
        (λ is. ⊎_elim (λ e. subst (IsNearEdge net search) (sym e) first) (λ e. subst (IsNearEdge net search) (sym e) second) is)
        (takes.only x there));
  };
  keeps = takes.keeps;
}

-- the first `count` runs that have their nearest place in this cell
abbrev pub HasSeenUpTo : Net → GridOf → Search → List NearEdge → List Run → ℕ → ℕ → ℕ → Type 0
HasSeenUpTo net g search found runs c w count =
    (i : ℕ) (d : Run) → i < count → IsNearestCell g.side search.at (get_or runs i d) c w → HasSeen net search found (get_or runs i d)

pub seen_one_more : (net : Net) (g : GridOf) (search : Search) (now new : List NearEdge) (runs : List Run) (c w count : ℕ) (x : Run) → count < length runs → get_or runs count x ≡ x
    → HasSeenUpTo net g search now runs c w count → Steps net search now new → (IsNearestCell g.side search.at x c w → HasSeen net search new x) → HasSeenUpTo net g search new runs c w (count + 1)
seen_one_more net g search now new runs c w count x lt is h steps one i d under cell =
    ⊎_elim
    (λ below. seen_still net search now new (get_or runs i d) steps (h i d below cell))
    (λ here.
    let e : count ≡ i = omega (arith, under, here) in
    let same : x ≡ get_or runs i d = sym is ∙ get_or_default runs count x d lt ∙ ap (λ v. get_or runs v d) e in
    subst (HasSeen net search new) same (one (subst (λ r. IsNearestCell g.side search.at r c w) (sym same) cell)))
    (cases_lt i count)

pub seen_cell : (net : Net) (g : GridOf) (search : Search) (found : List NearEdge) (runs : List Run) (c w count : ℕ) → runs ≡ runs_at g c w → length runs ≤ count
    → HasSeenUpTo net g search found runs c w count → HasSeenCell net g search found c w
seen_cell net g search found runs c w count are le h r there cell =
    let at = subst (λ l. Contains l r) (sym are) there in
    subst (HasSeen net search found) at.2 (h at.0 r (omega (arith, at.1, le)) (subst (λ v. IsNearestCell g.side search.at v c w) (sym at.2) cell))

-- the first `count` runs
abbrev pub HasSeenFirst : Net → Search → List NearEdge → List Run → ℕ → Type 0
HasSeenFirst net search found runs count = (i : ℕ) (d : Run) → i < count → HasSeen net search found (get_or runs i d)

pub seen_next : (net : Net) (search : Search) (now new : List NearEdge) (runs : List Run) (count : ℕ) (x : Run) → count < length runs → get_or runs count x ≡ x
    → HasSeenFirst net search now runs count → Steps net search now new → HasSeen net search new x → HasSeenFirst net search new runs (count + 1)
seen_next net search now new runs count x lt is h steps one i d under =
    ⊎_elim
    (λ below. seen_still net search now new (get_or runs i d) steps (h i d below))
    (λ here.
    let e : count ≡ i = omega (arith, under, here) in
    let same : x ≡ get_or runs i d = sym is ∙ get_or_default runs count x d lt ∙ ap (λ v. get_or runs v d) e in
    subst (HasSeen net search new) same one)
    (cases_lt i count)

pub seen_wide : (net : Net) (g : GridOf) (search : Search) (found : List NearEdge) (runs : List Run) (count : ℕ) → runs ≡ g.wide → length runs ≤ count
    → HasSeenFirst net search found runs count → HasSeenWide net g search found
seen_wide net g search found runs count are le h r there =
    let at = subst (λ l. Contains l r) (sym are) there in
    subst (HasSeen net search found) at.2 (h at.0 r (omega (arith, at.1, le)))

-- where the cell is as far as the limit
pub far_cell : (net : Net) (g : GridOf) (search : Search) (found : List NearEdge) (c w limit d2 : ℕ) → IsLawful net → g.net ≡ net → IsGrid g → IsLimit search found limit → limit ≤ d2
    → ((r : Run) (q : Point) → IsRun g.net r → IsNearestCell g.side search.at r c w → InBox r.low r.high q → d2 ≤ distance2 search.at q)
    → HasSeenCell net g search found c w
far_cell net g search found c w limit d2 lawful same grid lim le least r there cell =
    let is : IsRun g.net r = subst (IsRun g.net) there.2 (grid.cell_runs c w there.0 r there.1) in
    far_box net search found r limit d2 lawful (subst (λ n. IsRun n r) same is) lim le (λ q inside. least r q is cell inside)

pub cell_still : (net : Net) (g : GridOf) (search : Search) (old new : List NearEdge) (c w : ℕ) → Steps net search old new → HasSeenCell net g search old c w → HasSeenCell net g search new c w
cell_still net g search old new c w steps h r there cell = seen_still net search old new r steps (h r there cell)

pub row_still : (net : Net) (g : GridOf) (search : Search) (old new : List NearEdge) (left right w : ℕ) → Steps net search old new → HasSeenRow net g search old left right w → HasSeenRow net g search new left right w
row_still net g search old new left right w steps h c l lt = cell_still net g search old new c w steps (h c l lt)

pub wide_still : (net : Net) (g : GridOf) (search : Search) (old new : List NearEdge) → Steps net search old new → HasSeenWide net g search old → HasSeenWide net g search new
wide_still net g search old new steps h r there = seen_still net search old new r steps (h r there)

-- one more column
pub row_next : (net : Net) (g : GridOf) (search : Search) (now new : List NearEdge) (left column w : ℕ) → HasSeenRow net g search now left column w → Steps net search now new
    → HasSeenCell net g search new column w → HasSeenRow net g search new left (column + 1) w
row_next net g search now new left column w h steps one c le lt =
    ⊎_elim
    (λ below. cell_still net g search now new c w steps (h c le below))
    (λ here. let e : column ≡ c = omega (arith, lt, here) in subst (λ v. HasSeenCell net g search new v w) e one)
    (cases_lt c column)

pub row_up_to : (net : Net) (g : GridOf) (search : Search) (found : List NearEdge) (left column right w : ℕ) → right ≤ column → HasSeenRow net g search found left column w → HasSeenRow net g search found left right w
row_up_to net g search found left column right w le h c from lt = h c from (omega (arith, lt, le))

-- the own column, those behind it, and those before it
pub row_joined : (net : Net) (g : GridOf) (search : Search) (one two three : List NearEdge) (left own next right w : ℕ) → next ≤ own + 1
    → HasSeenCell net g search one own w → Steps net search one two → HasSeenRow net g search two next right w → Steps net search two three → HasSeenRow net g search three left own w
    → HasSeenRow net g search three left right w
row_joined net g search one two three left own next right w le here first behind second before c from lt =
    ⊎_elim
    (λ below. before c from below)
    (λ above.
    ⊎_elim
    (λ beyond. cell_still net g search two three c w second (behind c (omega (arith, beyond, le)) lt))
    (λ same.
    let e : own ≡ c = omega (arith, above, same) in
    subst (λ v. HasSeenCell net g search three v w) e (cell_still net g search two three own w second (cell_still net g search one two own w first here)))
    (cases_lt own c))
    (cases_lt c own)

-- one more row
pub rows_next : (net : Net) (g : GridOf) (search : Search) (now new : List NearEdge) (cells : Cells) (bottom row : ℕ) → HasSeenRows net g search now cells bottom row → Steps net search now new
    → HasSeenRow net g search new cells.left cells.right row → HasSeenRows net g search new cells bottom (row + 1)
rows_next net g search now new cells bottom row h steps one w le lt =
    ⊎_elim
    (λ below. row_still net g search now new cells.left cells.right w steps (h w le below))
    (λ here. let e : row ≡ w = omega (arith, lt, here) in subst (λ v. HasSeenRow net g search new cells.left cells.right v) e one)
    (cases_lt w row)

pub rows_up_to : (net : Net) (g : GridOf) (search : Search) (found : List NearEdge) (cells : Cells) (bottom row top : ℕ) → top ≤ row → HasSeenRows net g search found cells bottom row → HasSeenRows net g search found cells bottom top
rows_up_to net g search found cells bottom row top le h w from lt = h w from (omega (arith, lt, le))

pub rows_joined : (net : Net) (g : GridOf) (search : Search) (one two three : List NearEdge) (cells : Cells) (own next : ℕ) → next ≤ own + 1
    → HasSeenRow net g search one cells.left cells.right own → Steps net search one two → HasSeenRows net g search two cells next cells.top → Steps net search two three → HasSeenRows net g search three cells cells.bottom own
    → HasSeenRows net g search three cells cells.bottom cells.top
rows_joined net g search one two three cells own next le here first behind second before w from lt =
    let l = cells.left in
    let r = cells.right in
    ⊎_elim
    (λ below. before w from below)
    (λ above.
    ⊎_elim
    (λ beyond. row_still net g search two three l r w second (behind w (omega (arith, beyond, le)) lt))
    (λ same.
    let e : own ≡ w = omega (arith, above, same) in
    subst (λ v. HasSeenRow net g search three l r v) e (row_still net g search two three l r own second (row_still net g search one two l r own first here)))
    (cases_lt own w))
    (cases_lt w own)

pub rows_still : (net : Net) (g : GridOf) (search : Search) (old new : List NearEdge) (cells : Cells) (bottom top : ℕ) → Steps net search old new → HasSeenRows net g search old cells bottom top → HasSeenRows net g search new cells bottom top
rows_still net g search old new cells bottom top steps h w le lt = row_still net g search old new cells.left cells.right w steps (h w le lt)

-- what holds of each of two facts after Ok holds of both
pub on_ok_both : {A E : Type 0} {P Q R : Type 0} (r : Result A E) → (P → Q → R) → OnOk r P → OnOk r Q → OnOk r R
on_ok_both (Ok x) f p q = f p q
on_ok_both (Err e) f p q = tt
