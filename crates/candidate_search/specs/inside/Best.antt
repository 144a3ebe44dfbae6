-- The nearest edges so far, while runs are visited in any order.
use Rattle.std.specs.Prelude.{ℕ, ◌≡◌, ◌+◌, ◌*◌, ◌<◌, ◌≤◌, ◌⊎◌, Some, List, length, slice_index_or, take}
use Rattle.std.specs.List.{All, AllPairs, Contains, insert}
use Rattle.polyline_geometry.specs.declared.line.NearSegments.{NearSegments}
use Rattle.polyline_geometry.specs.Nearest.{AreNearest, segment_snap}
use Rattle.road_network.specs.declared.EdgeId.{EdgeId}
use Rattle.road_network.specs.Net.{Net, HasEdge, edge_line}
use Rattle.grid_index.specs.declared.cells.Cells.{Cells}
use Rattle.grid_index.specs.declared.runs.Run.{Run}
use Rattle.grid_index.specs.GridOf.{GridOf, runs_at}
use Rattle.grid_index.specs.NearestCell.{IsNearestCell}
use Rattle.grid_index.specs.Runs.{HasSegment, IsRun, twin_of_run}
use Rattle.candidate_search.specs.declared.best.NearEdge.{NearEdge}
use Rattle.candidate_search.specs.declared.wanted.Search.{Search}

-- edge e at the first squared distance comes before edge f at the second
pub record Precedes (d2 e far f : ℕ) : Type 0 where
  pub near : d2 ≤ far
  pub tie : far ≤ d2 → e < f

abbrev pub ComesBefore : NearEdge → NearEdge → Type 0
ComesBefore a b = Precedes a.d2 a.edge.0 b.d2 b.edge.0

-- the first comes before the second, and is of another edge
pub record IsApart (a b : NearEdge) : Type 0 where
  pub before : ComesBefore a b
  pub differ : a.edge.0 ≡ b.edge.0 → ⊥

-- in order, each edge once
abbrev pub AreApart : List NearEdge → Type 0
AreApart found = AllPairs IsApart found

-- this segment is nearer than segment i at this squared distance, or as near and no later on the line
pub record IsNoLater (c : NearEdge) (d2 i : ℕ) : Type 0 where
  pub near : c.d2 ≤ d2
  pub tie : d2 ≤ c.d2 → c.segment ≤ i

-- segment i of edge e, at this squared distance, is told of: the edge is among those found, with this
-- segment or one that goes before it
pub record IsToldOf (found : List NearEdge) (d2 e i : ℕ) : Type 0 where
  pub entry : NearEdge
  pub there : Contains found entry
  pub edge_is : entry.edge.0 ≡ e
  pub no_later : IsNoLater entry d2 i

-- k are found that come before edge e at this squared distance
pub record IsBehind (k : ℕ) (found : List NearEdge) (d2 e : ℕ) : Type 0 where
  pub full : length found ≡ k
  pub before : All (λ c. Precedes c.d2 c.edge.0 d2 e) found

abbrev pub IsAccounted : ℕ → List NearEdge → ℕ → ℕ → ℕ → Type 0
IsAccounted k found d2 e i = IsToldOf found d2 e i ⊎ IsBehind k found d2 e

-- what was accounted for still is
abbrev pub Keeps : ℕ → List NearEdge → List NearEdge → Type 0
Keeps k old new = (d2 e i : ℕ) → IsAccounted k old d2 e i → IsAccounted k new d2 e i

-- one more segment is taken
pub record Takes (k : ℕ) (old new : List NearEdge) (near : NearEdge) : Type 0 where
  pub few : length new ≤ k
  pub apart : AreApart new
  pub only : (x : NearEdge) → Contains new x → Contains old x ⊎ (x ≡ near)
  pub keeps : Keeps k old new
  pub taken : IsAccounted k new near.d2 near.edge.0 near.segment

-- a segment of each of two edges is taken
pub record TakesPair (k : ℕ) (old new : List NearEdge) (a b : NearEdge) : Type 0 where
  pub few : length new ≤ k
  pub apart : AreApart new
  pub only : (x : NearEdge) → Contains new x → Contains old x ⊎ ((x ≡ a) ⊎ (x ≡ b))
  pub keeps : Keeps k old new
  pub first_taken : IsAccounted k new a.d2 a.edge.0 a.segment
  pub second_taken : IsAccounted k new b.d2 b.edge.0 b.segment

-- if k are found, it comes before everything that comes after all of them
abbrev pub IsWanted : ℕ → List NearEdge → NearEdge → Type 0
IsWanted k found near =
    (d2 e : ℕ) → length found ≡ k → All (λ c. Precedes c.d2 c.edge.0 d2 e) found
    → Precedes near.d2 near.edge.0 d2 e

-- the place of the first that comes after it
pub record IsPlaceFor (found : List NearEdge) (near : NearEdge) (place : ℕ) : Type 0 where
  pub within : place ≤ length found
  pub before : (i : ℕ) (d : NearEdge) → i < place → ComesBefore (slice_index_or found i d) near
  pub after : (i : ℕ) (d : NearEdge) → place ≤ i → i < length found → ComesBefore near (slice_index_or found i d)

-- it is put at its place
pub record Inserts (old new : List NearEdge) (near : NearEdge) : Type 0 where
  pub place : ℕ
  pub place_is : IsPlaceFor old near place
  pub list : new ≡ insert old place near

-- it is put at its place, and what is then beyond the first k is dropped
pub record Puts (k : ℕ) (old new : List NearEdge) (near : NearEdge) : Type 0 where
  pub place : ℕ
  pub place_is : IsPlaceFor old near place
  pub list : new ≡ take k (insert old place near)

-- neither edge is among those found
abbrev pub HasNeither : List NearEdge → ℕ → ℕ → Type 0
HasNeither found e f = All (λ c. (c.edge.0 ≡ e → ⊥) × (c.edge.0 ≡ f → ⊥)) found

-- two edges in order, neither of which is found yet, and no k are found that come before the second
pub record IsNewPair (k : ℕ) (found : List NearEdge) (a b : NearEdge) : Type 0 where
  pub near : a.d2 ≤ b.d2
  pub below : a.edge.0 < b.edge.0
  pub wanted : IsBehind k found b.d2 b.edge.0 → ⊥
  pub neither : HasNeither found a.edge.0 b.edge.0

-- each is put at its place, and what is then beyond the first k is dropped
pub record PutsPair (k : ℕ) (old new : List NearEdge) (a b : NearEdge) : Type 0 where
  pub place : ℕ
  pub next : ℕ
  pub place_is : IsPlaceFor old a place
  pub next_is : IsPlaceFor (insert old place a) b next
  pub list : new ≡ take k (insert (insert old place a) next b)

-- the place of the edge among those found, or their number
pub record IsPlaceOf (found : List NearEdge) (e place : ℕ) : Type 0 where
  pub within : place ≤ length found
  pub before : (i : ℕ) (d : NearEdge) → i < place → (slice_index_or found i d).edge.0 ≡ e → ⊥
  pub here : (d : NearEdge) → place < length found → (slice_index_or found place d).edge.0 ≡ e

-- a segment of the network, within the radius
pub record IsNearEdge (net : Net) (search : Search) (c : NearEdge) : Type 0 where
  pub has : HasEdge net c.edge.0
  pub within : c.segment + 1 < length (edge_line net c.edge.0)
  pub d2_is : c.d2 ≡ (segment_snap (edge_line net c.edge.0) search.at c.segment).d2
  pub near : c.d2 ≤ search.radius * search.radius

pub record AreBest (net : Net) (search : Search) (found : List NearEdge) : Type 0 where
  pub few : length found ≤ search.k
  pub apart : AreApart found
  pub each : All (IsNearEdge net search) found

-- the limit: no segment that is as far is wanted
pub record IsLimit (search : Search) (found : List NearEdge) (limit : ℕ) : Type 0 where
  pub low : limit ≤ search.radius * search.radius + 1
  pub far : (d2 e i : ℕ) → limit ≤ d2 → d2 ≤ search.radius * search.radius → IsAccounted search.k found d2 e i

-- the segments of the run within the radius are accounted for, each with those of its twin
abbrev pub HasSeen : Net → Search → List NearEdge → Run → Type 0
HasSeen net search found r =
    (e i : ℕ) → HasSegment net r e i
    → (segment_snap (edge_line net e) search.at i).d2 ≤ search.radius * search.radius
    → IsAccounted search.k found (segment_snap (edge_line net e) search.at i).d2 e i

-- the segments of the run's own edge are
abbrev pub HasSeenOwn : Net → Search → List NearEdge → Run → Type 0
HasSeenOwn net search found r =
    (i : ℕ) → r.first ≤ i → i < r.end
    → IsAccounted search.k found (segment_snap (edge_line net r.edge.0) search.at i).d2 r.edge.0 i

-- the segments of the twin are, where there is one
abbrev pub HasSeenTwin : Net → Search → List NearEdge → Run → Type 0
HasSeenTwin net search found r =
    (twin : EdgeId) → twin_of_run r ≡ Some twin
    → (i own : ℕ) → r.first ≤ own → own < r.end → i + own + 2 ≡ length (edge_line net r.edge.0)
    → IsAccounted search.k found (segment_snap (edge_line net r.edge.0) search.at own).d2 twin.0 i

-- the first and the last of the nearest segments of the run, within the radius
pub record AreNearestIn (net : Net) (search : Search) (r : Run) (near : NearSegments) : Type 0 where
  pub run : IsRun net r
  pub nearest : AreNearest (edge_line net r.edge.0) search.at r.first r.end near
  pub close : near.d2 ≤ search.radius * search.radius

-- the first of the nearest segments of the twin: the last of the run's, from the line's end
pub record IsNearestOfTwin (net : Net) (r : Run) (twin : EdgeId) (near : NearSegments) (c : NearEdge) : Type 0 where
  pub edge_is : c.edge ≡ twin
  pub segment_is : c.segment + near.last + 2 ≡ length (edge_line net r.edge.0)
  pub d2_is : c.d2 ≡ near.d2

-- the runs that have their nearest place in this cell
abbrev pub HasSeenCell : Net → GridOf → Search → List NearEdge → ℕ → ℕ → Type 0
HasSeenCell net g search found c w =
    (r : Run) → Contains (runs_at g c w) r → IsNearestCell g.side search.at r c w
    → HasSeen net search found r

abbrev pub HasSeenRow : Net → GridOf → Search → List NearEdge → ℕ → ℕ → ℕ → Type 0
HasSeenRow net g search found left right w =
    (c : ℕ) → left ≤ c → c < right → HasSeenCell net g search found c w

abbrev pub HasSeenRows : Net → GridOf → Search → List NearEdge → Cells → ℕ → ℕ → Type 0
HasSeenRows net g search found cells bottom top =
    (w : ℕ) → bottom ≤ w → w < top → HasSeenRow net g search found cells.left cells.right w

abbrev pub HasSeenWide : Net → GridOf → Search → List NearEdge → Type 0
HasSeenWide net g search found = (r : Run) → Contains g.wide r → HasSeen net search found r

-- from these to those
pub record Steps (net : Net) (search : Search) (old new : List NearEdge) : Type 0 where
  pub best : AreBest net search new
  pub keeps : Keeps search.k old new
