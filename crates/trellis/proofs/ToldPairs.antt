-- A memory of pairs, with one pair more.
use Rattle.std.proofs.Common.{◌≡◌, ℕ, ◌<◌, ◌≤◌, List, length, set, Option, Some, None, refl, sym, ap, ◌∙◌, subst, arith, inl, inr}
use Rattle.std.specs.Prelude.{slice_get}
use Rattle.std.proofs.lemmas.Bool.{cases_eq}
use Rattle.std.proofs.lemmas.Option.{same_Some}
use Rattle.std.specs.Option.{option_map}
use Rattle.bounded_table.specs.declared.table_row.Entry.{Entry}
use Rattle.bounded_table.specs.declared.table_row.Label.{Label}
use Rattle.bounded_table.specs.Table.{BoundedTable, TableRow, IsNearRow, IsRow, entry_in, label_in, label_of}
use Rattle.bounded_table.proofs.KnownNodes.{get_set, get_set_else}
use Rattle.bounded_table.proofs.OneRow.{listed_too, one_row}
use Rattle.bounded_table.proofs.RowValues.{row_of_is}
use Rattle.bounded_table.specs.RowValue.{row_of}
use Rattle.matching.specs.Routes.{Direct, HasNoRoute, IsRoute}
use Rattle.road_network.specs.declared.Candidate.{Candidate}
use Rattle.road_network.specs.Net.{HasEdge, HasNode, IsLawful, Net, source, target}
use Rattle.trellis.proofs.RouteOfRow.{IsOverWalk, no_route, told_entry, told_walk}
use Rattle.trellis.specs.declared.pairs.NearRow.{NearRow}
use Rattle.trellis.specs.declared.pairs.Told.{Told}
use Rattle.trellis.specs.Pairs.{IsTold, TellsPair, TellsReached, distance_in, pairs_of, reached_by}
use Rattle.trellis.specs.inside.PairsInside.{ArePlaces}

pub places_more : (table : BoundedTable) (places : List (Option Told)) (i : ℕ) (told : Told) → ArePlaces table places → i < length places
    → TellsPair table told.origin told.node told.distance → ArePlaces table (set places i (Some told))
places_more table places i told h lt tells k other e =
    elim (cases_eq k i) [
      | inl same ↦
          let got : slice_get (set places i (Some told)) k ≡ Some (Some told) = rw same (get_set places i (Some told) lt) in
          let one : Some (Some told) ≡ Some (Some other) = sym got ∙ e in
          let is : told ≡ other = cc in
          subst (λ (x : Told). TellsPair table x.origin x.node x.distance) is tells
      | inr apart ↦ h k other (sym (get_set_else places i k (Some told) apart) ∙ e)
    ]

-- an entry that has this label, and its distance
entry_labelled : (o : Option Entry) (x : Entry) → option_map label_of o ≡ Some (label_of x) → option_map (λ (y : Entry). y.distance) o ≡ Some x.distance
entry_labelled None x e = absurd (cc)
entry_labelled (Some y) x e =
    let same : label_of y ≡ label_of x = same_Some (label_of y) (label_of x) e in
    ap (λ (l : Label). Some l.distance) same

-- what one row says of a node that it lists, the row within the whole bound says
near_tells : (table : BoundedTable) (reach s node : ℕ) (row : TableRow) (x : Entry) → IsNearRow table.network reach table.bound s row
    → entry_in row.entries node ≡ Some x → TellsPair table s node (Some x.distance)
near_tells table reach s node row x near listed = λ whole h.
    let label = listed_too table.network near.within table.bound s (label_in row.entries) (label_in whole.entries) near.no_further near.is.table h.table
    node (label_of x) (ap (option_map label_of) listed) in
    entry_labelled (entry_in whole.entries node) x label

-- and a row within the whole bound says it of each node
row_tells : (table : BoundedTable) (reach s node : ℕ) (row : TableRow) → IsNearRow table.network reach table.bound s row → table.bound ≤ reach
    → TellsPair table s node (distance_in row node)
row_tells table reach s node row near whole = λ other h.
    let same : near.within ≡ table.bound = omega (arith, near.reaches, near.no_further, whole) in
    let is = subst (λ b. IsRow table.network b s row) same near.is in
    ap (λ (r : TableRow). distance_in r node) (one_row table.network table.bound s other row h is)

-- what a row tells of a node, which it lists if it may be shorter than the bound
pub pair_told : (table : BoundedTable) (reach s node : ℕ) (row : TableRow) (distance : Option ℕ) → IsNearRow table.network reach table.bound s row
    → distance ≡ distance_in row node → (distance ≡ None → table.bound ≤ reach) → TellsPair table s node distance
pair_told table reach s node row None near is whole = subst (TellsPair table s node) (sym is) (row_tells table reach s node row near (whole refl))
pair_told table reach s node row (Some d) near is whole =
    let x = told_entry (entry_in row.entries node) d (sym is) in
    subst (λ k. TellsPair table s node (Some k)) x.2 (near_tells table reach s node row x.0 near (sym x.1))

-- a distance of the row within the whole bound, as it is told
pub told_reached : (table : BoundedTable) (near : NearRow) (node : ℕ) (distance : Option ℕ) → TellsPair table near.origin.0 node distance
    → TellsReached table near node (reached_by distance)
told_reached table near node None tells = tells
told_reached table near node (Some d) tells = tells

pub is_told : (distance : Option ℕ) → IsTold (reached_by distance)
is_told None = tt
is_told (Some d) = tt

-- ---- routes that are told

-- what is told of a pair, in the words of the row within the whole bound
told_whole : (n : Net) (bound s v : ℕ) (table : BoundedTable) (origin node : ℕ) (distance : Option ℕ) → IsLawful n → HasNode n s
    → table ≡ pairs_of n bound → origin ≡ s → node ≡ v → TellsPair table origin node distance → distance_in (row_of n bound s) v ≡ distance
told_whole n bound s v table origin node distance lawful has table_is origin_is node_is tells =
    let on : TellsPair (pairs_of n bound) origin node distance = subst (λ (t : BoundedTable). TellsPair t origin node distance) table_is tells in
    let from : TellsPair (pairs_of n bound) s node distance = subst (λ k. TellsPair (pairs_of n bound) k node distance) origin_is on in
    ap (distance_in (row_of n bound s)) (sym node_is) ∙ from (row_of n bound s) (row_of_is n bound s lawful has)

-- a pair between two candidates: the node where the edge of a ends, and the one where that of b begins
pub record IsBetween (n : Net) (bound : ℕ) (a b : Candidate) (table : BoundedTable) (origin node : ℕ) : Type 0 where
  pub lawful : IsLawful n
  pub edge : HasEdge n a.edge.0
  pub table_is : table ≡ pairs_of n bound
  pub origin_is : origin ≡ target n a.edge.0
  pub node_is : node ≡ source n b.edge.0

pub over_told : (n : Net) (bound back : ℕ) (a b : Candidate) (table : BoundedTable) (origin node d : ℕ) → IsBetween n bound a b table origin node
    → TellsPair table origin node (Some d) → (IsRoute n bound back a b Direct → ⊥) → IsOverWalk n bound back a b d
over_told n bound back a b table origin node d pair tells none =
    let s : ℕ = target n a.edge.0 in
    let has : HasNode n s = pair.lawful.targets a.edge.0 pair.edge in
    told_walk n bound back a b (row_of n bound s) d (row_of_is n bound s pair.lawful has)
    (told_whole n bound s (source n b.edge.0) table origin node (Some d) pair.lawful has pair.table_is pair.origin_is pair.node_is tells) none

pub none_told : (n : Net) (bound back : ℕ) (a b : Candidate) (table : BoundedTable) (origin node : ℕ) → IsBetween n bound a b table origin node
    → TellsPair table origin node None → (IsRoute n bound back a b Direct → ⊥) → HasNoRoute n bound back a b
none_told n bound back a b table origin node pair tells none =
    let s : ℕ = target n a.edge.0 in
    let has : HasNode n s = pair.lawful.targets a.edge.0 pair.edge in
    no_route n bound back a b (row_of n bound s) (row_of_is n bound s pair.lawful has)
    (told_whole n bound s (source n b.edge.0) table origin node None pair.lawful has pair.table_is pair.origin_is pair.node_is tells) none
