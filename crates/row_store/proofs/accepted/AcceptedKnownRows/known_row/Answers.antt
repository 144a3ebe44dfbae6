use Rattle.std.proofs.Common.{ℕ, ◌<◌, length, sym, subst, arith}
use Rattle.bounded_table.specs.Table.{BoundedTable, IsRow}
use Rattle.std.specs.Prelude.{slice_index}
use Rattle.row_store.specs.inside.Places.{Fits}
use Rattle.row_store.specs.declared.place.Place.{Place}
use Rattle.row_store.proofs.Places.{fits_at}
use Rattle.row_store.proofs.accepted.AcceptedKnownRows.known_row.Goals as goal

pub returns-in-Some : goal.returns-in-Some
returns-in-Some c =
    let i = c.self.invariant in
    let n : ℕ = c.args.n.0 in
    let slots = c.self.inside.vouchers.now in
    let has : n < length slots.network.nodes = subst (λ (t : BoundedTable). n < length t.network.nodes) (sym c.self.view_is) c.requires in
    let fit : Fits slots.network slots.bound n (slice_index slots.cells n) c.index-self-n.result = fits_at slots c.self.inside.places.now n c.index-self-n.result i.1 (omega (arith, has, i.0)) c.index-self-n.is in
    subst (λ (t : BoundedTable). IsRow t.network t.bound n c.in-Some.row.now) c.self.view_is (c.in-Some.ensures slots.network slots.bound n (slice_index slots.cells n) (subst (λ (p : Place). Fits slots.network slots.bound n (slice_index slots.cells n) p) c.index-self-n.is fit))
