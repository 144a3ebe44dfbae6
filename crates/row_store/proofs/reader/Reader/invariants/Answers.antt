use Rattle.std.proofs.Common.{◌≡◌, [], length, subst}
use Rattle.std.specs.Prelude.{MatchOption}
use Rattle.row_store.specs.Store.{Reading, table_slots}
use Rattle.row_store.proofs.Kept.{near_places_count, view_places}
use Rattle.row_store.proofs.reader.Reader.invariants.Goals as goal

pub returns-clause-places : goal.returns-clause-places
returns-clause-places c =
    let store = c.self.inside.store.now in
    subst (λ (r : Reading). length r.places ≡ length r.store.network.nodes) c.self.view_is (view_places (table_slots store) c.self.inside.table c.self.invariant.table)

pub returns-clause-near : goal.returns-clause-near
returns-clause-near c =
    let store = c.self.inside.store.now in
    subst (λ (r : Reading). MatchOption r.store.near (r.near ≡ []) (λ _. length r.near ≡ length r.store.network.nodes)) c.self.view_is (near_places_count store store.near c.self.inside.near c.self.invariant.near)
