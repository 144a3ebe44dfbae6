use Rattle.std.proofs.Common.{ℕ, ◌<◌, refl, sym, subst}
use Rattle.std.specs.Prelude.{slice_index}
use Rattle.row_store.specs.inside.Views.{viewing_of}
use Rattle.row_store.proofs.Places.{fits_at, known_there, not_blind, sight_row, sight_checked}
use Rattle.row_store.proofs.view.View.sight.Goals as goal

pub unreachable-requires : goal.unreachable-requires
unreachable-requires c =
    let i = c.requires.0.is in
    let h = subst (λ (m : ℕ). c.args.n.0 < m) (sym i.places_count) c.requires.0.node in
    let f = fits_at c.args.self.now.slots.now c.args.self.now.places.items c.args.n.0 c.index.result.now i.fit h c.index.ensures in
    not_blind _ _ _ c.args.n.0 f.known (known_there (viewing_of c.args.self.now) c.args.self.now.slots.now c.args.self.now.places.items c.args.n.0 c.index.result.now refl h c.index.ensures) c.requires.1 c.in-Nothing.is

pub returns-in-Right-clause-row : goal.returns-in-Right-clause-row
returns-in-Right-clause-row c =
    let i = c.requires.0.is in
    let h = subst (λ (m : ℕ). c.args.n.0 < m) (sym i.places_count) c.requires.0.node in
    let f = fits_at c.args.self.now.slots.now c.args.self.now.places.items c.args.n.0 c.index.result.now i.fit h c.index.ensures in
    sight_row (viewing_of c.args.self.now) c.args.self.now.slots.now c.args.self.now.places.items c.args.n.0 (slice_index c.args.self.now.slots.now.cells c.args.n.0) c.index.result.now _ refl h c.index.ensures f c.in-Right.is

pub returns-in-Right-clause-table : goal.returns-in-Right-clause-table
returns-in-Right-clause-table c =
    let i = c.requires.0.is in
    let h = subst (λ (m : ℕ). c.args.n.0 < m) (sym i.places_count) c.requires.0.node in
    let f = fits_at c.args.self.now.slots.now c.args.self.now.places.items c.args.n.0 c.index.result.now i.fit h c.index.ensures in
    ((λ _. sight_checked (viewing_of c.args.self.now) c.args.self.now.slots.now c.args.self.now.places.items c.args.n.0 (slice_index c.args.self.now.slots.now.cells c.args.n.0) c.index.result.now _ refl f c.in-Right.is), λ _. tt)

pub returns-in-Foreign-clause-row : goal.returns-in-Foreign-clause-row
returns-in-Foreign-clause-row c =
    let i = c.requires.0.is in
    let h = subst (λ (m : ℕ). c.args.n.0 < m) (sym i.places_count) c.requires.0.node in
    let f = fits_at c.args.self.now.slots.now c.args.self.now.places.items c.args.n.0 c.index.result.now i.fit h c.index.ensures in
    sight_row (viewing_of c.args.self.now) c.args.self.now.slots.now c.args.self.now.places.items c.args.n.0 (slice_index c.args.self.now.slots.now.cells c.args.n.0) c.index.result.now _ refl h c.index.ensures f c.in-Foreign.is

pub returns-in-Foreign-clause-table : goal.returns-in-Foreign-clause-table
returns-in-Foreign-clause-table c =
    let i = c.requires.0.is in
    let h = subst (λ (m : ℕ). c.args.n.0 < m) (sym i.places_count) c.requires.0.node in
    let f = fits_at c.args.self.now.slots.now c.args.self.now.places.items c.args.n.0 c.index.result.now i.fit h c.index.ensures in
    ((λ x. absurd x), λ is. absurd (sight_checked (viewing_of c.args.self.now) c.args.self.now.slots.now c.args.self.now.places.items c.args.n.0 (slice_index c.args.self.now.slots.now.cells c.args.n.0) c.index.result.now _ refl f c.in-Foreign.is is))

pub returns-in-Replaced-clause-row : goal.returns-in-Replaced-clause-row
returns-in-Replaced-clause-row c =
    let i = c.requires.0.is in
    let h = subst (λ (m : ℕ). c.args.n.0 < m) (sym i.places_count) c.requires.0.node in
    let f = fits_at c.args.self.now.slots.now c.args.self.now.places.items c.args.n.0 c.index.result.now i.fit h c.index.ensures in
    rw c.deref.ensures (sight_row (viewing_of c.args.self.now) c.args.self.now.slots.now c.args.self.now.places.items c.args.n.0 (slice_index c.args.self.now.slots.now.cells c.args.n.0) c.index.result.now _ refl h c.index.ensures f c.in-Replaced.is)

pub returns-in-Replaced-clause-table : goal.returns-in-Replaced-clause-table
returns-in-Replaced-clause-table c =
    let i = c.requires.0.is in
    let h = subst (λ (m : ℕ). c.args.n.0 < m) (sym i.places_count) c.requires.0.node in
    let f = fits_at c.args.self.now.slots.now c.args.self.now.places.items c.args.n.0 c.index.result.now i.fit h c.index.ensures in
    rw c.deref.ensures ((λ x. absurd x), λ is. absurd ((sight_checked (viewing_of c.args.self.now) c.args.self.now.slots.now c.args.self.now.places.items c.args.n.0 (slice_index c.args.self.now.slots.now.cells c.args.n.0) c.index.result.now _ refl f c.in-Replaced.is).0 is))
