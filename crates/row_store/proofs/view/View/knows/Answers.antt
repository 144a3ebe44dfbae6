use Rattle.std.proofs.Common.{ℕ, ◌<◌, ◌∙◌, refl, sym, subst}
use Rattle.row_store.specs.inside.Views.{viewing_of}
use Rattle.row_store.proofs.Places.{fits_at, known_there, shows}
use Rattle.row_store.proofs.view.View.knows.Goals as goal

pub returns : goal.returns
returns c =
    let i = c.requires.is in
    let n = c.args.n.0 in
    let items = c.args.self.now.places.items in
    let h = subst (λ (m : ℕ). n < m) (sym i.places_count) c.requires.node in
    let x = c.index.result.now in
    let f = fits_at c.args.self.now.slots.now items n x i.fit h c.index.ensures in
    let k = known_there (viewing_of c.args.self.now) _ items n x refl h c.index.ensures in
    c.is_known.ensures ∙ shows x.seen x.note.known (viewing_of c.args.self.now) n f.known k
