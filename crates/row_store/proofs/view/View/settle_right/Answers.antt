use Rattle.std.proofs.Common.{ℕ, ◌<◌, ◌∙◌, refl, sym, subst, length-set}
use Rattle.row_store.specs.inside.Views.{viewing_of}
use Rattle.row_store.proofs.Places.{all_fit, fits_at, settled_seen, settled_err, known_there, known_not, on_ok, on_err, ok_or_none}
use Rattle.row_store.proofs.view.View.settle_right.Goals as goal

pub offer_right-requires-clause-place : goal.offer_right-requires-clause-place
offer_right-requires-clause-place c =
    let i = c.requires.at.is in
    let h = subst (λ (m : ℕ). c.args.n.0 < m) (sym i.places_count) c.requires.at.node in
    record {
      node = c.requires.at.node;
      cells_count = i.cells_count;
      judge = i.judge;
      fits = fits_at c.args.self.now.slots.now _ _ _ i.fit h c.index_mut-place.ensures.value;
    }

pub returns-clause-stays : goal.returns-clause-stays
returns-clause-stays c =
    let i = c.requires.at.is in
    record {
      slots = refl;
      is = record {
        cells_count = i.cells_count;
        places_count = length-set _ _ _ ∙ i.places_count;
        fit = all_fit _ _ _ _ c.offer_right.ensures.place.fits i.fit;
        judge = c.offer_right.ensures.place.judge;
      };
    }

pub returns-clause-seen : goal.returns-clause-seen
returns-clause-seen c =
    let i = c.requires.at.is in
    let h = subst (λ (m : ℕ). c.args.n.0 < m) (sym i.places_count) c.requires.at.node in
    on_ok _ _ c.offer_right.result (settled_seen _ _ _ _ _ _ refl h c.index_mut-place.ensures.value) c.offer_right.ensures.seen

pub returns-clause-err : goal.returns-clause-err
returns-clause-err c =
    let i = c.requires.at.is in
    let h = subst (λ (m : ℕ). c.args.n.0 < m) (sym i.places_count) c.requires.at.node in
    on_err _ _ c.offer_right.result (settled_err _ _ _ _ _ _ refl h c.index_mut-place.ensures.value) c.offer_right.ensures.err

pub returns-clause-again : goal.returns-clause-again
returns-clause-again c known =
    let i = c.requires.at.is in
    let h = subst (λ (m : ℕ). c.args.n.0 < m) (sym i.places_count) c.requires.at.node in
    ok_or_none _ c.offer_right.result c.offer_right.ensures.err (λ none. known_not _ _ c.args.n.0 (known_there (viewing_of c.args.self.now) c.args.self.now.slots.now c.args.self.now.places.items c.args.n.0 _ refl h c.index_mut-place.ensures.value) known none.0)
