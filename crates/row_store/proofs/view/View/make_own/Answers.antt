use Rattle.std.proofs.Common.{ℕ, ◌<◌, ◌∙◌, refl, sym, subst, length-set}
use Rattle.bounded_table.proofs.KnownNodes.{get_set}
use Rattle.row_store.specs.inside.Views.{viewing_of}
use Rattle.row_store.proofs.Places.{all_fit, fits_at, known_as, known_here, known_there, right_ready, same_reading, some_is, on_ok}
use Rattle.row_store.proofs.view.View.make_own.Goals as goal

pub make_own-requires : goal.make_own-requires
make_own-requires c =
    let i = c.requires.0.is in
    let h = subst (λ (m : ℕ). c.args.n.0 < m) (sym i.places_count) c.requires.0.node in
    record {
      node = c.requires.0.node;
      cells_count = i.cells_count;
      judge = i.judge;
      fits = fits_at c.args.self.now.slots.now _ _ _ i.fit h c.index_mut-place.ensures.value;
    }

pub returns-clause-stays : goal.returns-clause-stays
returns-clause-stays c =
    let i = c.requires.0.is in
    record {
      slots = refl;
      is = record {
        cells_count = i.cells_count;
        places_count = length-set _ _ _ ∙ i.places_count;
        fit = all_fit _ _ _ _ c.make_own.ensures.place.fits i.fit;
        judge = c.make_own.ensures.place.judge;
      };
    }

pub returns-clause-same : goal.returns-clause-same
returns-clause-same c =
    let i = c.requires.0.is in
    let h = subst (λ (m : ℕ). c.args.n.0 < m) (sym i.places_count) c.requires.0.node in
    same_reading _ _ _ _ _ _ refl h c.index_mut-place.ensures.value c.make_own.ensures.same

pub returns-clause-row : goal.returns-clause-row
returns-clause-row c =
    let i = c.requires.0.is in
    let n = c.args.n.0 in
    let h = subst (λ (m : ℕ). n < m) (sym i.places_count) c.requires.0.node in
    let there = known_there (viewing_of c.args.self.now) c.args.self.now.slots.now c.args.self.now.places.items n _ refl h c.index_mut-place.ensures.value in
    let here = known_here _ (viewing_of c.args.self.now).places n there c.requires.1 in
    on_ok _ _ c.make_own.result (λ ready. record {
      place = c.make_own.new.self;
      at = get_set _ n c.make_own.new.self h;
      known = some_is _ here.0 (c.make_own.ensures.same ∙ here.1);
      ready = ready;
    }) c.make_own.ensures.ready

pub returns-clause-again : goal.returns-clause-again
returns-clause-again c known =
    let i = c.requires.0.is in
    let n = c.args.n.0 in
    let h = subst (λ (m : ℕ). n < m) (sym i.places_count) c.requires.0.node in
    let there = known_there (viewing_of c.args.self.now) c.args.self.now.slots.now c.args.self.now.places.items n _ refl h c.index_mut-place.ensures.value in
    let some = known_as _ (viewing_of c.args.self.now).places n known.0 there known.1 in
    let fits = fits_at c.args.self.now.slots.now c.args.self.now.places.items n _ i.fit h c.index_mut-place.ensures.value in
    (c.make_own.ensures.again (right_ready _ _ n _ known.0 fits.checked (sym fits.known ∙ some) known.2)).0
