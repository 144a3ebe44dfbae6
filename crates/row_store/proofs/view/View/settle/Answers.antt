use Rattle.std.proofs.Common.{ℕ, ◌≡◌, ◌<◌, ◌∙◌, OnErr, OnOk, refl, sym, ap, subst, length-set}
use Rattle.bounded_table.specs.Table.{TableRow}
use Rattle.row_store.specs.Store.{Viewing, Sees}
use Rattle.row_store.specs.declared.view.View.{View}
use Rattle.row_store.specs.inside.Views.{IsViewAt, StaysView, viewing_of}
use Rattle.row_store.proofs.Places.{all_fit, fits_at, settled_seen, unseen, err_so}
use Rattle.row_store.proofs.view.View.settle.Goals as goal

pub look-held-requires : goal.look-held-requires
look-held-requires c =
    let i = c.requires.is in
    let h = subst (λ (m : ℕ). c.args.n.0 < m) (sym i.places_count) c.requires.node in
    record {
      node = c.requires.node;
      cells_count = i.cells_count;
      judge = i.judge;
      fits = fits_at c.args.self.now.slots.now _ _ _ i.fit h c.index_mut-place.ensures.value;
    }

pub returns-then-held-clause-stays : goal.returns-then-held-clause-stays
returns-then-held-clause-stays c =
    let i = c.requires.is in
    record {
      slots = refl;
      is = record {
        cells_count = i.cells_count;
        places_count = length-set _ _ _ ∙ i.places_count;
        fit = all_fit _ _ _ _ c.look-held.ensures.place.fits i.fit;
        judge = c.look-held.ensures.place.judge;
      };
    }

pub returns-then-held-clause-seen : goal.returns-then-held-clause-seen
returns-then-held-clause-seen c =
    let i = c.requires.is in
    let h = subst (λ (m : ℕ). c.args.n.0 < m) (sym i.places_count) c.requires.node in
    settled_seen _ _ _ _ _ _ refl h c.index_mut-place.ensures.value (c.look-held.ensures.seen c.if-held.true)

pub find-requires : goal.find-requires
find-requires c = record {
  is = record {
    cells_count = c.requires.is.cells_count;
    places_count = length-set _ _ _ ∙ c.requires.is.places_count;
    fit = all_fit _ _ _ _ c.look-held.ensures.place.fits c.requires.is.fit;
    judge = c.look-held.ensures.place.judge;
  };
  node = c.requires.node;
}

pub returns-in_err-row-clause-stays : goal.returns-in_err-row-clause-stays
returns-in_err-row-clause-stays c = subst (StaysView c.args.self.now) (sym c.find.ensures.same) (record {
  slots = refl;
  is = record {
    cells_count = c.requires.is.cells_count;
    places_count = length-set _ _ _ ∙ c.requires.is.places_count;
    fit = all_fit _ _ _ _ c.look-held.ensures.place.fits c.requires.is.fit;
    judge = c.look-held.ensures.place.judge;
  };
})

pub returns-in_err-row-clause-err : goal.returns-in_err-row-clause-err
returns-in_err-row-clause-err c =
    let h = subst (λ (m : ℕ). c.args.n.0 < m) (sym c.requires.is.places_count) c.requires.node in
    let none = unseen (viewing_of c.args.self.now) c.args.self.now.slots.now c.args.self.now.places.items c.args.n.0 _ c.look-held.new.self c.look-held.result refl h c.index_mut-place.ensures.value c.if-held.false c.look-held.ensures.empty in
    err_so _ c.from_residual.result (ap viewing_of c.find.ensures.same ∙ none.0)

pub returns-in_err-row-clause-again : goal.returns-in_err-row-clause-again
returns-in_err-row-clause-again c known =
    let h = subst (λ (m : ℕ). c.args.n.0 < m) (sym c.requires.is.places_count) c.requires.node in
    let none = unseen (viewing_of c.args.self.now) c.args.self.now.slots.now c.args.self.now.places.items c.args.n.0 _ c.look-held.new.self c.look-held.result refl h c.index_mut-place.ensures.value c.if-held.false c.look-held.ensures.empty in
    absurd (none.1 known)

pub settle_right-requires-clause-at : goal.settle_right-requires-clause-at
settle_right-requires-clause-at c = subst (λ (v : View). IsViewAt v c.args.n.0) (sym c.find.ensures.same) (record {
  is = record {
    cells_count = c.requires.is.cells_count;
    places_count = length-set _ _ _ ∙ c.requires.is.places_count;
    fit = all_fit _ _ _ _ c.look-held.ensures.place.fits c.requires.is.fit;
    judge = c.look-held.ensures.place.judge;
  };
  node = c.requires.node;
})

pub returns-clause-seen : goal.returns-clause-seen
returns-clause-seen c =
    let h = subst (λ (m : ℕ). c.args.n.0 < m) (sym c.requires.is.places_count) c.requires.node in
    let none = unseen (viewing_of c.args.self.now) c.args.self.now.slots.now c.args.self.now.places.items c.args.n.0 _ c.look-held.new.self c.look-held.result refl h c.index_mut-place.ensures.value c.if-held.false c.look-held.ensures.empty in
    subst (λ (r : Viewing). OnOk c.settle_right.result ((row : TableRow) × Sees r c.args.n.0 row (viewing_of c.settle_right.new.self))) (ap viewing_of c.find.ensures.same ∙ none.0) c.settle_right.ensures.seen

pub returns-clause-err : goal.returns-clause-err
returns-clause-err c =
    let h = subst (λ (m : ℕ). c.args.n.0 < m) (sym c.requires.is.places_count) c.requires.node in
    let none = unseen (viewing_of c.args.self.now) c.args.self.now.slots.now c.args.self.now.places.items c.args.n.0 _ c.look-held.new.self c.look-held.result refl h c.index_mut-place.ensures.value c.if-held.false c.look-held.ensures.empty in
    subst (λ (r : Viewing). OnErr c.settle_right.result (viewing_of c.settle_right.new.self ≡ r)) (ap viewing_of c.find.ensures.same ∙ none.0) c.settle_right.ensures.err

pub returns-clause-again : goal.returns-clause-again
returns-clause-again c known =
    let h = subst (λ (m : ℕ). c.args.n.0 < m) (sym c.requires.is.places_count) c.requires.node in
    let none = unseen (viewing_of c.args.self.now) c.args.self.now.slots.now c.args.self.now.places.items c.args.n.0 _ c.look-held.new.self c.look-held.result refl h c.index_mut-place.ensures.value c.if-held.false c.look-held.ensures.empty in
    absurd (none.1 known)
