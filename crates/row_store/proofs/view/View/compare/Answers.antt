use Rattle.std.proofs.Common.{ℕ, ◌<◌, ◌∙◌, Some, refl, sym, ap, subst, length-set}
use Rattle.std.specs.Prelude.{slice_index}
use Rattle.row_store.specs.Store.{SlotSet}
use Rattle.row_store.specs.inside.Views.{viewing_of}
use Rattle.row_store.proofs.Places.{fits_at, same_fit, same_reading, known_there, known_here, known_of, one_row}
use Rattle.row_store.proofs.view.View.compare.Goals as goal

pub compare-requires : goal.compare-requires
compare-requires c =
    let i = c.requires.at.0.is in
    let j = c.requires.at.1.is in
    let n = c.args.n.0 in
    let h = subst (λ (m : ℕ). n < m) (sym i.places_count) c.requires.at.0.node in
    let k = subst (λ (m : ℕ). n < m) (sym j.places_count) c.requires.at.1.node in
    let f = fits_at c.args.self.now.slots.now _ _ _ i.fit h c.index_mut-mine.ensures.value in
    let g = fits_at c.args.other.now.slots.now _ _ _ j.fit k c.index_mut-theirs.ensures.value in
    f.cell ∙ ap (λ (y : SlotSet). slice_index y.cells n) c.requires.slots ∙ sym g.cell

pub returns-clause-stays : goal.returns-clause-stays
returns-clause-stays c =
    let i = c.requires.at.0.is in
    let j = c.requires.at.1.is in
    let n = c.args.n.0 in
    let h = subst (λ (m : ℕ). n < m) (sym i.places_count) c.requires.at.0.node in
    let k = subst (λ (m : ℕ). n < m) (sym j.places_count) c.requires.at.1.node in (
      record {
        slots = refl;
        is = record {
          cells_count = i.cells_count;
          places_count = length-set _ _ _ ∙ i.places_count;
          fit = same_fit c.args.self.now.slots.now _ _ _ _ i.fit h c.index_mut-mine.ensures.value c.compare.ensures.same.0;
          judge = i.judge;
        };
      },
      record {
        slots = refl;
        is = record {
          cells_count = j.cells_count;
          places_count = length-set _ _ _ ∙ j.places_count;
          fit = same_fit c.args.other.now.slots.now _ _ _ _ j.fit k c.index_mut-theirs.ensures.value c.compare.ensures.same.1;
          judge = j.judge;
        };
      },
    )

pub returns-clause-same : goal.returns-clause-same
returns-clause-same c =
    let i = c.requires.at.0.is in
    let j = c.requires.at.1.is in
    let n = c.args.n.0 in
    let h = subst (λ (m : ℕ). n < m) (sym i.places_count) c.requires.at.0.node in
    let k = subst (λ (m : ℕ). n < m) (sym j.places_count) c.requires.at.1.node in (
      same_reading _ _ _ _ _ _ refl h c.index_mut-mine.ensures.value (ap known_of c.compare.ensures.same.0),
      same_reading _ _ _ _ _ _ refl k c.index_mut-theirs.ensures.value (ap known_of c.compare.ensures.same.1),
    )

pub returns-clause-agree : goal.returns-clause-agree
returns-clause-agree c =
    let i = c.requires.at.0.is in
    let j = c.requires.at.1.is in
    let n = c.args.n.0 in
    let h = subst (λ (m : ℕ). n < m) (sym i.places_count) c.requires.at.0.node in
    let k = subst (λ (m : ℕ). n < m) (sym j.places_count) c.requires.at.1.node in
    let a = known_there (viewing_of c.args.self.now) c.args.self.now.slots.now c.args.self.now.places.items n _ refl h c.index_mut-mine.ensures.value in
    let b = known_there (viewing_of c.args.other.now) c.args.other.now.slots.now c.args.other.now.places.items n _ refl k c.index_mut-theirs.ensures.value in
    let same = one_row _ _ c.compare.ensures.agree (known_here _ (viewing_of c.args.self.now).places n a c.requires.seen.0) (known_here _ (viewing_of c.args.other.now).places n b c.requires.seen.1) in
    a ∙ ap Some same ∙ sym b
