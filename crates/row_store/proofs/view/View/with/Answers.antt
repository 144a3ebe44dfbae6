use Rattle.std.proofs.Common.{◌≡◌, ◌<◌, ◌∙◌, ◌∷◌, [], ℕ, List, Option, None, length, get_or, replicate, refl, sym, ap, subst, length-append, arith}
use Rattle.std.proofs.lemmas.List.{length-map}
use Rattle.once_cell.specs.Once.{cell_name}
use Rattle.bounded_table.specs.Table.{TableRow}
use Rattle.std.specs.Prelude.{slice_index}
use Rattle.std.specs.declared.alloc.Global.{Global as Heap}
use Rattle.row_store.specs.declared.place.Place.{Place}
use Rattle.row_store.specs.Store.{SlotSet, Viewing}
use Rattle.row_store.proofs.Places.{fits_more, empty_fits, none_more, name_at}
use Rattle.row_store.proofs.view.View.with.Goals as goal

pub loop-cell-preserved : goal.loop-cell-preserved
loop-cell-preserved c =
    let i = c.loop-cell.invariant in
    let e = c.in_ok-push.ensures.items in
    let m = c.empty.ensures in
    let at = c.loop-cell.cell-index in
    let cells = c.slots.inside.cells.items in
    let d = c.deref-cell-items.ensures.value in
    let within : at < length cells = (let p = ap (λ (l : List (Heap × ℕ)). length l) d in omega arith) in
    let there = subst (λ (l : List (Heap × ℕ)). c.cell-item.result ≡ get_or l at c.cell-item.result) d c.cell-item.is in
    let name = m.note.0 ∙ name_at cells at c.cell-item.result within there ∙ ap (λ (s : SlotSet). slice_index s.cells at) c.slots.view_is ∙ ap (λ (k : ℕ). slice_index c.args.slots.now.cells k) (sym i.count) in
    record {
      count = omega (arith, ap (λ (l : List Place). length l) e, length-append c.loop-cell.places.items (c.empty.result ∷ []));
      none = rw e (none_more _ _ _ i.none m.note.1);
      fit = rw e (fits_more c.args.slots.now _ _ i.fit (empty_fits c.args.slots.now _ _ _ name m.note.1 m.seen));
    }

pub loop-cell-init : goal.loop-cell-init
loop-cell-init c = rw c.in_ok-places.ensures.items (record { count = refl; none = refl; fit = λ k p e. absurd cc })

pub returns-clause-of : goal.returns-clause-of
returns-clause-of c =
    let cells = c.slots.inside.cells.items in
    let all : length c.deref-cell-items.result.now ≡ length cells = ap (λ (l : List (Heap × ℕ)). length l) c.deref-cell-items.ensures.value in
    let nodes = ap (λ (s : SlotSet). length s.network.nodes) c.slots.view_is in
    let seen = ap (λ (s : SlotSet). length s.cells) c.slots.view_is in
    record {
      slots_are = refl;
      is = record {
        cells_count = omega (arith, c.slots.invariant.0, nodes, seen, length-map cells cell_name);
        places_count = omega (arith, c.loop-cell.invariant.count, c.slots.invariant.0, nodes, all);
        fit = c.loop-cell.invariant.fit;
        judge = c.requires;
      };
    }

pub returns-clause-fresh : goal.returns-clause-fresh
returns-clause-fresh c =
    let all : length c.deref-cell-items.result.now ≡ length c.slots.inside.cells.items = ap (λ (l : List (Heap × ℕ)). length l) c.deref-cell-items.ensures.value in
    let nodes = ap (λ (s : SlotSet). length s.network.nodes) c.slots.view_is in
    let count : c.loop-cell.cell-index ≡ length c.args.slots.now.network.nodes = omega (arith, c.slots.invariant.0, nodes, all) in
    ap (λ (l : List (Option TableRow)). let v : Viewing = record { slots = c.args.slots.now; places = l } in v) (c.loop-cell.invariant.none ∙ ap (λ (k : ℕ). replicate k (let none : Option TableRow = None in none)) count)
