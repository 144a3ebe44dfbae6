use Rattle.std.proofs.Common.{◌≡◌, ◌∷◌, ◌+◌, ℕ, List, [], Option, Some, ap, ◌∙◌, drop, subst, sym, arith, slice_index_or, refl}
use Rattle.std.proofs.lemmas.Grind.{common_steps}
use Rattle.road_network.specs.declared.EdgeId.{EdgeId}
use Rattle.bounded_table.specs.declared.table_row.Entry.{Entry}
use Rattle.row_search.specs.inside.Marked.{MarkLists, lists_of}
use Rattle.row_search.specs.inside.Merging.{MarksAlso, merged}
use Rattle.bounded_table.specs.Table.{RisesFrom}
use Rattle.bounded_table.proofs.Entries.{no_entry}
use Rattle.row_search.proofs.LeftByMerging.{also_more, also_none}
use Rattle.row_search.proofs.merging.merge_entries.Goals as goal

pub loop-entry-init : goal.loop-entry-init
loop-entry-init c = record {
  sized = c.requires.sized;
  words = λ bound. refl;
  marks = λ after h. h;
  done = (0, c.requires.entries.0, λ v from lt. absurd (omega (arith, lt)));
}

pub loop-entry-preserved : goal.loop-entry-preserved
loop-entry-preserved c =
    let inv = c.loop-entry.invariant in
    let d : ℕ = c.args.row.distance in
    let row : List Entry = c.args.row.entries.now in
    let i : ℕ = c.loop-entry.entry-index in
    let x : Entry = slice_index_or row i no_entry in
    let old : MarkLists = lists_of c.loop-entry.octets c.loop-entry.regions c.loop-entry.areas in
    let new : MarkLists = lists_of c.mark_after-end.new.octets c.mark_after-end.new.regions c.mark_after-end.new.areas in
    let e = c.mark_after-end.ensures in
    let next : drop i row ≡ x ∷ drop (i + 1) row = grind (arith, common_steps) in
    let y : Entry = record { node = x.node; distance = x.distance; last = Some c.in-Some.edge } in
    let same : x ≡ y = ap (λ (k : Option EdgeId). record { node = x.node; distance = x.distance; last = k }) c.in-Some.is in
    let with_edge : drop i row ≡ y ∷ drop (i + 1) row = next ∙ ap (λ (k : Entry). k ∷ drop (i + 1) row) same in
    let rises : RisesFrom inv.done.0 (x ∷ drop (i + 1) row) = subst (RisesFrom inv.done.0) next inv.done.1 in
    record {
      sized = record {
        areas = omega (arith, inv.sized.areas, c.mark_after-end.auto.areas, c.merge_entry.ensures.count);
        regions = omega (arith, inv.sized.regions, c.mark_after-end.auto.areas, c.mark_after-end.auto.regions);
        octets = omega (arith, inv.sized.octets, c.mark_after-end.auto.regions, c.mark_after-end.auto.octets);
      };
      words = λ bound. subst (λ (k : List ℕ). merged bound d (drop (i + 1) row) k ≡ merged bound d row c.args.words.now) (sym (c.merge_entry.ensures.words bound))
          (subst (λ (k : List Entry). merged bound d k c.loop-entry.words ≡ merged bound d row c.args.words.now) with_edge (inv.words bound));
      marks = λ after h. inv.marks after (subst (λ (k : List Entry). MarksAlso k old after) (sym next) (also_more x (drop (i + 1) row) old new after e.marks h));
      done = (x.node.0 + 1, rises.1, λ v from lt. e.done v (omega (arith, from)) lt);
    }

pub returns-clause-words : goal.returns-clause-words
returns-clause-words c bound =
    let row : List Entry = c.args.row.entries.now in
    let none : drop c.loop-entry.entry-index row ≡ [] = grind (arith, common_steps) in
    subst (λ (k : List Entry). merged bound c.args.row.distance k c.loop-entry.words ≡ merged bound c.args.row.distance row c.args.words.now) none (c.loop-entry.invariant.words bound)

pub returns-clause-marks : goal.returns-clause-marks
returns-clause-marks c =
    let row : List Entry = c.args.row.entries.now in
    let marks : MarkLists = lists_of c.loop-entry.octets c.loop-entry.regions c.loop-entry.areas in
    let none : drop c.loop-entry.entry-index row ≡ [] = grind (arith, common_steps) in
    c.loop-entry.invariant.marks marks (subst (λ (k : List Entry). MarksAlso k marks marks) (sym none) (also_none marks))
