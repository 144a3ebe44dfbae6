use Rattle.std.proofs.Common.{◌≡◌, Ok, List, ap, length, subst, ◌∙◌, arith}
use Rattle.std.proofs.lemmas.List.Elements.{All-rest}
use Rattle.std.proofs.lemmas.Result.{err_from_is_err_and}
use Rattle.std.specs.Vec.Iter.{into_iter_items}
use Rattle.bounded_table.specs.Table.{BoundedTable, TableRow}
use Rattle.program_frame.specs.Loads.{RefusesLoad}
use Rattle.program_frame.specs.declared.stop.Refusal.TheVariants.{Table}
use Rattle.road_network.specs.Net.{HasNode}
use Rattle.table_work.specs.Preload.{row_said, rows_said}
use Rattle.table_work.proofs.Preloads.{rows_left, rows_refused}
use Rattle.table_work.proofs.preloading.offer_rows.Goals as goal

pub loop-row-preserved : goal.loop-row-preserved
loop-row-preserved c =
    let at = c.loop-row in
    let i = at.invariant in
    let row = c.in-Some.row in
    let steps = c.in-Some.ensures.steps in
    let left = into_iter_items at.row-iterator in
    let rest = into_iter_items c.next.new.self in
    let said = subst (λ (t : BoundedTable). row_said c.args.roads.now t.bound row ≡ Ok tt) i.checker c.in_ok-offer_row.ensures.said in
    record {
      left = (let was = i.left in let gone = steps.1 in let short = ap (λ (l : List TableRow). length l) steps.0 in omega arith);
      nodes = All-rest (λ (r : TableRow). HasNode c.args.roads.now r.origin) row rest left steps.0 i.nodes;
      checker = c.offer_row.ensures.same.0 ∙ i.checker;
      store = c.offer_row.ensures.same.1 ∙ i.store;
      said = rows_left c.args.roads.now c.args.checker.now.bound row (into_iter_items c.into_iter-row-iterator.result) left rest steps.0 said i.said;
    }

pub returns-in_err-offer_row : goal.returns-in_err-offer_row
returns-in_err-offer_row c =
    let at = c.loop-row in
    let i = at.invariant in
    let row = c.in-Some.row in
    let stop = c.in_err-offer_row.field-0.0 in
    let whole = c.into_iter-row-iterator.ensures.into_iter_gives.0 ∙ c.into_vec-row-items.ensures in
    let refuses = subst (λ (t : BoundedTable). RefusesLoad Table (row_said c.args.roads.now t.bound row) stop) i.checker c.in_err-offer_row.ensures.said in
    let p = err_from_is_err_and c.from_residual.result c.from_residual.ensures.1 in
    rw (p.1, p.2) (rows_refused c.args.roads.now c.args.checker.now.bound row c.args.rows (into_iter_items at.row-iterator) (into_iter_items c.next.new.self) stop c.in-Some.ensures.steps.0
    (i.said ∙ ap (rows_said c.args.roads.now c.args.checker.now.bound) whole) refuses)
