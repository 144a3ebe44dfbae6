use Rattle.std.proofs.Common.{◌≡◌, ◌∙◌, List, [], All, length, rules, refl, ap, sym, subst, arith}
use Rattle.std.specs.Vec.Iter.{into_iter_items}
use Rattle.std.proofs.lemmas.List.Elements.{All-head, All-tail}
use Rattle.match_pool.specs.inside.Tables.{AreColumnsOf}
use Rattle.match_pool.specs.declared.turn.Turn.{Turn}
use Rattle.match_pool.proofs.Columns.{columns_more, columns_none}
use Rattle.match_pool.proofs.Yields.{ends, goes_on}
use Rattle.match_pool.proofs.tables.columns_of.Goals as goal

pub loop-row-init : goal.loop-row-init
loop-row-init c = record {
  whole = refl;
  left = search rules;
  wide = subst (λ (rows : List (List Turn)). All (λ (row : List Turn). length row ≡ c.args.width) rows) (sym c.into_iter-row-iterator.ensures.into_iter_gives.0) c.requires;
  columns = subst (AreColumnsOf [] c.args.width) (sym c.in_ok-columns.ensures) (columns_none c.args.width);
}

pub loop-row-preserved : goal.loop-row-preserved
loop-row-preserved c =
    let at = c.loop-row in
    let i = at.invariant in
    let row = c.in-Some.row in
    let steps = c.in-Some.ensures.steps in
    let rest = into_iter_items c.next.new.self in
    let P : List Turn → Type 0 = λ r. length r ≡ c.args.width in
    let wide = subst (All P) steps.0 i.wide in
    record {
      whole = goes_on at.yielded _ _ _ row i.whole steps.0;
      left = (let was = i.left in let gone = steps.1 in let short = ap (λ (l : List (List Turn)). length l) steps.0 in omega arith);
      wide = All-tail P row rest wide;
      columns = columns_more at.yielded row c.args.width at.columns.items _ i.columns (All-head P row rest wide) c.in_ok-add_row.ensures;
    }

pub returns : goal.returns
returns c =
    let at = c.loop-row in
    let i = at.invariant in
    let all = ends at.yielded _ _ i.whole (sym i.left ∙ c.in-None.ensures.steps.0) ∙ c.into_iter-row-iterator.ensures.into_iter_gives.0 in
    subst (λ (rows : List (List Turn)). AreColumnsOf rows c.args.width at.columns.items) all i.columns
