use Rattle.std.proofs.Common.{◌≡◌, ◌++◌, ◌∷◌, [], List, Option, Some, map, length, sym, ap, ◌∙◌, subst, arith}
use Rattle.std.specs.Vec.Iter.{into_iter_items}
use Rattle.bounded_table.specs.Known.{known_nodes}
use Rattle.bounded_table.specs.RowValue.{row_of}
use Rattle.bounded_table.specs.Table.{TableRow}
use Rattle.row_search.proofs.MovedRows.{moved_all, moves_none, moves_on, moves_row}
use Rattle.row_search.proofs.own_rows.rows_in.Goals as goal

pub loop-place-preserved-in_ok-push : goal.loop-place-preserved-in_ok-push
loop-place-preserved-in_ok-push c =
    let i = c.loop-place.invariant in
    let step = c.in-Some.ensures.steps in
    let row = c.in-Some-place.row in
    let before = c.loop-place.yielded in
    let rest = into_iter_items c.next.new.self in
    let all = c.args.places.items in
    let parts : before ++ Some row ∷ rest ≡ all =
    subst (λ (l : List (Option TableRow)). before ++ l ≡ all) (step.0 ∙ ap (λ (o : Option TableRow). o ∷ rest) c.in-Some-place.is) i.whole in
    let count = ap length step.0 in
    record {
      whole = moves_on before _ rest all c.in-Some.place i.whole step.0;
      left = omega (arith, step.1, i.left, count);
      found = λ table lawful holds.
          c.in_ok-push.ensures.ok
          ∙ ap (λ (rows : List TableRow). rows ++ row ∷ []) (i.found table lawful holds)
          ∙ moves_row table all before rest row lawful holds parts
          ∙ ap (λ (o : Option TableRow). map (row_of table.network table.bound) (known_nodes (before ++ o ∷ []))) (sym c.in-Some-place.is);
    }

pub loop-place-preserved : goal.loop-place-preserved
loop-place-preserved c =
    let i = c.loop-place.invariant in
    let step = c.in-Some.ensures.steps in
    let before = c.loop-place.yielded in
    let count = ap length step.0 in
    record {
      whole = moves_on before _ (into_iter_items c.next.new.self) c.args.places.items c.in-Some.place i.whole step.0;
      left = omega (arith, step.1, i.left, count);
      found = λ table lawful holds.
          let f = row_of table.network table.bound in
          i.found table lawful holds ∙ moves_none f before ∙ ap (λ (o : Option TableRow). map f (known_nodes (before ++ o ∷ []))) (sym c.in_default.is);
    }

pub returns : goal.returns
returns c = λ table lawful holds.
    let i = c.loop-place.invariant in
    let none = c.in-None.ensures.steps in
    let all = moved_all c.loop-place.yielded _ c.args.places.items i.whole (sym i.left ∙ none.0) in
    i.found table lawful holds
    ∙ ap (λ (l : List (Option TableRow)). map (row_of table.network table.bound) (known_nodes l)) all
