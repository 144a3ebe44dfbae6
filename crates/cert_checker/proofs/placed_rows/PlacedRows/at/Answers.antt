use Rattle.std.proofs.Common.{◌<◌, List, length, slice_index_or, sym, ap, ◌∙◌, subst}
use Rattle.std.proofs.lemmas.List.{get_or_default}
use Rattle.bounded_table.specs.Table.{TableRow}
use Rattle.cert_checker.proofs.placed_rows.PlacedRows.at.Goals as goal

pub returns : goal.returns
returns c row =
    let rows = c.self.inside.rows.now in
    let at = c.args.place in
    let inside : at < length rows = subst (λ (xs : List TableRow). at < length xs) (sym c.self.view_is) c.requires in
    ap (λ (xs : List TableRow). slice_index_or xs at row) (sym c.self.view_is) ∙ get_or_default rows at row c.index-rows-place.result inside ∙ sym c.index-rows-place.is
