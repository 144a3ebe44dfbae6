-- What a row is made of.
use Rattle.bounded_table.specs.declared.table_row.Row.TheInside.{Inside}
use Rattle.bounded_table.specs.Finding.{IsPlaceOf}
use Rattle.bounded_table.specs.RowRules.{MeetsRowRules}
use Rattle.bounded_table.specs.Table.{TableRow}

abbrev pub row_shown : Inside → TableRow
row_shown a = record { origin = a.origin.0; entries = a.entries }

-- the rules of a row are met, and the origin is found where looks begin
pub record IsRowInside (a : Inside) : Type 0 where
  pub rules : MeetsRowRules (row_shown a)
  pub middle : IsPlaceOf a.entries a.origin.0 a.middle
