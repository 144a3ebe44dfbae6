use Rattle.std.proofs.Common.{◌≡◌, take}
use Rattle.std.specs.List.{All, sum_by}
use Rattle.bounded_table.specs.inside.Given.{IsRelaxedAt, given_by}
use Rattle.bounded_table.specs.Table.{label_in}
use Rattle.bounded_table.proofs.row_check.gives_all.Given as goal

abbrev pub invariant-loop-x : goal.invariant-loop-x
invariant-loop-x l = record {
  each : All (IsRelaxedAt l.net l.bound (label_in l.row.entries)) (take l.x-index l.row.entries);
  counted : l.given ≡ sum_by (given_by l.net l.bound l.row.entries) (take l.x-index l.row.entries);
}
