use Rattle.std.proofs.Common.{◌≡◌, take}
use Rattle.std.specs.List.{All, count_by}
use Rattle.bounded_table.specs.inside.Given.{IsArcRelaxed, arc_gives}
use Rattle.bounded_table.specs.Table.{label_in}
use Rattle.bounded_table.proofs.row_check.count_given.Given as goal

abbrev pub invariant-loop-arc : goal.invariant-loop-arc
invariant-loop-arc l = record {
  relaxed : All (IsArcRelaxed l.bound (label_in l.row.entries) l.x.distance) (take l.arc-index l.arc-items);
  counted : l.count ≡ count_by (arc_gives l.bound (label_in l.row.entries) l.x.distance) (take l.arc-index l.arc-items);
}
