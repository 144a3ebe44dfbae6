use Rattle.std.proofs.Common.{◌≡◌, ◌↔◌, false, take}
use Rattle.std.specs.List.{All, sum_by}
use Rattle.bounded_table.specs.inside.Given.{IsRelaxedAt, given_by}
use Rattle.bounded_table.specs.Table.{label_in}
use Rattle.bounded_table.proofs.word_check.are_given.Given as goal

abbrev pub invariant-loop-x : goal.invariant-loop-x
invariant-loop-x l = record {
  each : (l.total.short ≡ false) ↔ All (IsRelaxedAt l.net l.bound (label_in l.entries)) (take l.x-index l.entries);
  counted : l.total.given ≡ sum_by (given_by l.net l.bound l.entries) (take l.x-index l.entries);
}
