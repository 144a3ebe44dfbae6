use Rattle.std.proofs.Common.{◌≡◌, ◌≤◌, ◌++◌, length, take}
use Rattle.std.specs.List.{flat_map}
use Rattle.row_text.specs.RowLine.{row_line}
use Rattle.potential_certificate.proofs.writing.append_rows.Given as goal

abbrev pub invariant-loop-row : goal.invariant-loop-row
invariant-loop-row l = record {
  written : l.into ≡ l.fn.into ++ flat_map row_line (take l.row-index l.rows);
  begun : l.start ≤ length l.into;
}
