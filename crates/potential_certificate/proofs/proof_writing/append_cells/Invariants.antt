use Rattle.std.proofs.Common.{◌≡◌, ◌++◌, take}
use Rattle.potential_certificate.specs.inside.Words.{cells_text}
use Rattle.potential_certificate.proofs.proof_writing.append_cells.Given as goal

abbrev pub invariant-loop-cell : goal.invariant-loop-cell
invariant-loop-cell l = l.into ≡ l.fn.into ++ cells_text (take l.cell-index l.cells)
