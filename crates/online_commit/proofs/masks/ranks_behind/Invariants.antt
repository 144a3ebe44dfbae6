use Rattle.std.proofs.Common.{◌≡◌, ◌↔◌, ◌<◌, ℕ, Some}
use Rattle.matching.specs.Cells.{cell_at}
use Rattle.online_commit.specs.inside.Masks.{HasBit}
use Rattle.online_commit.proofs.masks.ranks_behind.Given as goal

abbrev pub invariant-loop-rank : goal.invariant-loop-rank
invariant-loop-rank l = (a : ℕ) → HasBit l.behind a ↔ ((r : ℕ) × (r < l.rank) × HasBit l.mask r × ((cell_at l.cells r).«from» ≡ Some a))
