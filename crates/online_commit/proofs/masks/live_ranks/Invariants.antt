use Rattle.std.proofs.Common.{◌↔◌, ◌<◌, ℕ}
use Rattle.matching.specs.Cells.{IsLive}
use Rattle.online_commit.specs.inside.Masks.{HasBit}
use Rattle.online_commit.proofs.masks.live_ranks.Given as goal

abbrev pub invariant-loop-rank : goal.invariant-loop-rank
invariant-loop-rank l = (r : ℕ) → HasBit l.mask r ↔ ((r < l.rank) × IsLive l.cells r)
