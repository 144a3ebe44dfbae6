-- Counts of faults.
use Rattle.std.proofs.Common.{◌≡◌, ℕ, ◌+◌, ◌-◌, ◌^◌, min, rules}
use Rattle.edge_io.specs.Sink.{Rose}

-- the count after a failed put rose
pub rose_counted : (before now : ℕ) → now ≡ min (before + 1) (2 ^ 64 - 1) → Rose before now
rose_counted before now counted = search rules
