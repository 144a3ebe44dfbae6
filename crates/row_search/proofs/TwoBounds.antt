-- Rows within a shorter bound beside those within the whole one.
use Rattle.std.proofs.Common.{◌≡◌, ◌≤◌, ℕ, arith, subst}
use Rattle.road_network.specs.Net.{Net}
use Rattle.bounded_table.specs.Rows.{RowsState, AsksOnly}
use Rattle.bounded_table.specs.Table.{TableRow, IsRow, IsNearRow}

-- what asking for near rows leaves, said of the whole bound
pub only_of : {old new : RowsState} {bound after : ℕ} {asked : ℕ → Type 0} → after ≡ bound → AsksOnly old new asked
    → AsksOnly (record old { bound = bound }) (record new { bound = after }) asked
only_of same only = record {
  keeps = record {
    network = only.keeps.network;
    bound = same;
    source = only.keeps.source;
    held = only.keeps.held;
    known = only.keeps.known;
  };
  nothing_else = only.nothing_else;
}

-- a row of the same network and bound, named otherwise
pub row_named : {n m : Net} {b c s : ℕ} {row : TableRow} → n ≡ m → b ≡ c → IsRow n b s row → IsRow m c s row
row_named {m = m} {b = b} {s = s} {row = row} nets bounds is =
    let on : IsRow m b s row = subst (λ n. IsRow n b s row) nets is in
    subst (λ k. IsRow m k s row) bounds on

-- the row within the whole bound is one within any reach
pub whole_is_near : {n : Net} {reach bound s : ℕ} {row : TableRow} → reach ≤ bound → IsRow n bound s row → IsNearRow n reach bound s row
whole_is_near {bound = bound} reaches is = record { within = bound; reaches = reaches; no_further = omega arith; is = is }
