-- What a network and its file may have at most, by the limits that the file is read within.
use Rattle.std.specs.Prelude.{ℕ}
use Rattle.road_network.specs.declared.limits.NetworkLimits.{NetworkLimits}
use Rattle.road_network.specs.declared.limits.NetworkLimits.TheVariants.{Standard, Large}

-- bytes of the file
abbrev pub file_limit : NetworkLimits → ℕ
file_limit Standard = 134_217_728
file_limit Large = 68_719_476_736

abbrev pub edge_limit : NetworkLimits → ℕ
edge_limit Standard = 150_000
edge_limit Large = 1_000_000_000

abbrev pub node_limit : NetworkLimits → ℕ
node_limit Standard = 60_000
node_limit Large = 1_000_000_000

-- points of all lines together
abbrev pub point_limit : NetworkLimits → ℕ
point_limit Standard = 1_000_000
point_limit Large = 4_000_000_000

-- points of one line, under any limits
abbrev pub line_point_limit : ℕ
line_point_limit = 1_000_000

-- the length of an edge in cm, under any limits
abbrev pub length_limit : ℕ
length_limit = 100_000_000

-- the absolute value of a coordinate in cm, under any limits
abbrev pub coordinate_limit : ℕ
coordinate_limit = 1_000_000_000
