-- The values that words give by number: their names, their ranges, and how they are read.
use Rattle.std.specs.Prelude.{ℕ, List, codes, nat_le, if◌then◌else◌}
use Rattle.std.specs.Prelude.{Result, Ok, Err}
use Rattle.decimal_text.specs.Number.{unsigned_within}
use Rattle.decimal_text.specs.declared.number.NumberFault.{NumberFault}
use Rattle.cost_model.specs.declared.params.ValueRange.{ValueRange}
use Rattle.command_line.specs.declared.fault.WordsFault.{WordsFault}
use Rattle.command_line.specs.declared.fault.WordsFault.TheVariants.{BadValue}
use Rattle.command_line.specs.declared.value.ValueName.{ValueName}
use Rattle.command_line.specs.declared.value.ValueName.TheVariants.{K, Radius, Sigma, Beta, Bound, Workers, Back, Gap, Idle, N, T, Seed}

abbrev pub name_of : ValueName → List ℕ
name_of K = codes "k"
name_of Radius = codes "radius"
name_of Sigma = codes "sigma"
name_of Beta = codes "beta"
name_of Bound = codes "bound"
name_of Workers = codes "workers"
name_of Back = codes "back"
name_of Gap = codes "gap"
name_of Idle = codes "idle"
name_of N = codes "N"
name_of T = codes "T"
name_of Seed = codes "SEED"

-- each value is in its range, both ends included
abbrev pub range_of : ValueName → ValueRange
range_of K = record { least = 1; most = 32 }
range_of Radius = record { least = 1; most = 100_000 }
range_of Sigma = record { least = 1; most = 100_000 }
range_of Beta = record { least = 1; most = 1_000_000 }
range_of Bound = record { least = 0; most = 10_000_000 }
range_of Workers = record { least = 1; most = 64 }
range_of Back = record { least = 0; most = 100_000 }
range_of Gap = record { least = 0; most = 4_294_967_295 }
range_of Idle = record { least = 1; most = 4_294_967_295 }
range_of N = record { least = 2; most = 100 }
range_of T = record { least = 1; most = 2_000 }
range_of Seed = record { least = 0; most = 4_294_967_295 }

-- a number that is too small is refused as one that is too great, and as a misspelt one
abbrev pub checked : ValueName → Result ℕ NumberFault → Result ℕ WordsFault
checked name (Ok n) = if nat_le (range_of name).least n then Ok n else Err (BadValue name)
checked name (Err fault) = Err (BadValue name)

-- the value of this name that this text gives
unfoldable pub value_of : ValueName → List ℕ → Result ℕ WordsFault
value_of name text = checked name (unsigned_within (range_of name).most text)
