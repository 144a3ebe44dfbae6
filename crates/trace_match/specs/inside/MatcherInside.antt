-- What a matcher is made of.
use Rattle.trace_match.specs.Ground.{IsGridFor}
use Rattle.trace_match.specs.Setting.{Setting}
use Rattle.trace_match.specs.declared.matcher.Matcher.TheInside.{Inside}

abbrev pub setting_of : Inside → Setting
setting_of a = record { network = a.network.now; params = a.params }

-- the options are in their ranges, and the grid is that of the network, with cells as wide as the
-- radius
abbrev pub IsLaidOut : Inside → Type 0
IsLaidOut a = IsGridFor a.network.now a.params a.grid
