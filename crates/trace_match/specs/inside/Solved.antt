-- What was found for a trace.
use Rattle.matching.specs.Value.{Solution}
use Rattle.trellis.specs.declared.parts.Solved.{Solved}

-- what was found for a trace, as a value
abbrev pub as_solution : Solved → Solution
as_solution s = record { ranks = s.ranks; pieces = s.pieces; tables = s.tables }
