-- A piece while it grows, position by position, and a match while it grows, piece by piece.
use Rattle.std.specs.Prelude.{ℕ, List, Option, MatchOption, length}
use Rattle.cost_model.specs.declared.params.Params.{Params}
use Rattle.road_network.specs.Net.{Net}
use Rattle.matching.specs.declared.parts.Cell.{Cell}
use Rattle.matching.specs.declared.parts.Layer.{Layer}
use Rattle.matching.specs.Layers.{trellis}
use Rattle.matching.specs.PieceSteps.{AsksNext, PieceEndsBefore, PieceGoesOn}
use Rattle.matching.specs.SoFar.{IsMatchBefore}
use Rattle.trellis.specs.declared.parts.Solved.{Solved}
use Rattle.trellis.specs.declared.steps.Step.{Step}

-- the cells of the layer that a step leads to, or none where the piece ends before it
abbrev pub TellsNext : Step → Option (List Cell) → Type 0
TellsNext s next =
    let t = trellis s.net.now s.params.now in
    MatchOption next (PieceEndsBefore t s.before.now s.costs.now s.layer.now)
    (PieceGoesOn t s.before.now s.costs.now s.layer.now)

-- the nodes that the step asks for
abbrev pub AsksOfStep : Step → ℕ → Type 0
AsksOfStep s v = AsksNext s.net.now s.params.now s.before.now s.costs.now s.layer.now v

-- the positions that have a rank or none so far are matched
abbrev pub IsSolvedSoFar : Net → Params → List Layer → Solved → Type 0
IsSolvedSoFar n p layers s =
    IsMatchBefore (trellis n p) layers (length s.ranks) s.ranks s.pieces s.tables
