-- The nodes that a piece and a trace ask for, by the layers alone: they do not depend on what a call returns. In
-- this file layers are in the order of the positions.
use Rattle.std.specs.Prelude.{ℕ, ◌+◌, ◌-◌, List, drop, take}
use Rattle.cost_model.specs.declared.params.Params.{Params}
use Rattle.road_network.specs.Net.{Net}
use Rattle.matching.specs.declared.parts.Layer.{Layer}
use Rattle.matching.specs.declared.parts.Piece.{Piece}
use Rattle.matching.specs.Layers.{trellis}
use Rattle.matching.specs.PieceSteps.{AsksPiece, AsksTrace}
use Rattle.matching.specs.Sequences.{Trellis}
use Rattle.matching.specs.Value.{best_of, piece_length, solution}

-- the piece that begins at position `first`
abbrev pub best_piece_from : {L : Type 0} → Trellis L → List L → ℕ → Piece
best_piece_from t layers first =
    let rest = drop first layers in
    let n = piece_length t rest in
    record { first = first; last = first + (n - 1); cost = (best_of t (take n rest)).cost }

-- the nodes that this piece asks for
abbrev pub AsksFrom : Net → Params → List Layer → ℕ → ℕ → Type 0
AsksFrom n p layers first v = AsksPiece n p layers (best_piece_from (trellis n p) layers first) v

-- the nodes that the trace of these layers asks for
abbrev pub AsksLayers : Net → Params → List Layer → ℕ → Type 0
AsksLayers n p layers v = AsksTrace n p layers (solution (trellis n p) layers).pieces v
