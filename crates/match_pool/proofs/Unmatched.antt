-- A trace none of whose fixes has a candidate is matched to nothing, and asks for no row.
use Rattle.std.proofs.Common.{◌≡◌, ℕ, true, List, [], ◌∷◌, map, length, replicate, All, Some, None, refl, sym, ap, ◌∙◌, arith}
use Rattle.std.proofs.lemmas.List.{get_or-replicate, length-map, length-replicate}
use Rattle.std.proofs.lemmas.List.Elements.{All-map, All-nil}
use Rattle.bounded_table.specs.Rows.{AsksAll, RowsState}
use Rattle.bounded_table.proofs.Asking.{asks_known}
use Rattle.cost_model.specs.declared.params.Params.{Params}
use Rattle.cost_model.specs.Options.{IsAccepted}
use Rattle.match_text.specs.declared.matched.Label.{Label}
use Rattle.match_text.specs.declared.matched.Label.TheVariants.{Missing}
use Rattle.matching.specs.declared.parts.Layer.{Layer}
use Rattle.matching.specs.declared.parts.Piece.{Piece}
use Rattle.matching.specs.Layers.{trellis}
use Rattle.matching.specs.Match.{IsMatch, IsMatchedPiece}
use Rattle.matching.specs.PieceSteps.{AsksTrace}
use Rattle.road_network.specs.Net.{Net}
use Rattle.route_rebuild.specs.Chosen.{IsSolved}
use Rattle.trace_match.specs.Match.{asks, labels_of, layer_of, layers_of, match_of, matched_of}
use Rattle.trace_match.specs.inside.Solved.{as_solution}
use Rattle.trace_match.proofs.TraceLayers.{matchable}
use Rattle.trace_reader.specs.declared.trace.Fix.{Fix}
use Rattle.trace_reader.specs.declared.trace.Trace.{Trace}
use Rattle.trace_reader.specs.Trace.{IsLawfulTrace}
use Rattle.trellis.specs.declared.parts.Solved.{Solved}
use Rattle.match_pool.specs.inside.Unmatched.{LiesFar, unmatched}
use Rattle.match_pool.proofs.Found.{answered, asked_by_pieces}

-- no rank, no piece and no cell
abbrev nothing_for : Trace → Solved
nothing_for trace = record { ranks = replicate (length trace.fixes) None; pieces = []; tables = replicate (length trace.fixes) [] }

none_wide : (n : Net) (p : Params) (fixes : List Fix) → All (LiesFar n p) fixes → All (λ (l : Layer). length l.candidates ≡ 0) (map (layer_of n p) fixes)
none_wide n p fixes none = All-map (λ (l : Layer). length l.candidates ≡ 0) (layer_of n p) fixes (λ k d lt. ap length (none k d lt))

nothing_matches : (n : Net) (p : Params) (trace : Trace) → All (LiesFar n p) trace.fixes
    → IsMatch (trellis n p) (layers_of n p trace) (replicate (length trace.fixes) None) [] (replicate (length trace.fixes) [])
nothing_matches n p trace none =
    let k = length trace.fixes in
    let layers = layers_of n p trace in
    let many : length layers ≡ k = length-map trace.fixes (layer_of n p) in
    record {
      ranks_count = length-replicate k None ∙ sym many;
      tables_count = length-replicate k [] ∙ sym many;
      pieces_are = none_wide n p trace.fixes none;
      each = All-nil (λ (x : Piece). IsMatchedPiece (trellis n p) layers (replicate k None) (replicate k []) x);
      missing = λ i l lt is wide. (
        get_or-replicate k i None (Some 0) (omega (arith, lt, many)),
        get_or-replicate k i [] [] (omega (arith, lt, many)),
      );
    }

pub nothing_solved : (n : Net) (p : Params) (trace : Trace) → IsAccepted p → IsLawfulTrace trace → All (LiesFar n p) trace.fixes → IsSolved n p (layers_of n p trace) (nothing_for trace)
nothing_solved n p trace accepted lawful none = record { trace = matchable n p trace (layers_of n p trace) accepted lawful refl; matched = nothing_matches n p trace none }

labels_missing : (n : Net) (p : Params) (fixes : List Fix) → labels_of n (map (layer_of n p) fixes) (replicate (length fixes) None) ≡ replicate (length fixes) Missing
labels_missing n p [] = refl
labels_missing n p (x ∷ fixes) = ap (λ (ls : List Label). Missing ∷ ls) (labels_missing n p fixes)

pub unmatched_is : (n : Net) (p : Params) (trace : Trace) → IsAccepted p → IsLawfulTrace trace → All (LiesFar n p) trace.fixes → unmatched trace ≡ match_of n p trace
unmatched_is n p trace accepted lawful none =
    let written : unmatched trace ≡ matched_of n p trace.id (layers_of n p trace) (as_solution (nothing_for trace))
    = ap (λ (ls : List Label). record { id = trace.id; labels = ls; pieces = [] }) (sym (labels_missing n p trace.fixes)) in
    (answered n p trace (record { layers = layers_of n p trace; solved = nothing_for trace; matched = unmatched trace }) lawful refl (nothing_solved n p trace accepted lawful none) written).matched_is

none_asked : (n : Net) (p : Params) (layers : List Layer) (v : ℕ) → AsksTrace n p layers [] v → ⊥
none_asked n p layers v h = omega (arith, h.1.1)

pub unmatched_asks : (n : Net) (p : Params) (trace : Trace) (state : RowsState) → IsAccepted p → IsLawfulTrace trace → All (LiesFar n p) trace.fixes
    → AsksAll state state (λ v. asks n p trace v ≡ true)
unmatched_asks n p trace state accepted lawful none =
    let layers = layers_of n p trace in
    asks_known (λ v is. absurd (none_asked n p layers v (asked_by_pieces n p trace layers (nothing_for trace) v refl (nothing_solved n p trace accepted lawful none) is)))
