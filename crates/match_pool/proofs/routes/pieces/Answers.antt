use Rattle.std.proofs.Common.{◌≡◌, ◌++◌, ◌∷◌, [], All, List, ℕ, length, map, take, sym, ap, ◌∙◌, arith, subst, ⊎_elim}
use Rattle.std.proofs.Math.Seq.{take-length}
use Rattle.std.proofs.lemmas.List.{map_more}
use Rattle.bounded_table.proofs.Asking.{asks_nothing, only_by, only_then, still_of}
use Rattle.matching.specs.Layers.{trellis}
use Rattle.matching.specs.declared.parts.Piece.{Piece}
use Rattle.road_network.specs.declared.EdgeId.{EdgeId}
use Rattle.road_network.specs.Net.{HasEdge}
use Rattle.route_rebuild.specs.Numbers.{numbers}
use Rattle.route_rebuild.specs.Routes.{piece_at}
use Rattle.route_rebuild.proofs.ChosenEnds.{chosen_asked}
use Rattle.route_rebuild.proofs.RouteValue.{route_of-is}
use Rattle.trace_match.specs.Match.{routed_of, routed_over}
use Rattle.trace_match.proofs.RouteNames.{route_edges}
use Rattle.trace_match.proofs.Points.{pieces_count}
use Rattle.match_pool.proofs.routes.pieces.Goals as goal

pub overflow_cast-at : goal.overflow_cast-at
overflow_cast-at g c =
    let few = pieces_count (trellis c.args.found.now.net.now c.args.found.now.params.now) c.args.found.now.layers.now 0 c.args.found.now.solved.now.pieces c.requires.solved.matched.pieces_are in
    omega (arith, few, c.requires.solved.trace.are.few)

pub returns-in_err-edges-clause-asks : goal.returns-in_err-edges-clause-asks
returns-in_err-edges-clause-asks g c =
    only_then c.loop-number.invariant.asks
    (only_by c.route.ensures.asks.only (chosen_asked c.args.found.now.net.now c.args.found.now.params.now c.args.found.now.layers.now c.args.found.now.solved.now c.loop-number.number c.invariants.ensures c.requires.solved
    (let low = c.loop-number-test.true in let end = c.len-number-end.ensures in omega arith)))
    (λ v h. ⊎_elim (λ a. a) (λ a. a) h)

pub returns-in_err-routed-clause-asks : goal.returns-in_err-routed-clause-asks
returns-in_err-routed-clause-asks g c =
    only_then c.loop-number.invariant.asks
    (only_by c.route.ensures.asks.only (chosen_asked c.args.found.now.net.now c.args.found.now.params.now c.args.found.now.layers.now c.args.found.now.solved.now c.loop-number.number c.invariants.ensures c.requires.solved
    (let low = c.loop-number-test.true in let end = c.len-number-end.ensures in omega arith)))
    (λ v h. ⊎_elim (λ a. a) (λ a. a) h)

pub returns-in_err-push-clause-asks : goal.returns-in_err-push-clause-asks
returns-in_err-push-clause-asks g c =
    only_then c.loop-number.invariant.asks
    (only_by c.route.ensures.asks.only (chosen_asked c.args.found.now.net.now c.args.found.now.params.now c.args.found.now.layers.now c.args.found.now.solved.now c.loop-number.number c.invariants.ensures c.requires.solved
    (let low = c.loop-number-test.true in let end = c.len-number-end.ensures in omega arith)))
    (λ v h. ⊎_elim (λ a. a) (λ a. a) h)

pub routed-requires : goal.routed-requires
routed-requires g c =
    let s = c.args.found.now.solved.now in
    subst (All (λ (e : EdgeId). HasEdge c.args.found.now.net.now e.0)) (sym c.as_slice-in-loop-number.ensures)
    (route_edges c.args.found.now.net.now c.args.found.now.params.now c.args.found.now.layers.now s.ranks (piece_at s.pieces c.loop-number.number) c.in_ok-edges.edges c.in_ok-edges.ensures.route)

pub loop-number-preserved : goal.loop-number-preserved
loop-number-preserved g c =
    let n = c.args.found.now.net.now in
    let s = c.args.found.now.solved.now in
    let f = routed_of n c.args.found.now.params.now c.args.found.now.layers.now s.ranks in
    let i = c.loop-number.number in
    let piece = piece_at s.pieces i in
    let route = route_of-is n c.args.found.now.params.now c.args.found.now.layers.now s.ranks piece (numbers c.in_ok-edges.edges) c.invariants.ensures c.in_ok-edges.ensures.route.route in
    let made : c.in_ok-routed.field-0 ≡ f piece =
    c.in_ok-routed.ensures
    ∙ ap (λ (ps : List Piece). routed_over n (piece_at ps i) (numbers c.as_slice-in-loop-number.result.now)) c.as_slice.ensures
    ∙ ap (λ (es : List EdgeId). routed_over n piece (numbers es)) c.as_slice-in-loop-number.ensures
    ∙ ap (routed_over n piece) route in
    record {
      pieces = c.in_ok-push.ensures.items
          ∙ ap (λ xs. xs ++ c.in_ok-routed.field-0 ∷ []) c.loop-number.invariant.pieces
          ∙ ap (λ x. map f (take i s.pieces) ++ x ∷ []) made
          ∙ sym (map_more f s.pieces i (record { first = 0; last = 0; cost = 0 }) (omega arith));
      asks = only_then c.loop-number.invariant.asks
          (only_by c.route.ensures.asks.only (chosen_asked c.args.found.now.net.now c.args.found.now.params.now c.args.found.now.layers.now c.args.found.now.solved.now c.loop-number.number c.invariants.ensures c.requires.solved
          (let low = c.loop-number-test.true in let end = c.len-number-end.ensures in omega arith)))
          (λ v h. ⊎_elim (λ a. a) (λ a. a) h);
    }

pub loop-number-init : goal.loop-number-init
loop-number-init g c = record { pieces = c.in_ok-pieces.ensures.items; asks = asks_nothing _ _ }

pub returns-in_err-pieces-clause-asks : goal.returns-in_err-pieces-clause-asks
returns-in_err-pieces-clause-asks g c = asks_nothing _ _

pub route-requires-clause-rows : goal.route-requires-clause-rows
route-requires-clause-rows g c = still_of c.loop-number.invariant.asks.keeps c.requires.rows

pub route-requires-clause-piece : goal.route-requires-clause-piece
route-requires-clause-piece g c = (let low = c.loop-number-test.true in let end = c.len-number-end.ensures in omega arith)

pub returns-clause-pieces : goal.returns-clause-pieces
returns-clause-pieces g c =
    let low = c.loop-number-test.false in
    let high = c.loop-number.auto.number-end in
    let end = c.len-number-end.ensures in
    let f = routed_of c.args.found.now.net.now c.args.found.now.params.now c.args.found.now.layers.now c.args.found.now.solved.now.ranks in
    let all = c.args.found.now.solved.now.pieces in
    let count : c.loop-number.number ≡ length all = omega (arith, low, high, end) in
    c.from_vec.ensures ∙ c.loop-number.invariant.pieces ∙ ap (λ (k : ℕ). map f (take k all)) count ∙ ap (map f) (take-length all)

pub returns-clause-asks : goal.returns-clause-asks
returns-clause-asks g c = c.loop-number.invariant.asks
