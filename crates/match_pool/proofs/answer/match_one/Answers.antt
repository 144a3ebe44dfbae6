use Rattle.std.proofs.Common.{◌≡◌, true, sym, ap, ◌∙◌, subst, map, All}
use Rattle.bounded_table.specs.Rows.{AsksFor, AsksOnly}
use Rattle.bounded_table.proofs.Asking.{asks_done, asks_err, asks_nothing, asks_ok, still_of}
use Rattle.matching.specs.Layers.{IsMatchable, trellis}
use Rattle.matching.specs.Match.{IsMatch}
use Rattle.matching.specs.PieceSteps.{AsksTrace}
use Rattle.route_rebuild.specs.Chosen.{IsSolved}
use Rattle.trace_match.specs.Match.{asks, layer_of, matched_of}
use Rattle.trace_match.specs.inside.Solved.{as_solution}
use Rattle.trace_match.proofs.TraceLayers.{matchable}
use Rattle.viterbi.specs.Asking.{AsksLayers}
use Rattle.match_pool.proofs.Found.{all_both, answered, asked_both, asked_matched, asked_routes}
use Rattle.polyline_geometry.specs.Plane.{InRange}
use Rattle.trace_reader.specs.declared.trace.Fix.{Fix}
use Rattle.trace_reader.specs.Trace.{point_of_fix}
use Rattle.match_pool.proofs.answer.match_one.Goals as goal

pub match_trace-requires-clause-layers : goal.match_trace-requires-clause-layers
match_trace-requires-clause-layers g c =
    let n = c.args.net.now in
    let p = c.args.p.now in
    subst (IsMatchable n p) (sym c.as_slice-2.ensures)
    (matchable n p c.args.trace.now c.in_ok-layers.layers c.requires.ground.options c.requires.trace (c.in_ok-layers.ensures ∙ ap (map (layer_of n p)) c.as_slice.ensures))

pub in_ids-requires-clause-solved : goal.in_ids-requires-clause-solved
in_ids-requires-clause-solved g c =
    let n = c.args.net.now in
    let p = c.args.p.now in
    let s = c.in_ok-solved.solved in
    let trace = matchable n p c.args.trace.now c.in_ok-layers.layers c.requires.ground.options c.requires.trace (c.in_ok-layers.ensures ∙ ap (map (layer_of n p)) c.as_slice.ensures) in
    let is : IsSolved n p c.in_ok-layers.layers s = record { trace = trace; matched = subst (λ ls. IsMatch (trellis n p) ls s.ranks s.pieces s.tables) c.as_slice-2.ensures c.in_ok-solved.ensures.matched } in
    subst (λ ls. IsSolved n p ls s) (sym c.as_slice-3.ensures) is

pub returns-clause-answer : goal.returns-clause-answer
returns-clause-answer g c =
    let n = c.args.net.now in
    let p = c.args.p.now in
    let trace = c.args.trace.now in
    let layers = c.in_ok-layers.layers in
    let s = c.in_ok-solved.solved in
    let same = c.in_ok-layers.ensures ∙ ap (map (layer_of n p)) c.as_slice.ensures in
    let is : IsSolved n p layers s = record {
      trace = matchable n p trace layers c.requires.ground.options c.requires.trace same;
      matched = subst (λ ls. IsMatch (trellis n p) ls s.ranks s.pieces s.tables) c.as_slice-2.ensures c.in_ok-solved.ensures.matched;
    } in
    let written = c.in_ok-matched.ensures.matched ∙ ap (λ ls. matched_of n p trace.id ls (as_solution s)) c.as_slice-3.ensures in
    answered n p trace (record { layers = layers; solved = s; matched = c.in_ok-matched.matched }) c.requires.trace same is written

pub returns-clause-asks : goal.returns-clause-asks
returns-clause-asks g c =
    let n = c.args.net.now in
    let p = c.args.p.now in
    let trace = c.args.trace.now in
    let layers = c.in_ok-layers.layers in
    let same = c.in_ok-layers.ensures ∙ ap (map (layer_of n p)) c.as_slice.ensures in
    let s0 = g.R.Rows.state c.args.rows.now in
    let s1 = g.R.Rows.state c.match_trace.new.rows in
    let one : AsksFor s0 (λ v. asks n p trace v ≡ true) c.match_trace.result s1 =
    asked_matched n p trace layers same (subst (λ ls. AsksFor s0 (AsksLayers n p ls) c.match_trace.result s1) c.as_slice-2.ensures c.match_trace.ensures.asks) in
    let s = c.in_ok-solved.solved in
    let is : IsSolved n p layers s = record {
      trace = matchable n p trace layers c.requires.ground.options c.requires.trace same;
      matched = subst (λ ls. IsMatch (trellis n p) ls s.ranks s.pieces s.tables) c.as_slice-2.ensures c.in_ok-solved.ensures.matched;
    } in
    let s2 = g.R.Rows.state c.in_ids.new.rows in
    let two : AsksOnly s1 s2 (λ v. asks n p trace v ≡ true) =
    asked_routes n p trace layers s same is (subst (λ ls. AsksOnly s1 s2 (AsksTrace n p ls s.pieces)) c.as_slice-3.ensures c.in_ids.ensures.asks) in
    asks_done (all_both (asks_ok one c.in_ok-solved.was) two)

pub returns-in_err-matched-clause-asks : goal.returns-in_err-matched-clause-asks
returns-in_err-matched-clause-asks g c =
    let n = c.args.net.now in
    let p = c.args.p.now in
    let trace = c.args.trace.now in
    let layers = c.in_ok-layers.layers in
    let same = c.in_ok-layers.ensures ∙ ap (map (layer_of n p)) c.as_slice.ensures in
    let s0 = g.R.Rows.state c.args.rows.now in
    let s1 = g.R.Rows.state c.match_trace.new.rows in
    let one : AsksFor s0 (λ v. asks n p trace v ≡ true) c.match_trace.result s1 =
    asked_matched n p trace layers same (subst (λ ls. AsksFor s0 (AsksLayers n p ls) c.match_trace.result s1) c.as_slice-2.ensures c.match_trace.ensures.asks) in
    let s = c.in_ok-solved.solved in
    let is : IsSolved n p layers s = record {
      trace = matchable n p trace layers c.requires.ground.options c.requires.trace same;
      matched = subst (λ ls. IsMatch (trellis n p) ls s.ranks s.pieces s.tables) c.as_slice-2.ensures c.in_ok-solved.ensures.matched;
    } in
    let s2 = g.R.Rows.state c.in_ids.new.rows in
    let two : AsksOnly s1 s2 (λ v. asks n p trace v ≡ true) =
    asked_routes n p trace layers s same is (subst (λ ls. AsksOnly s1 s2 (AsksTrace n p ls s.pieces)) c.as_slice-3.ensures c.in_ids.ensures.asks) in
    asks_err (asked_both one.only two) c.from_residual-in_err-matched.ensures.0

pub returns-in_err-solved-clause-asks : goal.returns-in_err-solved-clause-asks
returns-in_err-solved-clause-asks g c =
    let n = c.args.net.now in
    let p = c.args.p.now in
    let trace = c.args.trace.now in
    let layers = c.in_ok-layers.layers in
    let same = c.in_ok-layers.ensures ∙ ap (map (layer_of n p)) c.as_slice.ensures in
    let s0 = g.R.Rows.state c.args.rows.now in
    let s1 = g.R.Rows.state c.match_trace.new.rows in
    let one : AsksFor s0 (λ v. asks n p trace v ≡ true) c.match_trace.result s1 =
    asked_matched n p trace layers same (subst (λ ls. AsksFor s0 (AsksLayers n p ls) c.match_trace.result s1) c.as_slice-2.ensures c.match_trace.ensures.asks) in
    asks_err one.only c.from_residual-in_err-solved.ensures.0

pub returns-in_err-layers-clause-asks : goal.returns-in_err-layers-clause-asks
returns-in_err-layers-clause-asks g c = asks_err (asks_nothing (g.R.Rows.state c.args.rows.now) (λ v. asks c.args.net.now c.args.p.now c.args.trace.now v ≡ true)) c.from_residual.ensures.0

pub layers-requires-clause-ground : goal.layers-requires-clause-ground
layers-requires-clause-ground g c = c.requires.ground

pub layers-requires-clause-places : goal.layers-requires-clause-places
layers-requires-clause-places g c = subst (All (λ (f : Fix). InRange (point_of_fix f))) (sym c.as_slice.ensures) c.requires.trace.in_range

pub match_trace-requires-clause-rows : goal.match_trace-requires-clause-rows
match_trace-requires-clause-rows g c = c.requires.rows

pub in_ids-requires-clause-rows : goal.in_ids-requires-clause-rows
in_ids-requires-clause-rows g c = still_of c.match_trace.ensures.asks.only.keeps c.requires.rows
