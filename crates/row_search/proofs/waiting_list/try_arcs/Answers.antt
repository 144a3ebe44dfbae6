use Rattle.std.proofs.Common.{◌≡◌, ◌<◌, ◌+◌, ◌∙◌, ◌∷◌, ℕ, List, [], length, take, drop, slice_index_or, ap, sym, refl, arith}
use Rattle.std.proofs.Math.ListN.{drop_of_length-le}
use Rattle.std.proofs.lemmas.Grind.{common_steps}
use Rattle.road_network.specs.declared.Arc.{Arc}
use Rattle.bounded_table.specs.LabelWords.{IsTriable}
use Rattle.row_search.specs.inside.Underway.{SearchState, after_arcs}
use Rattle.bounded_table.proofs.Arcs.{no_arc}
use Rattle.row_search.proofs.waiting_list.try_arcs.Goals as goal

pub loop-tried-preserved : goal.loop-tried-preserved
loop-tried-preserved c =
    let inv = c.loop-tried.invariant in
    let e = c.try_arc-end.ensures in
    let arcs : List Arc = c.args.arcs.now in
    let d : ℕ = c.args.distance in
    let i : ℕ = c.loop-tried.tried in
    let inside : i < length arcs = c.loop-tried-test.true in
    let next : drop i arcs ≡ slice_index_or arcs i no_arc ∷ drop (i + 1) arcs = grind (arith, common_steps) in
    let old : SearchState = record { words = c.loop-tried.words; queue = take c.loop-tried.end c.loop-tried.places } in
    record {
      no_less = omega (arith, inv.no_less, e.sizes.1);
      room = omega (arith, inv.room, e.sizes.2);
      tries = λ bound. ap (after_arcs bound d (drop (i + 1) arcs)) (e.tries bound) ∙ (ap (λ (k : List Arc). after_arcs bound d k old) (sym next) ∙ inv.tries bound);
    }

pub loop-tried-init : goal.loop-tried-init
loop-tried-init c = record { no_less = omega arith; room = omega arith; tries = λ bound. refl }

pub try_arc-end-requires-clause-arc : goal.try_arc-end-requires-clause-arc
try_arc-end-requires-clause-arc c =
    let triable : IsTriable (length c.args.words.now) (slice_index_or c.args.arcs.now c.loop-tried.tried no_arc) = c.requires.arcs c.loop-tried.tried no_arc c.loop-tried-test.true in
    record { end = omega (arith, triable.end, c.loop-tried.auto.words); not_long = triable.not_long }

pub try_arc-end-requires-clause-room : goal.try_arc-end-requires-clause-room
try_arc-end-requires-clause-room c = omega (arith, c.loop-tried.invariant.room, c.loop-tried-test.true, c.requires.room, c.loop-tried.auto.places)

pub returns-clause-tries : goal.returns-clause-tries
returns-clause-tries c = λ bound.
    let arcs : List Arc = c.args.arcs.now in
    let none : drop c.loop-tried.tried arcs ≡ [] = drop_of_length-le arcs (omega (arith, c.loop-tried-test.false)) in
    let state : SearchState = record { words = c.loop-tried.words; queue = take c.loop-tried.end c.loop-tried.places } in
    ap (λ (k : List Arc). after_arcs bound c.args.distance k state) (sym none) ∙ c.loop-tried.invariant.tries bound

pub returns-clause-sizes : goal.returns-clause-sizes
returns-clause-sizes c =
    let inv = c.loop-tried.invariant in
    (c.loop-tried.auto.words, inv.no_less, omega (arith, inv.room, c.requires.room, c.loop-tried.auto.places, c.loop-tried-test))
