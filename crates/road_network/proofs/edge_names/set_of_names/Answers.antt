use Rattle.std.proofs.Common.{refl, take, get_or}
use Rattle.std.proofs.lemmas.List.{map_more, take_all}
use Rattle.road_network.specs.declared.StoredEdge.{StoredEdge}
use Rattle.road_network.specs.inside.EdgeNames.{names_of}
use Rattle.road_network.proofs.KeptNames.{more-names}
use Rattle.road_network.proofs.edge_names.set_of_names.Goals as goal

pub loop-edge-preserved : goal.loop-edge-preserved
loop-edge-preserved c name =
    let i = c.loop-edge.edge-index in
    let none : StoredEdge = record { name = 0; «from» = record { 0 = 0 }; to = record { 0 = 0 }; length = 0; first = 0; end = 0 } in
    let e : StoredEdge = get_or c.args.edges.now i none in
    rw (c.in_ok-insert.ensures.keys, map_more (λ (s : StoredEdge). s.name) c.args.edges.now i none c.loop-edge-test.true)
    (more-names c.loop-edge.names.keys (names_of (take i c.args.edges.now)) e.name c.loop-edge.invariant name)

pub returns-clause-set : goal.returns-clause-set
returns-clause-set c name = rw (c.loop-edge.invariant name, take_all c.loop-edge.edge-index c.args.edges.now c.loop-edge-test.false) refl
