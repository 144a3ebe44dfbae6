use Rattle.std.proofs.Common.{◌≡◌, ℕ, All, map, subst, sym}
use Rattle.std.proofs.lemmas.List.Elements.{All-map, All-take, All-weaker}
use Rattle.road_network.specs.declared.Arc.{Arc}
use Rattle.road_network.specs.declared.EdgeId.{EdgeId}
use Rattle.road_network.specs.Net.{Net, HasEdge, arc_of, leaving, source}
use Rattle.road_network.proofs.Leaving.{leaving_each}
use Rattle.grid_index.proofs.twins.twin_of.Goals as goal

-- the arcs out of a node are of edges of the network
arcs_have : (n : Net) (u : ℕ) → All (λ (a : Arc). HasEdge n a.edge.0) (map (arc_of n) (leaving n u))
arcs_have n u =
    All-map (λ (a : Arc). HasEdge n a.edge.0) (arc_of n) (leaving n u)
    (All-weaker (λ (e : EdgeId). HasEdge n e.0 × (source n e.0 ≡ u)) (λ (e : EdgeId). HasEdge n e.0) (λ e h. h.0) (leaving n u) (leaving_each n u))

pub loop-arc-init : goal.loop-arc-init
loop-arc-init c =
    let P = λ (a : Arc). HasEdge c.args.net.now a.edge.0 in
    All-take P c.min.result c.arcs-arcs.result.now (subst (All P) (sym c.arcs-arcs.ensures) (arcs_have c.args.net.now c.to.result.0))

pub from-start-requires : goal.from-start-requires
from-start-requires c = c.requires

pub line-line-requires : goal.line-line-requires
line-line-requires c = c.requires

pub to-requires : goal.to-requires
to-requires c = c.requires

pub loop-arc-preserved : goal.loop-arc-preserved
loop-arc-preserved c = c.loop-arc.invariant
