use Rattle.std.proofs.Common.{◌≡◌, ◌-◌, List, take, drop, subst, sym}
use Rattle.std.specs.List.{All}
use Rattle.road_network.specs.declared.EdgeId.{EdgeId}
use Rattle.road_network.specs.Net.{ContainsLeaving, HasEdge, leaving, source}
use Rattle.road_network.proofs.Leaving.{leaving_each, leaving_every}
use Rattle.road_network.proofs.Parts.{node-part}
use Rattle.road_network.proofs.Network.out.Goals as goal

pub slice_bounds-result-count : goal.slice_bounds-result-count
slice_bounds-result-count c = (node-part c.self.inside c.args.self.now c.args.n.0 c.index.result.now c.index-2.result.now c.self.invariant c.self.view_is c.requires (c.index.ensures, c.index-2.ensures)).0

pub slice_bounds-result-start : goal.slice_bounds-result-start
slice_bounds-result-start c = (node-part c.self.inside c.args.self.now c.args.n.0 c.index.result.now c.index-2.result.now c.self.invariant c.self.view_is c.requires (c.index.ensures, c.index-2.ensures)).0

pub returns-clause-list : goal.returns-clause-list
returns-clause-list c = rw c.deref.ensures.value (node-part c.self.inside c.args.self.now c.args.n.0 c.index.result.now c.index-2.result.now c.self.invariant c.self.view_is c.requires (c.index.ensures, c.index-2.ensures)).2

pub returns-clause-each : goal.returns-clause-each
returns-clause-each c =
    let list : take (c.index-2.result.now - c.index.result.now) (drop c.index.result.now c.deref.result.now) ≡ leaving c.args.self.now c.args.n.0 = returns-clause-list c in
    subst (λ (edges : List EdgeId). All (λ e. HasEdge c.args.self.now e.0 × (source c.args.self.now e.0 ≡ c.args.n.0)) edges) (sym list) (leaving_each c.args.self.now c.args.n.0)

pub returns-clause-every : goal.returns-clause-every
returns-clause-every c =
    let list : take (c.index-2.result.now - c.index.result.now) (drop c.index.result.now c.deref.result.now) ≡ leaving c.args.self.now c.args.n.0 = returns-clause-list c in
    subst (ContainsLeaving c.args.self.now c.args.n.0) (sym list) (leaving_every c.args.self.now c.args.n.0)

pub slice_bounds-result-end : goal.slice_bounds-result-end
slice_bounds-result-end c = rw c.deref.ensures.value (node-part c.self.inside c.args.self.now c.args.n.0 c.index.result.now c.index-2.result.now c.self.invariant c.self.view_is c.requires (c.index.ensures, c.index-2.ensures)).1
