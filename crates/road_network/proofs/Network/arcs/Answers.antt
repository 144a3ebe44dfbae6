use Rattle.road_network.proofs.Parts.{arcs-part, node-part}
use Rattle.road_network.proofs.Network.arcs.Goals as goal

pub slice_bounds-result-count : goal.slice_bounds-result-count
slice_bounds-result-count c = (node-part c.self.inside c.args.self.now c.args.n.0 c.index.result.now c.index-2.result.now c.self.invariant c.self.view_is c.requires (c.index.ensures, c.index-2.ensures)).0

pub slice_bounds-result-start : goal.slice_bounds-result-start
slice_bounds-result-start c = (node-part c.self.inside c.args.self.now c.args.n.0 c.index.result.now c.index-2.result.now c.self.invariant c.self.view_is c.requires (c.index.ensures, c.index-2.ensures)).0

pub returns : goal.returns
returns c = rw c.deref.ensures.value (arcs-part c.self.inside c.args.self.now c.args.n.0 c.index.result.now c.index-2.result.now c.self.invariant c.self.view_is c.requires (c.index.ensures, c.index-2.ensures)).1

pub slice_bounds-result-end : goal.slice_bounds-result-end
slice_bounds-result-end c = rw c.deref.ensures.value (arcs-part c.self.inside c.args.self.now c.args.n.0 c.index.result.now c.index-2.result.now c.self.invariant c.self.view_is c.requires (c.index.ensures, c.index-2.ensures)).0
