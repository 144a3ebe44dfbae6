use Rattle.road_network.proofs.Parts.{edge-part, offsets-part}
use Rattle.road_network.proofs.Network.offsets.Goals as goal

pub slice_bounds-result-count : goal.slice_bounds-result-count
slice_bounds-result-count c = (edge-part c.self.inside c.args.self.now c.args.e.0 c.index-edge.result.now c.self.invariant c.self.view_is c.requires c.index-edge.ensures).0

pub slice_bounds-result-start : goal.slice_bounds-result-start
slice_bounds-result-start c = (edge-part c.self.inside c.args.self.now c.args.e.0 c.index-edge.result.now c.self.invariant c.self.view_is c.requires c.index-edge.ensures).0

pub returns : goal.returns
returns c = rw c.deref.ensures.value (offsets-part c.self.inside c.args.self.now c.args.e.0 c.index-edge.result.now c.self.invariant c.self.view_is c.requires c.index-edge.ensures).1

pub slice_bounds-result-end : goal.slice_bounds-result-end
slice_bounds-result-end c = rw c.deref.ensures.value (offsets-part c.self.inside c.args.self.now c.args.e.0 c.index-edge.result.now c.self.invariant c.self.view_is c.requires c.index-edge.ensures).0
