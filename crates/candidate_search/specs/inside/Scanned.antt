-- What a scan of all edges is made of.
use Rattle.std.specs.Prelude.{◌≡◌, length, map}
use Rattle.std.specs.List.{range_with_len}
use Rattle.road_network.specs.Net.{Net}
use Rattle.candidate_search.specs.declared.edge_scan.EdgeScan.TheInside.{Inside}
use Rattle.candidate_search.specs.inside.Boxes.{AreBoxes}

abbrev pub scanned : Inside → Net
scanned a = a.net.now

-- the boxes are those of all edges of the network
pub record HasAllBoxes (a : Inside) : Type 0 where
  pub are : AreBoxes a.net.now a.boxes.items
  pub all : map (λ b. b.edge.0) a.boxes.items ≡ range_with_len 0 (length a.net.now.edges)
