use Rattle.std.proofs.Common.{All, List, take}
use Rattle.polyline_geometry.specs.declared.plane.Point.{Point}
use Rattle.road_network.specs.Near.{candidates}
use Rattle.candidate_search.specs.inside.Placed.{AreWritten, IsPlaced}
use Rattle.candidate_search.proofs.groups.list_each.Given as goal

abbrev pub invariant-loop-index : goal.invariant-loop-index
invariant-loop-index l =
    (points : List Point) → All (IsPlaced points) l.group → AreWritten (candidates l.fn.among.net.now l.fn.among.p.now.k l.fn.among.p.now.radius) points l.fn.lists l.lists (take l.index l.group)
