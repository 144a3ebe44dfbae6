use Rattle.std.proofs.Common.{◌≡◌, map}
use Rattle.std.specs.List.{range_with_len}
use Rattle.road_network.specs.Near.{candidate_at}
use Rattle.candidate_search.specs.inside.Nearest.{IsFound, nearest}
use Rattle.candidate_search.proofs.search.candidates_plain.Given as goal

abbrev pub invariant-loop-number : goal.invariant-loop-number
invariant-loop-number l = record {
  list : l.found.items ≡ nearest l.search.k l.search.radius (map (candidate_at l.net l.search.at) (range_with_len 0 l.number));
  found : IsFound l.search.k l.number l.found.items;
}
