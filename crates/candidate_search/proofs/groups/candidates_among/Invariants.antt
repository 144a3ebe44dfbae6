use Rattle.std.proofs.Common.{◌≡◌, ℕ, ◌<◌, ◌≤◌, get_or, length, map, take}
use Rattle.candidate_search.specs.declared.boxes.EdgeBox.{EdgeBox}
use Rattle.candidate_search.specs.inside.Nearest.{IsFound, nearest}
use Rattle.candidate_search.proofs.Shared.{of_box}
use Rattle.candidate_search.proofs.groups.candidates_among.Given as goal

abbrev pub invariant-loop-place : goal.invariant-loop-place
invariant-loop-place l = record {
  list : l.found.items ≡ nearest l.search.k l.search.radius (map (of_box l.fn.among.net.now l.search.at) (take l.place l.fn.among.boxes.now));
  found : (j : ℕ) (d : EdgeBox) → l.place ≤ j → j < length l.fn.among.boxes.now → IsFound l.search.k (get_or l.fn.among.boxes.now j d).edge.0 l.found.items;
}
