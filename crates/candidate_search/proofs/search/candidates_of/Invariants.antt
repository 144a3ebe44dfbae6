use Rattle.std.proofs.Common.{◌≡◌, map, take}
use Rattle.candidate_search.proofs.Reached.{made}
use Rattle.candidate_search.proofs.search.candidates_of.Given as goal

abbrev pub invariant-loop-near : goal.invariant-loop-near
invariant-loop-near l = l.list.items ≡ map (made l.net l.fn.search.at) (take l.near-index l.found)
