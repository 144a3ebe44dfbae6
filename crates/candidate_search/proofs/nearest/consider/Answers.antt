use Rattle.std.proofs.Common.{ℕ, ◌-◌, ◌<◌, ◌≤◌, List, length, subst}
use Rattle.std.specs.Prelude.{MatchOption}
use Rattle.polyline_geometry.specs.Nearest.{AreFar, IsNearest}
use Rattle.road_network.specs.declared.Candidate.{Candidate}
use Rattle.road_network.specs.Net.{edge_line}
use Rattle.candidate_search.specs.inside.Nearest.{AllAreFar}
use Rattle.candidate_search.proofs.Found.{nearest_taken}
use Rattle.candidate_search.proofs.nearest.consider.Goals as goal

pub take_segment-requires-clause-near : goal.take_segment-requires-clause-near
take_segment-requires-clause-near c =
    let line = edge_line c.args.net.now c.args.edge.0 in
    let at = c.args.search.at in
    let limit = c.limit_of-limit.result in
    let r = c.nearest_segment-near.result in
    let near = subst (λ l. MatchOption r (AreFar l at limit 0 (length l - 1)) (λ s. IsNearest l at 0 (length l - 1) s × (s.d2 < limit))) c.line-line.ensures c.nearest_segment-near.ensures in
    let beyond = subst (λ (l : List Candidate). (d2 : ℕ) → limit ≤ d2 → AllAreFar c.args.search l d2) c.as_slice.ensures.value c.limit_of-limit.ensures.far in
    nearest_taken line c.args.search c.args.found.now.items limit r (c.invariants.ensures.lines c.args.edge.0 c.requires.edge) c.limit_of-limit.ensures.within beyond near
