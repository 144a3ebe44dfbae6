use Rattle.std.proofs.Common.{leb, rules}
use Rattle.std.proofs.lemmas.List.Sorted.{IsPartitionPoint-from_clause, IsPartitionedBy-leb}
use Rattle.road_network.specs.declared.Candidate.{Candidate}
use Rattle.candidate_search.proofs.Found.{place_here}
use Rattle.candidate_search.proofs.nearest.place_of.Goals as goal

pub returns : goal.returns
returns c =
    let found = c.args.found.now in
    let p = λ (x : Candidate). leb x.d2 c.args.d2 in
    place_here found c.args.d2 c.partition_point.result c.partition_point.ensures.bound
    (IsPartitionPoint-from_clause p found c.partition_point.result c.partition_point.ensures.partitioned (IsPartitionedBy-leb (λ (x : Candidate). x.d2) found c.args.d2 c.requires) (λ a r q k. search rules))
