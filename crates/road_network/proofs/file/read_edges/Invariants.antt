use Rattle.std.proofs.Common.{◌≡◌, length}
use Rattle.road_network.specs.inside.Between.{IsBetween, records_left, text_left}
use Rattle.road_network.specs.inside.Drafted.{IsDraft, drafted}
use Rattle.road_network.specs.NetworkFile.{add_records, no_net}
use Rattle.road_network.proofs.file.read_edges.Given as goal

-- the records that are left add to the draft what all records add to the network without edges
abbrev pub invariant-loop-line : goal.invariant-loop-line
invariant-loop-line l = record {
  draft : IsDraft l.draft;
  between : IsBetween l.reader;
  rest : add_records l.limits (drafted l.draft) (records_left l.reader) ≡ add_records l.limits no_net (records_left l.initial.reader);
}

abbrev pub decreases-loop-line : goal.decreases-loop-line
decreases-loop-line l = length (text_left l.reader)
