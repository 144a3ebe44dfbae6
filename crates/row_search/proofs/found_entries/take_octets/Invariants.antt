use Rattle.std.proofs.Common.{◌≤◌, ◌+◌, ◌*◌, ◌-◌, take}
use Rattle.row_search.specs.inside.Marked.{TakesMarked, listing}
use Rattle.row_search.specs.inside.Octets.{AreMarkBits}
use Rattle.row_search.proofs.found_entries.take_octets.Given as goal

abbrev pub invariant-loop-marked : goal.invariant-loop-marked
invariant-loop-marked l = record {
  inside : l.octet ≤ (l.region.number + 1) * 64;
  room : l.end + l.region.number * 512 ≤ l.count + l.octet * 8;
  bits : AreMarkBits l.initial.octets l.octet ((l.region.number + 1) * 64) l.marked;
  takes : TakesMarked l.region.bound (l.region.number * 512) (l.octet * 8) (listing l.initial.words l.initial.octets (take l.count l.initial.places)) (listing l.words l.octets (take l.end l.places));
}

abbrev pub decreases-loop-marked : goal.decreases-loop-marked
decreases-loop-marked l = (l.region.number + 1) * 64 - l.octet
