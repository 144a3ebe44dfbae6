use Rattle.std.proofs.Common.{◌≡◌, ◌<◌, All, length}
use Rattle.std.specs.Vec.Iter.{into_iter_items}
use Rattle.potential_certificate.specs.inside.Gathering.{put_at_places}
use Rattle.potential_certificate.specs.declared.drawing.PlacedRead.{PlacedRead}
use Rattle.potential_certificate.proofs.drawing.put_in.Given as goal

abbrev pub invariant-loop-place : goal.invariant-loop-place
invariant-loop-place l = record {
  count : length l.reads ≡ length l.initial.reads;
  inside : All (λ (placed : PlacedRead). placed.place < length l.initial.reads) (into_iter_items l.place-iterator);
  reads : put_at_places l.reads (into_iter_items l.place-iterator) ≡ put_at_places l.initial.reads (into_iter_items l.initial.place-iterator);
}
