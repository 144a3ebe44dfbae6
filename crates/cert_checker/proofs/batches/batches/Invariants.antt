use Rattle.std.proofs.Common.{◌≡◌, ◌-◌, ◌≤◌, length, take}
use Rattle.std.specs.List.{flat_map}
use Rattle.cert_checker.specs.inside.Batches.{FollowFrom}
use Rattle.cert_checker.proofs.batches.batches.Given as goal

abbrev pub invariant-loop-first : goal.invariant-loop-first
invariant-loop-first l = record {
  within : l.first ≤ length l.traces;
  follow : FollowFrom 0 l.batches l.first;
  traces_are : flat_map (λ b. b.traces.now) l.batches ≡ take l.first l.traces;
  proofs_are : flat_map (λ b. b.proofs.now) l.batches ≡ take l.first l.proofs;
}

abbrev pub decreases-loop-first : goal.decreases-loop-first
decreases-loop-first l = length l.traces - l.first
