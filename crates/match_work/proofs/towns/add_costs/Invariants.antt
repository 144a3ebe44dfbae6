use Rattle.std.proofs.Common.{◌≡◌, ◌≤◌, ◌*◌, ◌^◌, take}
use Rattle.std.specs.List.{sum_by}
use Rattle.match_work.proofs.towns.add_costs.Given as goal

abbrev pub invariant-loop-piece : goal.invariant-loop-piece
invariant-loop-piece l = record {
  is : l.cost ≡ sum_by (λ piece. piece.cost) (take l.piece-index l.piece-items);
  small : l.cost ≤ l.piece-index * 2 ^ 64;
}
