use Rattle.std.proofs.Common.{◌≡◌, ◌≤◌, ◌+◌, ℕ, take, drop}
use Rattle.row_search.specs.inside.Underway.{after_arcs}
use Rattle.row_search.proofs.waiting_list.try_arcs.Given as goal

abbrev pub invariant-loop-tried : goal.invariant-loop-tried
invariant-loop-tried l = record {
  no_less : l.count ≤ l.end;
  room : l.end ≤ l.count + l.tried;
  tries : (bound : ℕ) → after_arcs bound l.distance (drop l.tried l.arcs) (record { words = l.words; queue = take l.end l.places }) ≡ after_arcs bound l.distance l.arcs (record { words = l.initial.words; queue = take l.count l.initial.places });
}
