use Rattle.std.proofs.Common.{◌≡◌, ◌+◌, All, [], length}
use Rattle.tickets.specs.Tickets.{fresh_ticket}
use Rattle.tickets.proofs.deal.Given as goal

abbrev pub invariant-loop : goal.invariant-loop
invariant-loop l = (l.seat.table_id ≡ l.claims.name) × (l.seat.me.0.share + l.counter ≡ l.seats + 1) × (l.seat.me.0.numbers ≡ []) × (l.seat.me.0.seen ≡ 0) × (l.seat.me.1 ≡ []) × (length l.tickets + 1 ≡ l.counter)
    × All (λ t. t ≡ fresh_ticket l.claims.name) l.tickets
