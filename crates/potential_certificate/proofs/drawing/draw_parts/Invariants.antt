use Rattle.std.proofs.Common.{◌≡◌, ◌+◌, ◌-◌, All}
use Rattle.tickets.specs.Tickets.{IsOpenTicket}
use Rattle.potential_certificate.specs.inside.Gathering.{IsPlacedIn}
use Rattle.potential_certificate.proofs.drawing.draw_parts.Given as goal

abbrev pub invariant-loop-number : goal.invariant-loop-number
invariant-loop-number l = record {
  own : l.ticket.claims ≡ l.claims.name;
  opened : IsOpenTicket l.claims.count l.ticket;
  done : All (IsPlacedIn l.parts) l.done;
}

abbrev pub decreases-loop-number : goal.decreases-loop-number
decreases-loop-number l = l.claims.count + 1 - l.ticket.seen
