use Rattle.std.proofs.Common.{◌+◌, ◌-◌}
use Rattle.tickets.specs.Tickets.{IsOpenTicket}
use Rattle.match_pool.specs.Drawing.{job_of}
use Rattle.match_pool.specs.Working.{KeepsClaims}
use Rattle.match_pool.proofs.Turns.{Working}
use Rattle.match_pool.proofs.drawing.work_on.Given as goal

abbrev pub invariant-loop-rank : goal.invariant-loop-rank
invariant-loop-rank g l = record {
  stays : KeepsClaims (job_of l.batch) l.initial.reader l.initial.ticket l.reader l.ticket;
  opened : IsOpenTicket l.claims.count l.ticket;
  working : Working (job_of l.batch) l.numbers l.initial.reader l.initial.ticket.numbers l.done l.reader l.ticket.numbers;
}

abbrev pub decreases-loop-rank : goal.decreases-loop-rank
decreases-loop-rank g l = l.claims.count + 1 - l.ticket.seen
