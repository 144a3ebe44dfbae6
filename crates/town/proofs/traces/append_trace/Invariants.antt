use Rattle.std.proofs.Common.{◌++◌}
use Rattle.town.specs.Draws.{state_after}
use Rattle.town.specs.Traces.{town_trace, trace_lines}
use Rattle.town.proofs.Walks.{IsWalked}
use Rattle.town.proofs.traces.append_trace.Given as goal

abbrev pub invariant-loop : goal.invariant-loop
invariant-loop l =
    IsWalked l.n l.id (l.fn.into ++ trace_lines (town_trace l.n l.id l.fn.draw)) (state_after 52 l.fn.draw) l.counter l.corner l.draw l.into
