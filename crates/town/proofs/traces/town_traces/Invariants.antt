use Rattle.std.proofs.Common.{codes, ◌++◌}
use Rattle.std.specs.List.{flat_map}
use Rattle.town.specs.Traces.{town_trace_list, trace_lines}
use Rattle.town.proofs.Walks.{AreTracesWritten}
use Rattle.town.proofs.traces.town_traces.Given as goal

abbrev pub invariant-loop-id : goal.invariant-loop-id
invariant-loop-id l =
    AreTracesWritten l.n l.t (codes "trace,x,y\n" ++ flat_map trace_lines (town_trace_list l.n l.t l.seed)) l.id l.draw l.text
