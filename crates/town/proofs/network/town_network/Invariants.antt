use Rattle.std.proofs.Common.{codes}
use Rattle.town.proofs.Lines.{IsWritten}
use Rattle.town.proofs.network.town_network.Given as goal

abbrev pub invariant-loop-number : goal.invariant-loop-number
invariant-loop-number l = IsWritten l.n (codes "edge,from,to,line\n") l.number l.edge l.text
