use Rattle.std.proofs.Common.{codes}
use Rattle.town.proofs.Lines.{written_more, written_none}
use Rattle.town.proofs.network.town_network.Goals as goal

pub loop-number-init : goal.loop-number-init
loop-number-init c = written_none c.args.n (codes "edge,from,to,line\n") c.new-text.result c.extend_from_slice.new.self c.new-text.ensures c.in_ok-extend_from_slice.ensures.ok

pub loop-number-preserved : goal.loop-number-preserved
loop-number-preserved c =
    written_more c.args.n c.loop-number.number c.loop-number.edge c.in_ok-edge.edge c.in_ok-edge-2.edge c.at-corner.result (codes "edge,from,to,line\n") c.loop-number.text c.append_street.new.into c.append_street-in-loop-number.new.into c.at-corner.ensures.corner c.loop-number.invariant c.in_ok-edge.ensures.text c.in_ok-edge.ensures.next c.in_ok-edge-2.ensures.text c.in_ok-edge-2.ensures.next
