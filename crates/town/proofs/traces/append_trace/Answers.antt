use Rattle.town.proofs.Walks.{walk_begun, walk_ended, walk_more}
use Rattle.town.proofs.traces.append_trace.Goals as goal

pub loop-init : goal.loop-init
loop-init c = walk_begun c.args.n c.args.id c.args.draw.now c.draw_start-corner.new.draw c.draw_start-corner.result c.args.into.now c.draw_start-corner.ensures.corner c.draw_start-corner.ensures.draws c.draw_start-corner.ensures.inside

pub draw_way-way-requires : goal.draw_way-way-requires
draw_way-way-requires c = (c.requires.0, c.loop.invariant.inside)

pub append_street-requires : goal.append_street-requires
append_street-requires c = (c.requires.1, c.loop.invariant.inside, c.draw_way-way.ensures.open)

pub next-corner-requires : goal.next-corner-requires
next-corner-requires c = (c.loop.invariant.inside, c.draw_way-way.ensures.open)

pub loop-preserved : goal.loop-preserved
loop-preserved c =
    walk_more c.args.n c.args.id _ _ c.loop.counter c.loop.corner c.loop.draw c.loop.into c.draw_way-way.result c.draw_way-way.new.draw c.append_street.new.draw c.next-corner.result c.append_street.new.into c.loop.invariant c.loop-test.true c.draw_way-way.ensures.way c.draw_way-way.ensures.draws c.in_ok-append_street.ensures.lines c.in_ok-append_street.ensures.draws c.next-corner.ensures.corner c.next-corner.ensures.inside

pub returns-clause-lines : goal.returns-clause-lines
returns-clause-lines c = (walk_ended c.args.n c.args.id _ _ c.loop.counter c.loop.corner c.loop.draw c.loop.into c.loop.invariant c.loop-test.false).0

pub returns-clause-draws : goal.returns-clause-draws
returns-clause-draws c = (walk_ended c.args.n c.args.id _ _ c.loop.counter c.loop.corner c.loop.draw c.loop.into c.loop.invariant c.loop-test.false).1
