use Rattle.town.proofs.Walks.{street_joined, street_drawn}
use Rattle.town.proofs.traces.append_street.Goals as goal

pub returns-clause-lines : goal.returns-clause-lines
returns-clause-lines c =
    street_joined c.args.id c.args.corner c.args.way c.args.draw.now c.append_fix.new.draw c.along.result c.along-2.result c.args.into.now c.append_fix.new.into c.append_fix-2.new.into c.append_fix-2.result
    c.along.ensures.spot c.along-2.ensures.spot c.in_ok-append_fix.ensures.line c.append_fix.ensures.draws c.append_fix-2.ensures.line

pub returns-clause-draws : goal.returns-clause-draws
returns-clause-draws c = street_drawn c.args.draw.now c.append_fix.new.draw c.append_fix-2.new.draw c.append_fix-2.result c.append_fix.ensures.draws c.append_fix-2.ensures.draws
