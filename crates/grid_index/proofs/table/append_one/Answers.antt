use Rattle.std.proofs.Common.{arith}
use Rattle.grid_index.proofs.Gathering.{appends_it, appends_not}
use Rattle.grid_index.proofs.table.append_one.Goals as goal

pub returns-in_ok-push : goal.returns-in_ok-push
returns-in_ok-push c = appends_it c.args.p c.args.far2 c.args.found.now.items c.push.new.self.items c.args.run c.in_ok-push.ensures.items

pub returns-else-distance2-far2 : goal.returns-else-distance2-far2
returns-else-distance2-far2 c = appends_not c.args.p c.args.far2 c.args.found.now.items c.args.run (λ near. let h = c.distance2.ensures.least near.0 near.1 in omega (arith, h, near.2, c.if-distance2-far2.false))
