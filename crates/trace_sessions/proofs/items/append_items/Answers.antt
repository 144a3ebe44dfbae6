use Rattle.std.proofs.Common.{rules}
use Rattle.trace_sessions.proofs.Written.{lines_more}
use Rattle.trace_sessions.proofs.items.append_items.Goals as goal

pub loop-item-preserved : goal.loop-item-preserved
loop-item-preserved c =
    lines_more c.args.net.now c.args.id c.args.items.now c.loop-item.item-index c.item-item.result c.args.into.now c.loop-item.into c.write_lead.new.into c.write_item.new.into
    c.loop-item-test.true (search rules) c.loop-item.invariant (search rules) (search rules)
