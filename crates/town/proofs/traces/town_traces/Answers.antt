use Rattle.std.proofs.Common.{codes, ◌∙◌}
use Rattle.town.proofs.Walks.{traces_begun, traces_ended, trace_more}
use Rattle.town.proofs.traces.town_traces.Goals as goal

pub loop-id-init : goal.loop-id-init
loop-id-init c = traces_begun c.args.n c.args.t c.args.seed (codes "trace,x,y\n") c.new-text.result c.extend_from_slice.new.self c.new-draw.result c.new-text.ensures c.in_ok-extend_from_slice.ensures.ok (c.new-draw.ensures ∙ c.from.ensures)

pub loop-id-preserved : goal.loop-id-preserved
loop-id-preserved c = trace_more c.args.n c.args.t _ c.loop-id.id c.loop-id.draw c.append_trace.new.draw c.loop-id.text c.append_trace.new.into c.loop-id.invariant c.loop-id-test.true c.in_ok-append_trace.ensures.lines c.in_ok-append_trace.ensures.draws

pub returns : goal.returns
returns c = traces_ended c.args.n c.args.t _ c.loop-id.id c.loop-id.draw c.loop-id.text c.loop-id.invariant c.loop-id-test.false
