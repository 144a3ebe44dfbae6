use Rattle.std.proofs.Common.{map, ap, ◌∙◌}
use Rattle.std.specs.Prelude.{pos}
use Rattle.std.proofs.lemmas.List.{take_all}
use Rattle.trace_reader.specs.declared.trace.Fix.{Fix}
use Rattle.trace_reader.specs.Trace.{point_of_fix}
use Rattle.cert_checker.proofs.PlainLayers.{mapped_next}
use Rattle.cert_checker.proofs.plain_layers.places.Goals as goal

abbrev none : Fix
none = record { x = pos 0; y = pos 0; time = 0 }

pub loop-fix-init : goal.loop-fix-init
loop-fix-init c = c.from_vec-points.ensures ∙ c.in_ok-with_capacity.ensures.items

pub loop-fix-preserved : goal.loop-fix-preserved
loop-fix-preserved c = c.in_ok-push.ensures.ok ∙ mapped_next point_of_fix c.args.fixes.now c.loop-fix.fix-index none c.loop-fix.points c.point.result c.loop-fix-test.true c.loop-fix.invariant c.point.ensures

pub returns : goal.returns
returns c = c.loop-fix.invariant ∙ ap (map point_of_fix) (take_all c.loop-fix.fix-index c.args.fixes.now c.loop-fix-test.false)
