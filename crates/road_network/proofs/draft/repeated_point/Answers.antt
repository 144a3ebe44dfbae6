use Rattle.std.proofs.Common.{◌-◌, ◌∙◌, sym}
use Rattle.polyline_geometry.specs.Plane.{point_at}
use Rattle.road_network.proofs.Lines.{repeated-first, repeated-here, repeated-later, repeated-none}
use Rattle.road_network.proofs.draft.repeated_point.Goals as goal

pub loop-i-init : goal.loop-i-init
loop-i-init c = repeated-first c.args.line.now

pub loop-i-preserved : goal.loop-i-preserved
loop-i-preserved c =
    let line = c.args.line.now in
    let i = c.loop-i.i in
    c.loop-i.invariant ∙ repeated-later line i (point_at line (i - 1)) c.loop-i-test.true (sym c.eq.ensures ∙ c.if-eq.false)

pub returns : goal.returns
returns c =
    let line = c.args.line.now in
    let i = c.loop-i.i in
    sym (c.loop-i.invariant ∙ repeated-none line i (point_at line (i - 1)) c.loop-i-test.false)

pub returns-then-eq : goal.returns-then-eq
returns-then-eq c =
    let line = c.args.line.now in
    let i = c.loop-i.i in
    sym (c.loop-i.invariant ∙ repeated-here line i (point_at line (i - 1)) c.loop-i-test.true (sym c.eq.ensures ∙ c.if-eq.true))
