use Rattle.std.proofs.Common.{◌∙◌, ◌+◌, sym, ap, take, arith}
use Rattle.std.proofs.lemmas.List.{take_rest}
use Rattle.road_network.specs.NetworkFile.{line_of, point_of}
use Rattle.road_network.specs.inside.Rows.{with_point}
use Rattle.road_network.proofs.Points.{before-none, line-cut, line-whole, whole-none}
use Rattle.road_network.proofs.fields.first_part.Goals as goal

pub returns-then-byte-eq59-clause-line : goal.returns-then-byte-eq59-clause-line
returns-then-byte-eq59-clause-line c =
    let text = c.args.text.now in
    let i = c.loop-i.i in
    line-cut text i c.loop-i-test.true (before-none text i c.loop-i.invariant) c.if-byte-eq59.true ∙ ap (λ rest. with_point (point_of (take i text)) (line_of rest)) (sym (take_rest text (i + 1)))

pub returns-clause-line : goal.returns-clause-line
returns-clause-line c =
    let text = c.args.text.now in
    line-whole text (whole-none text (λ k below. c.loop-i.invariant k (omega (arith, below, c.loop-i-test.false))))
