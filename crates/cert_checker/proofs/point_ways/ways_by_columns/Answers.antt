use Rattle.std.proofs.Common.{◌≡◌, ◌+◌, ℕ, List, Option, length, sym, ap, ◌∙◌, subst, arith}
use Rattle.cert_checker.specs.declared.point_ways.PointWays.{PointWays}
use Rattle.matching.specs.declared.parts.Cell.{Cell}
use Rattle.matching.specs.Cells.{cell_at}
use Rattle.cert_checker.specs.Case.{ways, width}
use Rattle.cert_checker.specs.inside.CaseSeen.{case_seen}
use Rattle.cert_checker.specs.inside.Columns.{AreWaysOf, with_column}
use Rattle.cert_checker.proofs.ColumnSteps.{one_column}
use Rattle.cert_checker.proofs.ReadyPoints.{cells_here}
use Rattle.cert_checker.proofs.point_ways.ways_by_columns.Goals as goal

pub loop-j-preserved : goal.loop-j-preserved
loop-j-preserved c =
    let s = case_seen c.args.case.now in
    let step = one_column s c.args.i c.loop-j.j c.loop-j.found c.loop-j.invariant in
    let same =
    c.with_column-found.ensures
    ∙ ap (λ (column : List (Option ℕ)). with_column c.loop-j.found column (cell_at c.table-cells.result.now c.loop-j.j)) c.fill_column.ensures
    ∙ ap (λ (cells : List Cell). with_column c.loop-j.found (ways s c.args.i c.loop-j.j) (cell_at cells c.loop-j.j)) c.table-cells.ensures in
    subst (λ (w : PointWays). AreWaysOf s c.args.i (c.loop-j.j + 1) w) (sym same) step

pub returns : goal.returns
returns c =
    let s = case_seen c.args.case.now in
    let count = cells_here s c.args.i c.requires.ready in
    let t = c.table-cells.ensures in
    let all : c.loop-j.j ≡ width s c.args.i = omega (arith, count, ap length t) in
    subst (λ (n : ℕ). AreWaysOf s c.args.i n c.loop-j.found) all c.loop-j.invariant
