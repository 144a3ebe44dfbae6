use Rattle.std.proofs.Common.{◌<◌, ◌≤◌, ◌+◌, length, refl, sym, ap, ◌∙◌, arith}
use Rattle.bounded_table.specs.Table.{TableRow}
use Rattle.cert_checker.proofs.RowParts.{all_parts, one_more_part}
use Rattle.cert_checker.proofs.row_parts.row_parts.Goals as goal

pub loop-first-preserved : goal.loop-first-preserved
loop-first-preserved c =
    let at = c.loop-first in
    let end = at.first + c.min.result in
    let rows = c.args.rows.now in
    let row : TableRow = c.index-rows-end.result in
    let lt : at.first < end = omega arith in
    let le : end ≤ length rows = omega arith in
    record {
      within = le;
      found = one_more_part rows at.parts c.push.new.self _ at.least at.first end (c.from-least.result + 1) row lt le (sym c.index-rows-end.is) refl refl refl c.in_ok-push.ensures.ok
          (ap (λ v. v + 1) (c.from-least.ensures ∙ c.origin.ensures)) at.invariant.found;
    }

pub returns : goal.returns
returns c = λ n bound.
    all_parts c.args.rows.now c.loop-first.parts c.loop-first.least c.loop-first.first (omega (arith, c.loop-first-test.false)) c.loop-first.invariant.found n bound
