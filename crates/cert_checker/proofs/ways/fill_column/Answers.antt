use Rattle.std.proofs.Common.{◌≡◌, ◌≢◌, ◌<◌, ◌-◌, None, length, get_or-set_other, get_or-set_same, arith, below_more, ◌∙◌}
use Rattle.std.proofs.lemmas.List.FromFn.{fill_by_all}
use Rattle.cert_checker.specs.Case.{way, width}
use Rattle.cert_checker.specs.inside.CaseSeen.{case_seen}
use Rattle.cert_checker.proofs.ways.fill_column.Goals as goal

pub loop-a-preserved : goal.loop-a-preserved
loop-a-preserved c =
    below_more _ _
    (λ k h. let ne : k ≢ c.loop-a.a = omega arith in rw get_or-set_other (c.loop-a.invariant k h))
    (let lt : c.loop-a.a < length c.loop-a.column = omega arith in rw get_or-set_same c.way.ensures)

pub returns : goal.returns
returns c =
    let s = case_seen c.args.case.now in
    let count : length c.loop-a.column ≡ width s (c.args.i - 1) = c.loop-a.auto.column ∙ c.requires.count in
    fill_by_all (λ a. way s c.args.i a c.args.j) c.loop-a.column (width s (c.args.i - 1)) None count
    (λ k lt. c.loop-a.invariant k (omega (arith, lt, count)))
