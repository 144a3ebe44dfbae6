use Rattle.std.proofs.Common.{◌≡◌, IfOk, subst, ◌∙◌}
use Rattle.town.specs.Traces.{traces_text}
use Rattle.trace_reader.specs.Reading.{file_traces}
use Rattle.match_work.proofs.TownTexts.{town_bounded, town_few, town_is}
use Rattle.match_work.proofs.towns.town_report.Goals as goal

pub report-requires-clause-traces : goal.report-requires-clause-traces
report-requires-clause-traces g c lifetimes within_lives =
    let within = c.requires.within in
    let are : c.as_slice.result.now ≡ file_traces (traces_text c.args.numbers.side c.args.numbers.traces c.args.numbers.seed) = c.as_slice.ensures ∙ c.in_ok-traces.ensures in (
      town_bounded c.args.numbers.side c.args.numbers.traces c.args.numbers.seed c.as_slice.result.now within.0.0 within.0.1 within.1.0 within.1.1 are,
      town_few c.args.numbers.side c.args.numbers.traces c.args.numbers.seed c.as_slice.result.now within.0.0 within.0.1 within.1.0 within.1.1 are,
    )

pub returns : goal.returns
returns g c =
    let is = town_is c.args.numbers.side c.args.numbers.traces c.args.numbers.seed c.args.options c.in_ok-matcher.matcher c.in_ok-network.network c.in_ok-traces.traces c.as_slice.result.now c.in_ok-matcher.ensures c.in_ok-network.ensures c.as_slice.ensures c.in_ok-traces.ensures in
    subst (λ t. IfOk c.report.result (λ text. text ≡ t)) is c.report.ensures
