use Rattle.std.proofs.Common.{[], ap, ◌∙◌}
use Rattle.trace_reader.specs.Reading.{file_traces}
use Rattle.match_work.proofs.TownTexts.{traces_read}
use Rattle.match_work.proofs.towns.read_traces.Goals as goal

pub returns : goal.returns
returns c =
    let bytes = c.as_slice.result.now in
    let fed = c.in-Ok.ensures.fed [] c.open-reader.ensures in
    let ends = c.in-Ok-finish.ensures.fed bytes fed.0 in
    traces_read bytes c.new-traces.result c.feed.new.into c.finish.new.into c.finish.new.self c.new-traces.ensures fed.1 ends ∙ ap file_traces (c.as_slice.ensures ∙ c.in_ok-bytes.ensures)
