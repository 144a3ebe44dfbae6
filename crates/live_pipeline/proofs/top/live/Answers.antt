use Rattle.std.proofs.Common.{map, string_bytes}
use Rattle.live_pipeline.proofs.Promising.{live_promises}
use Rattle.live_pipeline.proofs.Lines.{lines_covered}
use Rattle.live_pipeline.proofs.top.live.Goals as goal

pub returns : goal.returns
returns g c =
    rw c.report.ensures.is (live_promises _ _ _ _ _ _ _ _ _ (lines_covered (map string_bytes c.args.words.now)) c.perform-ended.ensures c.report.ensures.puts c.report.ensures.quiet)
