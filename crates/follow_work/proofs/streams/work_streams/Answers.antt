use Rattle.std.proofs.Common.{Ok, ◌∙◌, ap, subst}
use Rattle.program_frame.specs.Performs.{Performs}
use Rattle.program_frame.specs.Stream.{works_traces}
use Rattle.follow_work.specs.Streams.{streams_job}
use Rattle.follow_work.proofs.StreamsWithin.{within-drives, within-streams}
use Rattle.follow_work.proofs.streams.work_streams.Goals as goal

pub returns-in_ok-job : goal.returns-in_ok-job
returns-in_ok-job g c =
    subst (λ job. Performs (Ok (works_traces c.args.files.now.traces.now job)) (g.S.Shelf.state c.args.shelf.now) (g.S.Shelf.state c.work_traces.new.shelf) (g.K.Sink.state c.args.out.now)
    (g.K.Sink.state c.work_traces.new.out) c.work_traces.result) (c.in_ok-job.ensures.text ∙ within-drives c.args.matcher.now c.args.files.now.idle c.if-files-lt4294967295.true) c.work_traces.ensures

pub returns-in_ok-job-2 : goal.returns-in_ok-job-2
returns-in_ok-job-2 g c =
    subst (λ job. Performs (Ok (works_traces c.args.files.now.traces.now job)) (g.S.Shelf.state c.args.shelf.now) (g.S.Shelf.state c.work_traces-else-files-lt4294967295.new.shelf) (g.K.Sink.state c.args.out.now)
    (g.K.Sink.state c.work_traces-else-files-lt4294967295.new.out) c.work_traces-else-files-lt4294967295.result)
    (ap streams_job c.in_ok-job-2.ensures.matcher ∙ within-streams c.args.matcher.now c.args.files.now.idle c.if-files-lt4294967295.false) c.work_traces-else-files-lt4294967295.ensures
