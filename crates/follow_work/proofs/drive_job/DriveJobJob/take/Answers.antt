use Rattle.std.proofs.Common.{refl}
use Rattle.program_frame.proofs.Bounds.{bounded_back}
use Rattle.follow_work.proofs.DriveJobs.{driven-grows, driven-more}
use Rattle.follow_work.proofs.drive_job.DriveJobJob.take.Goals as goal

pub take_fragments-requires-clause-traces : goal.take_fragments-requires-clause-traces
take_fragments-requires-clause-traces c = bounded_back c.requires.0 c.args.traces.now c.requires.2

pub returns-clause-takes : goal.returns-clause-takes
returns-clause-takes c before has bounded = (
  driven-more c.args.self.now.matcher.now c.args.self.now.idle c.args.self.now.drives c.take_fragments.new.self before c.args.traces.now _ _ has c.in_ok-take_fragments.ensures,
  refl,
  driven-grows c.args.self.now.matcher.now c.args.self.now.idle c.args.self.now.drives c.take_fragments.new.self before c.args.traces.now _ _ has c.in_ok-take_fragments.ensures,
)
