use Rattle.std.proofs.Common.{refl}
use Rattle.program_frame.proofs.Counting.{fits_more}
use Rattle.program_frame.proofs.Bounds.{bounded_back}
use Rattle.follow_work.proofs.Follows.{followed_grows}
use Rattle.follow_work.proofs.FollowJobs.{followed_more}
use Rattle.follow_work.proofs.job.FollowJobJob.take.Goals as goal
use Rattle.trace_match.specs.Totals.{piece_count}

pub write_followed-requires-clause-rows : goal.write_followed-requires-clause-rows
write_followed-requires-clause-rows c = c.requires.1.rows_are

pub write_followed-requires-clause-traces : goal.write_followed-requires-clause-traces
write_followed-requires-clause-traces c = bounded_back c.requires.0 c.args.traces.now c.requires.2

pub add-requires : goal.add-requires
add-requires c =
    fits_more (piece_count c.args.self.now.matcher) c.requires.0 c.args.traces.now c.args.self.now.tally c.in_ok-pieces.pieces c.requires.2 c.requires.1.counts c.in_ok-pieces.ensures.pieces

pub returns-clause-takes : goal.returns-clause-takes
returns-clause-takes c before has bounded = (
  followed_more c.args.self.now.matcher before c.args.traces.now c.args.self.now.rows c.write_followed.new.rows c.args.self.now.tally c.add.new.self c.in_ok-pieces.pieces has c.in_ok-pieces.ensures.pieces c.in_ok-pieces.ensures.asks c.add.ensures,
  refl,
  followed_grows c.args.self.now.matcher before c.args.traces.now c.args.into.now c.write_followed.new.into c.in_ok-pieces.ensures.text,
)
