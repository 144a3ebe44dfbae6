use Rattle.follow_work.specs.inside.StreamsDone.{HasStreamed}
use Rattle.program_frame.proofs.Bounds.{bounded_back}
use Rattle.follow_work.proofs.StreamTakes.{accepted-in, can-stream, fits, not-refused, rows-are, stopped, streamed-grows, streamed-more}
use Rattle.follow_work.proofs.streams.StreamJobJob.take.Goals as goal

pub stream_fragments-requires-clause-accepted : goal.stream_fragments-requires-clause-accepted
stream_fragments-requires-clause-accepted c = accepted-in _ _ _ _ _ c.requires.1

pub stream_fragments-requires-clause-rows : goal.stream_fragments-requires-clause-rows
stream_fragments-requires-clause-rows c = rows-are _ _ _ _ _ c.requires.1

pub stream_fragments-requires-clause-fragments : goal.stream_fragments-requires-clause-fragments
stream_fragments-requires-clause-fragments c = record {
  bounded = bounded_back c.requires.0 c.args.traces.now c.requires.2;
  can = can-stream _ _ _ _ c.requires.0 c.args.traces.now c.requires.1 c.requires.2;
}

pub add-requires : goal.add-requires
add-requires c =
    fits c.args.self.now.matcher.now c.args.self.now.sessions c.stream_fragments.new.sessions c.args.self.now.rows c.args.self.now.tally c.requires.0 c.args.traces.now c.args.into.now c.stream_fragments.new.into c.in-Ok.pieces
    c.requires.1 c.requires.2 (c.in-Ok.ensures.streams _ c.requires.1.stands)

pub returns-in-Ok-clause-takes : goal.returns-in-Ok-clause-takes
returns-in-Ok-clause-takes c before has bounded =
    let takes = c.in-Ok.ensures.streams _ has.stands in (
      streamed-more c.args.self.now.matcher.now c.args.self.now.sessions c.stream_fragments.new.sessions before c.args.traces.now c.args.self.now.rows c.stream_fragments.new.rows c.args.self.now.tally c.add.new.self
          c.args.into.now c.stream_fragments.new.into c.in-Ok.pieces has bounded takes c.in-Ok.ensures.asks c.add.ensures,
      not-refused c.args.self.now.matcher.now c.args.self.now.sessions c.stream_fragments.new.sessions c.args.self.now.rows c.args.self.now.tally before c.args.traces.now c.args.into.now c.stream_fragments.new.into
          c.in-Ok.pieces has takes,
      streamed-grows c.args.self.now.matcher.now c.args.self.now.sessions c.args.self.now.rows c.args.self.now.tally before c.args.traces.now c.args.into.now c.stream_fragments.new.into has takes.written,
    )

pub returns-in-Err-clause-takes : goal.returns-in-Err-clause-takes
returns-in-Err-clause-takes c before has bounded =
    stopped c.args.self.now.matcher.now c.args.self.now.sessions c.stream_fragments.new.sessions c.args.self.now.rows c.args.self.now.tally
    (HasStreamed c.args.self.now.matcher.now c.stream_fragments.new.sessions c.stream_fragments.new.rows c.args.self.now.tally) before c.args.traces.now c.args.into.now c.stream_fragments.new.into
    c.in-Err.fault c.refuse_fault.result has (c.in-Err.ensures.streams _ has.stands) c.refuse_fault.ensures
