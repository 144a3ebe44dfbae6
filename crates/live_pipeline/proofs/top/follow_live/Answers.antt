use Rattle.std.proofs.Common.{Ok, subst, inl, string_bytes}
use Rattle.follow_work.specs.Follow.{follow_job}
use Rattle.live_pipeline.specs.Living.{LivePerforms}
use Rattle.live_pipeline.proofs.Promising.{live_loads}
use Rattle.program_frame.specs.Stream.{works_traces}
use Rattle.program_frame.proofs.Stages.{loads_fails, loads_performs, memory_performs}
use Rattle.live_pipeline.proofs.top.follow_live.Goals as goal

pub returns-in-Err : goal.returns-in-Err
returns-in-Err g c = inl (loads_fails _ (λ e. cc) c.in-Err.ensures)

pub returns-in_default : goal.returns-in_default
returns-in_default g c =
    inl (loads_performs _ _ c.in-Ok.ensures (memory_performs _ (g.S.Shelf.state c.load_network.new.shelf) (g.K.Sink.state c.args.out.now)))

pub returns-in_default-open : goal.returns-in_default-open
returns-in_default-open g c =
    inl (loads_performs _ _ c.in-Ok.ensures (memory_performs _ (g.S.Shelf.state c.load_network.new.shelf) (g.K.Sink.state c.args.out.now)))

pub returns : goal.returns
returns g c =
    live_loads _ _ c.in-Ok.ensures (subst (λ n. LivePerforms (Ok (works_traces n (follow_job (record { network = c.in-Ok.roads; params = c.args.request.now.options })))) (g.S.Shelf.state c.load_network.new.shelf) (g.S.Shelf.state c.live_traces.result.1) (g.K.Sink.state c.args.out.now) (g.K.Sink.state c.live_traces.new.out) c.live_traces.result.0) c.in-Ok-from_str.ensures.ok
    (subst (λ job. LivePerforms (Ok (works_traces (string_bytes c.in-Ok-from_str.name) job)) (g.S.Shelf.state c.load_network.new.shelf) (g.S.Shelf.state c.live_traces.result.1) (g.K.Sink.state c.args.out.now) (g.K.Sink.state c.live_traces.new.out) c.live_traces.result.0) c.in-Ok-open.ensures.text c.live_traces.ensures))
