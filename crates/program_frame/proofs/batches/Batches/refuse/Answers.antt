use Rattle.std.proofs.Common.{Some, [], ap, append-nil}
use Rattle.program_frame.specs.Batches.{with_later}
use Rattle.program_frame.specs.Jobs.{traces_give}
use Rattle.program_frame.proofs.BatchEnds.{refused_all, stops_with}
use Rattle.program_frame.proofs.batches.Batches.refuse.Goals as goal

pub returns-in-Ok-clause-refuses : goal.returns-in-Ok-clause-refuses
returns-in-Ok-clause-refuses g c base traces holds =
    let writes = c.in-Ok.ensures.writes base traces holds in
    record {
      memory = λ is. absurd (c.in_default.not-Memory is);
      known = λ known. refused_all c.args.fault c.refuse_fault.result writes.0 writes.1 c.refuse_fault.ensures;
    }

pub returns-in-Err-clause-refuses : goal.returns-in-Err-clause-refuses
returns-in-Err-clause-refuses g c base traces holds =
    let job = g.J.Job.text c.args.self.now.job in
    record {
      memory = λ is. absurd (c.in_default.not-Memory is);
      known = λ known.
          stops_with (with_later job traces) base (g.K.Sink.state c.write.new.out) (record { more = []; fault = Some c.args.fault }) (traces_give job traces (Some c.args.fault)) c.in-Err.stop (ap (λ t. traces_give job t (Some c.args.fault)) (append-nil traces)) (c.in-Err.ensures.writes base traces holds);
    }
