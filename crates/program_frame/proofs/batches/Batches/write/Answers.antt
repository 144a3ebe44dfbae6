use Rattle.std.proofs.Common.{length, sym, ◌∙◌}
use Rattle.std.proofs.lemmas.Bool.{eqb-true}
use Rattle.std.proofs.lemmas.List.{nil_from_length}
use Rattle.std.proofs.lemmas.Result.{err_from_is_err_and}
use Rattle.program_frame.proofs.BatchEnds.{can_take, handed, write_done, write_stops, write_unput}
use Rattle.program_frame.proofs.batches.Batches.write.Goals as goal

pub returns-in_err-put_text-in-Ok-clause-writes : goal.returns-in_err-put_text-in-Ok-clause-writes
returns-in_err-put_text-in-Ok-clause-writes g c base traces holds =
    let p = err_from_is_err_and c.from_residual.result c.from_residual.ensures.1 in
    let hand = handed (g.J.Job.text c.args.self.now.job) (g.J.Job.has c.args.self.now.job) (g.J.Job.has c.take.new.self) c.args.self.now.waiting c.as_slice-2.result.now _ c.take.new.into c.as_slice-in-Ok.result.now _ c.as_slice-2.ensures c.new-text.ensures c.as_slice-in-Ok.ensures c.in-Ok.ensures.takes in
    rw (p.1, p.2) (write_unput (g.J.Job.has c.take.new.self) (g.K.Sink.state c.put_text.new.out) c.as_slice-in-Ok.result.now _ hand holds c.in_err-put_text-in-Ok.ensures.leaves)

pub returns-in-Err-clause-writes : goal.returns-in-Err-clause-writes
returns-in-Err-clause-writes g c base traces holds =
    let hand = handed (g.J.Job.text c.args.self.now.job) (g.J.Job.has c.args.self.now.job) (g.J.Job.has c.take.new.self) c.args.self.now.waiting c.as_slice-2.result.now _ c.take.new.into c.as_slice-in-Err.result.now _ c.as_slice-2.ensures c.new-text.ensures c.as_slice-in-Err.ensures c.in-Err.ensures.takes in
    write_stops (g.J.Job.has c.take.new.self) (g.K.Sink.state c.put_before.new.out) c.as_slice-in-Err.result.now c.in-Err.stop c.put_before.result hand holds c.put_before.ensures

pub take-requires : goal.take-requires
take-requires g c = can_take c.requires c.as_slice-2.ensures

pub returns-then-is_empty-clause-writes : goal.returns-then-is_empty-clause-writes
returns-then-is_empty-clause-writes g c base traces holds =
    (holds, sym c.as_slice.ensures ∙ nil_from_length c.as_slice.result.now (eqb-true (length c.as_slice.result.now) 0 (sym c.if-is_empty.ensures)))

pub returns-clause-writes : goal.returns-clause-writes
returns-clause-writes g c base traces holds =
    let hand = handed (g.J.Job.text c.args.self.now.job) (g.J.Job.has c.args.self.now.job) (g.J.Job.has c.take.new.self) c.args.self.now.waiting c.as_slice-2.result.now _ c.take.new.into c.as_slice-in-Ok.result.now _ c.as_slice-2.ensures c.new-text.ensures c.as_slice-in-Ok.ensures c.in-Ok.ensures.takes in
    let put = c.in_ok-put_text-in-Ok.ensures.leaves in
    write_done (g.J.Job.has c.take.new.self) (g.K.Sink.state c.put_text.new.out) c.as_slice-in-Ok.result.now c.truncate.new.self hand holds put.0 put.1 c.truncate.ensures
