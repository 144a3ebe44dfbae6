use Rattle.std.proofs.Common.{arith}
use Rattle.std.proofs.lemmas.Result.{on_ok_weaker}
use Rattle.match_pool.specs.Drawing.{job_of}
use Rattle.match_pool.proofs.Draws.{drew_round}
use Rattle.match_pool.proofs.worker_set.Worker.draw_all.Goals as goal

pub returns-clause-drew_all : goal.returns-clause-drew_all
returns-clause-drew_all g c =
    on_ok_weaker c.take_turns-2.result
    (λ second. drew_round (job_of c.args.batch.now) c.args.partitions.now c.args.own c.args.self.now c.take_turns.new.self c.take_turns-2.new.self c.requires.can c.take_turns-2.ensures.reader c.in_ok-take_turns.ensures.drew_all second)
    c.take_turns-2.ensures.drew_all

pub take_turns-requires-clause-past : goal.take_turns-requires-clause-past
take_turns-requires-clause-past g c lifetimes within = (c.requires.own, omega arith)

pub take_turns-requires-2-clause-past : goal.take_turns-requires-2-clause-past
take_turns-requires-2-clause-past g c lifetimes within = (omega arith, c.requires.own)

pub returns-in_err-take_turns-clause-reader : goal.returns-in_err-take_turns-clause-reader
returns-in_err-take_turns-clause-reader g c = c.take_turns.ensures.reader
