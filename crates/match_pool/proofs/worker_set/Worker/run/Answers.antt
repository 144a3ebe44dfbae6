use Rattle.std.proofs.lemmas.Result.{on_ok_weaker}
use Rattle.match_pool.proofs.worker_set.Worker.run.Goals as goal

pub returns : goal.returns
returns g c = record {
  reader = c.draw_all-self.ensures.reader;
  drew_all = on_ok_weaker c.draw_all-self.result (λ t. record {
    count = t.count;
    each = λ k d e low. record { over = (t.each k d e low).over; learns = (t.each k d e low).learns };
  }) c.draw_all-self.ensures.drew_all;
}
