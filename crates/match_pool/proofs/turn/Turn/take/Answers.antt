use Rattle.std.proofs.Common.{◌∙◌, ◌<◌, ℕ, List, All, length, sym, ap, subst}
use Rattle.std.proofs.lemmas.List.Elements.{All-nil}
use Rattle.tickets.specs.Tickets.{Drawn}
use Rattle.match_pool.specs.Drawing.{job_of}
use Rattle.match_pool.proofs.Taken.{turn_learns, turn_over}
use Rattle.match_pool.proofs.turn.Turn.take.Goals as goal

pub work_on-requires-clause-numbers : goal.work_on-requires-clause-numbers
work_on-requires-clause-numbers g c κs within = subst (λ (l : List ℕ). All (λ k. k < length c.args.batch.now.traces.now) l) (sym c.as_slice.ensures) c.requires.partition.inside

pub work_on-requires-clause-ticket : goal.work_on-requires-clause-ticket
work_on-requires-clause-ticket g c κs within = record {
  all = c.requires.partition.all ∙ ap (λ (l : List ℕ). length l) (sym c.as_slice.ensures);
  own = ap (λ (t : Drawn). t.claims) c.requires.fresh;
  opened = subst (λ (l : List ℕ). All (λ x. x < c.args.partition.now.claims.count) l) (sym (ap (λ (t : Drawn). t.numbers) c.requires.fresh)) (All-nil (λ x. x < c.args.partition.now.claims.count));
}

pub returns-clause-taken : goal.returns-clause-taken
returns-clause-taken g c =
    let j = job_of c.args.batch.now in
    let works = rw c.as_slice.ensures at c.in_ok-self.ensures.works in
    record {
      over = turn_over j c.args.partition.now c.args.reader.now c.args.self.now.ticket _ c.work_on.new.reader c.requires.partition c.requires.fresh c.work_on.ensures.stays.claims works;
      learns = turn_learns j c.args.partition.now c.args.reader.now c.args.self.now.ticket _ c.work_on.new.reader c.requires.fresh works;
    }

pub returns-clause-reader : goal.returns-clause-reader
returns-clause-reader g c = c.work_on.ensures.stays.reader
