use Rattle.std.proofs.Common.{◌≡◌, ◌∙◌, ℕ, List, length, sym, ap}
use Rattle.std.proofs.lemmas.Result.{IfOk-weaker}
use Rattle.std.proofs.lemmas.List.FromFn.{length-range_with_len}
use Rattle.match_pool.specs.Working.{job}
use Rattle.match_pool.proofs.Spots.{all_numbers}
use Rattle.match_pool.proofs.Turns.{works_on_all}
use Rattle.match_pool.proofs.worker.work.Goals as goal

pub work_on-requires-clause-numbers : goal.work_on-requires-clause-numbers
work_on-requires-clause-numbers g c κs within = all_numbers (length c.args.traces.now) c.as_slice.result.now (c.as_slice.ensures ∙ c.in_ok-numbers.ensures)

pub work_on-requires-clause-ticket : goal.work_on-requires-clause-ticket
work_on-requires-clause-ticket g c κs within =
    let n = length c.args.traces.now in
    let all : length c.as_slice.result.now ≡ n = ap (λ (l : List ℕ). length l) (c.as_slice.ensures ∙ c.in_ok-numbers.ensures) ∙ length-range_with_len 0 n in
    record { all = c.requires.ticket.all ∙ sym all; own = c.requires.ticket.own; opened = c.requires.ticket.opened }

pub returns-clause-works : goal.returns-clause-works
returns-clause-works g c =
    let j = job c.args.net.now c.args.p.now c.args.first c.args.traces.now in
    IfOk-weaker c.work_on.result _ _
    (λ done w. works_on_all j c.as_slice.result.now c.args.reader.now c.args.ticket.now done c.work_on.new.reader c.work_on.new.ticket (c.as_slice.ensures ∙ c.in_ok-numbers.ensures) w)
    c.work_on.ensures.works
